-- New tables in memory stand for a new office.
use Rattle.std.proofs.Common.{◌≡◌, ℕ, List, [], ◌∷◌, length, Option, Some, None, option_map, refl, sym, ap, subst, ◌∙◌, arith}
use Rattle.std.specs.{Prelude.IfSome, Int.IsInRange, Ordering.nat_cmp, FinMap.empty, FinMap.entries, FinMap.get, FinMap.get-empty}
use Rattle.std.specs.FinMap.{len-empty, len-entries}
use Rattle.signal_records.specs.Key.{key_cmp}
use Rattle.draft_core.specs.DraftRows.{RowStands, silent}
use Rattle.office_tables_shelf.specs.{Cells.Cell, Cells.TableRows, Cells.tree_rows, Cells.cells_cmp, Content.Content, Content.no_content}
use Rattle.office_tables_shelf.specs.Rows.{intersection_key, timing_key, timing_columns}
use Rattle.office_desk_cabinet.proofs.EmptyRegister.{nothing_registered}
use Rattle.office_machine.specs.Office.{Intersection, IsSoundIntersection, side_of}
use Rattle.office_desk.specs.StandFor.{StandForSound, columns_of}
use Rattle.signal_office.specs.Memory.{new_office}

no_items : {X : Type 0} (xs : List X) → length xs ≡ 0 → xs ≡ []
no_items [] e = refl
no_items (x ∷ xs) e = absurd (omega arith)

no_entries : entries (empty {X = Intersection} {R = nat_cmp}) ≡ []
no_entries = no_items _ (sym (len-entries empty) ∙ len-empty nat_cmp Intersection)

-- a row of no table
nothing_at : (rows : TableRows) (cells columns : List Cell) → rows ≡ empty → get rows cells ≡ Some columns → ⊥
nothing_at rows cells columns none stored =
    let read : None ≡ Some columns = sym (ap (λ r. get r cells) none ∙ get-empty cells_cmp cells) ∙ stored in
    cc

-- tables without a row stand for an office without intersections
pub nothing_stands : (tables : Content) → tables ≡ no_content → StandForSound tables new_office
nothing_stands tables none = record {
  stand = record {
    intersection = ap (λ (t : Content). t.intersection) none ∙ ap (λ (es : List (ℕ × Intersection)). tree_rows intersection_key columns_of es) (sym no_entries);
    timing = λ id key.
        ap (λ (t : Content). get t.timing (timing_key id key)) none ∙ get-empty cells_cmp (timing_key id key)
        ∙ sym (ap (λ (o : Option Intersection). option_map timing_columns (get (side_of o).committed key)) (get-empty nat_cmp id) ∙ ap (option_map timing_columns) (get-empty key_cmp key));
    timing_keys = λ cells columns stored. absurd (nothing_at tables.timing cells columns (ap (λ (t : Content). t.timing) none) stored);
    draft = λ id key. record {
      said = silent;
      stored = ap (λ (t : Content). get t.draft (timing_key id key)) none ∙ get-empty cells_cmp (timing_key id key);
      stands = subst (λ (o : Option Intersection). RowStands (get (side_of o).committed key) silent (side_of o).draft key) (sym (get-empty nat_cmp id)) refl;
      within = tt;
    };
    draft_keys = λ cells columns stored. absurd (nothing_at tables.draft cells columns (ap (λ (t : Content). t.draft) none) stored);
    register = (nothing_registered tables none).stand;
  };
  sound = record {
    numbers = λ id. subst (λ (o : Option Intersection). IfSome o (λ _. IsInRange 1 9999 id)) (sym (get-empty nat_cmp id)) tt;
    intersections = λ id. subst (λ (o : Option Intersection). IfSome o IsSoundIntersection) (sym (get-empty nat_cmp id)) tt;
    register = (nothing_registered tables none).sound;
  };
}
