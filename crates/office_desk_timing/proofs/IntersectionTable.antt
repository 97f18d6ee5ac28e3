-- The table of the intersections has their rows in the order of their numbers; each is a record, and is told by its cells.
use Rattle.std.proofs.Common.{◌≡◌, ℕ, List, map, Option, Some, None, IsSome, IfSome, refl, ap, sym, subst, ◌∙◌, arith, option_map}
use Rattle.std.specs.{Cmp.nat_cmp_total, Int.IsInRange, FinMap.entries, FinMap.get}
use Rattle.office_tables_shelf.specs.{Rows.intersection_key, Rows.intersection_columns, Cells.Cell, Cells.TableRows, Content.Content, Damage.HasAnyDamagedIntersection, Shelf.IsThere, Shelf.ListsIntersections, Shelf.ReadsIntersection, declared.rows.IntersectionRow.IntersectionRow}
use Rattle.office_tables_shelf.proofs.{KeyCells.intersection_order, StoredMaps.get_stored, StoredMaps.stored_entries, StoredMaps.stored_found}
use Rattle.office_machine.specs.Office.{Office, Intersection, IsSoundIntersection}
use Rattle.office_tables_decisions.specs.StandFor.{StandFor, StandForSound, columns_of, row_of}
use Rattle.office_tables_decisions.proofs.RowsTell.{rows_tell}

-- ---- a row is told by its cells

row_from_cells : (a b : IntersectionRow) → intersection_columns a ≡ intersection_columns b → a ≡ b
row_from_cells a b e = grind arith

-- ---- the row of one intersection

same_read : (row : Option IntersectionRow) (i : Option Intersection) → option_map intersection_columns row ≡ option_map columns_of i → row ≡ option_map row_of i
same_read row i e = grind (arith, row_from_cells)

-- the row that was read is that of the office
pub row_read : (tables : Content) (office : Office) (id : ℕ) (row : Option IntersectionRow) → StandFor tables office → ReadsIntersection tables id row → row ≡ option_map row_of (get office.intersections id)
row_read tables office id row stand reads = same_read row (get office.intersections id) (sym reads
    ∙ ap (λ (rows : TableRows). get rows (intersection_key id)) stand.intersection
    ∙ get_stored nat_cmp_total intersection_key columns_of intersection_order office.intersections id)

module _ (tables : Content) (office : Office) (id : ℕ) (stands : StandForSound tables office) where
  pub there : (row : IntersectionRow) → ReadsIntersection tables id (Some row) → (i : Intersection) × (get office.intersections id ≡ Some i) × (row ≡ row_of i)
  there row reads =
      elim (get office.intersections id) as (λ o. Some row ≡ option_map row_of o → (i : Intersection) × (o ≡ Some i) × (row ≡ row_of i)) [
        | None ↦ λ e. absurd cc
        | Some i ↦ λ e. (i, refl, let same : row ≡ row_of i = cc in same)
      ] (row_read tables office id (Some row) stands.stand reads)

  pub not_there : ReadsIntersection tables id None → get office.intersections id ≡ None
  not_there reads = let same = row_read tables office id None stands.stand reads in grind arith

  pub sound_there : (i : Intersection) → get office.intersections id ≡ Some i → IsInRange 1 9999 id × IsSoundIntersection i
  sound_there i is = (
    subst (λ o. IfSome o (λ _. IsInRange 1 9999 id)) is (stands.sound.numbers id),
    subst (λ o. IfSome o IsSoundIntersection) is (stands.sound.intersections id),
  )

-- where a row was read, one stands
pub row_there : (tables : Content) (id : ℕ) (row : IntersectionRow) → ReadsIntersection tables id (Some row) → IsThere tables id
row_there tables id row reads = subst (λ (o : Option (List Cell)). IsSome o) (sym reads) refl

-- ---- all rows

abbrev pub Entry : Type 0
Entry = ℕ × Intersection

-- the row of an intersection, beside its number
abbrev pub of_entry : Entry → ℕ × IntersectionRow
of_entry e = (e.0, row_of e.1)

one_read : (a : ℕ × IntersectionRow) (e : Entry) → ◌≡◌ {A = List Cell × List Cell} (intersection_key a.0, intersection_columns a.1) (intersection_key e.0, columns_of e.1) → a ≡ of_entry e
one_read a e same = grind (arith, row_from_cells)

-- the rows that are read are those of the intersections
pub rows_read : (tables : Content) (office : Office) → StandFor tables office → (rows : List (ℕ × IntersectionRow)) → ListsIntersections tables rows → rows ≡ map of_entry (entries office.intersections)
rows_read tables office stand rows lists =
    rows_tell _ _ of_entry one_read rows (entries office.intersections) (lists
    ∙ ap (λ (rows : TableRows). entries rows) stand.intersection
    ∙ stored_entries nat_cmp_total intersection_key columns_of intersection_order office.intersections)

-- ---- each is a record

pub no_damaged_intersection : (tables : Content) → HasAnyDamagedIntersection tables → (office : Office) → StandForSound tables office → ⊥
no_damaged_intersection tables damaged office stands =
    let found = stored_found nat_cmp_total intersection_key columns_of intersection_order office.intersections damaged.key damaged.columns
    (sym (ap (λ (rows : TableRows). get rows damaged.key) stands.stand.intersection) ∙ damaged.stored) in
    let sound = sound_there tables office found.0 stands found.1 found.4 in
    damaged.no_row (found.0, row_of found.1) (
      sound.0,
      record {
        name = sound.1.name;
        interval_low = sound.1.interval_low;
        interval_high = sound.1.interval_high;
        revision = sound.1.revision;
        owner = let draft = sound.1.draft in grind (arith, draft);
      },
    ) found.2 found.3
