-- Rows that were listed: none of them is damaged.
use Rattle.std.proofs.Common.{◌≡◌, ℕ, cond, List, map, find, Option, Some, None, ap, sym, ◌∙◌}
use Rattle.std.proofs.lemmas.List.Elements.{All-from_recursion}
use Rattle.std.specs.{FinMap.entries, FinMap.get-entries, FinMap.Entries.find-where_key, FinMap.Entries.where_key, List.AllByRecursion}
use Rattle.office_tables_shelf.proofs.CellLemmas.{cells_exact, find_entry, held, is_under, tied}
use Rattle.office_tables_shelf.proofs.ListLemmas.{all_in, entry, found_has, where_all}
use Rattle.office_tables_shelf.specs.{Cells.Cell, Cells.cells_cmp, Content.Content, Content.rows_at, Damage.HasAnyDamagedIntersection, Rows.intersection_columns, Rows.intersection_key, Reads.is_among, Reads.HasDamagedRow, CabinetReads.IsOfOne, Rows.IsIntersectionRow, Shelf.ListsIntersections, declared.rows.Table.Table, declared.rows.IntersectionRow.IntersectionRow}
use Rattle.std.specs.FinMap as finite
use Rattle.office_tables_shelf.specs.declared.rows.Table.TheVariants as table

module _ {X : Type 0} (t : Table) (Within : X → Type 0) (key columns : X → List Cell) where
  -- what stands under a key is one of the rows
  found_row : (xs : List X) (q cells : List Cell) → AllByRecursion Within xs
      → finite.find cells_cmp q (map (entry key columns) xs) ≡ Some cells
      → (x : X) × Within x × (q ≡ key x) × (cells ≡ columns x)
  found_row xs q cells each is =
      let row = held columns (find (is_under key columns q) xs) cells (sym is ∙ find_entry key columns xs q) in
      let there = found_has (is_under key columns q) xs row.0 row.1 in
      let whole = all_in Within xs row.0 (All-from_recursion Within xs each) there.0 in
      (row.0, whole, cells_exact q (key row.0) (tied _ there.1), row.2)

  -- none of the rows of an intersection, or of all, is damaged, where those that were listed are
  -- all within their limits
  pub listed_whole : (tables : Content) (whose : Option ℕ) (xs : List X)
      → map (entry key columns) xs
      ≡ where_key cells_cmp (is_among whose) (entries (rows_at tables t))
      → AllByRecursion Within xs → ¬ HasDamagedRow t Within key columns tables whose
  listed_whole tables whose xs lists each damaged =
      let q = damaged.key in
      let rows = rows_at tables t in
      let is = found_row xs q damaged.columns each (
      ap (finite.find cells_cmp q) lists
      ∙ find-where_key cells_cmp (is_among whose) q
      (λ other tie. ap (is_among whose) (sym (cells_exact q other tie))) (entries rows)
      ∙ ap (λ b. cond b (finite.find cells_cmp q (entries rows)) None) damaged.of
      ∙ sym (get-entries rows q) ∙ damaged.stored) in
      damaged.no_row is.0 is.1 is.2 is.3

pub intersections_whole : (tables : Content) (rows : List (ℕ × IntersectionRow))
    → ListsIntersections tables rows → AllByRecursion (IsOfOne IsIntersectionRow) rows
    → ¬ HasAnyDamagedIntersection tables
intersections_whole tables rows lists =
    listed_whole table.Intersection (IsOfOne IsIntersectionRow) (λ e. intersection_key e.0)
    (λ e. intersection_columns e.1) tables None rows
    (lists ∙ sym (where_all (entries tables.intersection)))
