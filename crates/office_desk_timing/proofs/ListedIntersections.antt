-- An intersection has as many rows in the table as its committed set has; and the list of the intersections is what it is of an office.
use Rattle.std.proofs.Common.{◌≡◌, ℕ, Bool, true, List, [], ◌∷◌, length, map, cond, Option, Some, None, refl, ap, sym, subst, ◌∙◌}
use Rattle.std.proofs.lemmas.{Cmp.nat_cmp_total, List.length-map}
use Rattle.std.specs.{FinMap.get, FinMap.len, FinMap.entries, FinMap.entries_sorted, FinMap.get-entries, FinMap.len-entries, List.AllByRecursion, Prelude.IfSome, declared.cmp.Ordering.TheVariants.Equal, FinMap.Entries.is_sorted-where_key, FinMap.Entries.find-where_key, FinMap.Entries.same_entries}
use Rattle.cabinet_core.proofs.EntryLemmas.{entries_stand}
use Rattle.signal_records.specs.{KeyOrder.key_total, TimingSet.Rows, declared.key.Key.Key}
use Rattle.office_tables_shelf.specs.{Cells.Cell, Cells.TableRows, Cells.cells_cmp, Cells.tree_rows, Content.Content, Rows.timing_key, Rows.timing_columns, Shelf.is_of, Shelf.rows_of}
use Rattle.office_tables_shelf.proofs.{CellLemmas.cells_exact, CellLemmas.cells_total, KeyLemmas.of_itself, StoredMaps.get_stored, StoredMaps.stored_entries, StoredMaps.stored_found, TreeLemmas.timing_order}
use Rattle.office_machine.specs.{Listed.intersection_listed, Listed.intersections_of, Office.Office, Office.Intersection, Office.side_at, Office.side_of, declared.intersections.ListedIntersection.ListedIntersection}
use Rattle.office_tables_decisions.specs.StandFor.{StandForSound, row_of}
use Rattle.office_desk_timing.specs.Listing.{ListsEachIntersection, listed_in}
use Rattle.office_desk_timing.proofs.{IntersectionTable.Entry, IntersectionTable.of_entry, IntersectionTable.rows_read, Stands.own}
use Rattle.std.specs.FinMap as finite

module _ (tables : Content) (office : Office) (id : ℕ) (stands : StandForSound tables office) where
  abbrev committed : Rows
  committed = (side_at office id).committed

  -- the rows of the set, in cells
  abbrev stored : TableRows
  stored = tree_rows (timing_key id) timing_columns (entries committed)

  -- the rows of the intersection have under cells what those of the set have
  abbrev Alike : List Cell → Type 0
  Alike q = finite.find cells_cmp q (rows_of id tables.timing) ≡ get stored q

  found : (q : List Cell) → finite.find cells_cmp q (rows_of id tables.timing) ≡ cond (is_of id q) (get tables.timing q) None
  found q =
      let same : (k : List Cell) → cells_cmp q k ≡ Equal → is_of id k ≡ is_of id q = λ k tie. ap (is_of id) (sym (cells_exact q k tie)) in
      find-where_key cells_cmp (is_of id) q same (entries tables.timing) ∙ ap (λ o. cond (is_of id q) o None) (sym (get-entries tables.timing q))

  at_key : (q : List Cell) (key : Key) → q ≡ timing_key id key → Alike q
  at_key q key here = subst Alike (sym here) (
      found (timing_key id key) ∙ ap (λ b. cond b (get tables.timing (timing_key id key)) None) (of_itself id key)
      ∙ stands.stand.timing id key
      ∙ sym (get_stored key_total (timing_key id) timing_columns (timing_order id) committed key))

  alike : (q : List Cell) → Alike q
  alike q = go (get stored q) (is_of id q) (get tables.timing q) refl refl refl
    where
      go : (o : Option (List Cell)) (b : Bool) (p : Option (List Cell)) → get stored q ≡ o → is_of id q ≡ b → get tables.timing q ≡ p → Alike q
      go (Some columns) b p is of at =
          let here = stored_found key_total (timing_key id) timing_columns (timing_order id) committed q columns is in
          at_key q here.0 here.2
      go None true (Some columns) none of at = let mine = own tables.timing id q columns stands.stand.timing_keys of at in at_key q mine.0 mine.1
      go None _ _ none of at = found q ∙ (λ i. cond (of i) (at i) None) ∙ sym none

  pub committed_counted : length (rows_of id tables.timing) ≡ len committed
  committed_counted =
      let same = same_entries cells_cmp cells_total cells_exact (rows_of id tables.timing) (entries stored)
      (is_sorted-where_key cells_cmp (is_of id) (entries tables.timing) (entries_sorted tables.timing)) (entries_sorted stored) (λ q. alike q ∙ get-entries stored q) in
      ap length (same ∙ stored_entries key_total (timing_key id) timing_columns (timing_order id) committed)
      ∙ length-map (entries committed) _ ∙ sym (len-entries committed)

-- ---- the list of an office

module _ (tables : Content) (office : Office) (stands : StandForSound tables office) where
  abbrev IsListed : ℕ → Intersection → Type 0
  IsListed id i = listed_in tables (id, row_of i) ≡ intersection_listed (id, i)

  one_listed : (id : ℕ) (o : Option Intersection) → get office.intersections id ≡ o → IfSome o (IsListed id)
  one_listed id None there = tt
  one_listed id (Some i) there =
      λ k. record (intersection_listed (id, i)) { rows = (committed_counted tables office id stands ∙ ap (λ (o : Option Intersection). len (side_of o).committed) there) k }

  each_listed : (es : List Entry) → AllByRecursion (λ e. IsListed e.0 e.1) es → map (listed_in tables) (map of_entry es) ≡ map intersection_listed es
  each_listed [] all = refl
  each_listed (e ∷ es) all = λ k. all.0 k ∷ each_listed es all.1 k

  pub all_listed : (found : List ListedIntersection) → ListsEachIntersection tables found → found ≡ intersections_of office
  all_listed found lists =
      lists.found_is
      ∙ ap (λ rows. map (listed_in tables) rows) (rows_read tables office stands.stand lists.rows lists.lists)
      ∙ each_listed (entries office.intersections)
      (entries_stand nat_cmp_total IsListed office.intersections (λ id. one_listed id (get office.intersections id) refl))
