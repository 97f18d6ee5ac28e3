-- What the queries on a table show: those of its rows, of how many they are, and of one row by its key.
use Rattle.std.proofs.Common.{◌≡◌, inl, inr, ℕ, false, List, [], ◌∷◌, map, length, refl, sym, subst, ap, ◌∙◌, find, Option, Some, None, IfSome, option_map, ◌<◌, ◌^◌, min, Bool, filter, pos, arith}
use Rattle.std.specs.{FinMap.entries, FinMap.get, FinMap.Entries.where_key, Option.option_to_list, List.IsDistinct, List.AllByRecursion, List.list_all, List.AllZip, List.Sorted.IsPermutation, Ordering.is_eq, Ordering.eq_by_cmp}
use Rattle.sqlite.specs.{declared.types.Value.TheVariants.Null, declared.types.Value.TheVariants.Int, Effect.Database, Effect.IsDatabase, Order.Row, Order.column, Program.overlay, Term.Term, Term.holds, Term.Env, Query.IsAnswer, Query.inner, Query.end, Query.matches, Query.output, Query.Output, View.IsShaped}
use Rattle.sqlite_rules.proofs.ListLemmas.{all_from, all_has, has_found}
use Rattle.sqlite_rules.specs.Lists.{Has}
use Rattle.sqlite_schema.specs.Rules.{Obeys, clashes}
use Rattle.sqlite_value.specs.Keys.{plain}
use Rattle.office_tables_shelf.specs.{Cells.Cell, Cells.cells_cmp, Cells.number, Content.Content, Shelf.is_of, Shelf.rows_of, declared.rows.Table.Table}
use Rattle.office_tables_statements.specs.{Calls.AreOrdered, Calls.Reads, Layout.values_at, Layout.has_key, Schema.office_schema}
use Rattle.office_tables_statements.specs.Stored.{cells_at, rows_in, content_of, cells, cell_of}
use Rattle.office_tables_statements.specs.Tables.{names_of, rows_at, layout_at, schema_at, key_shown, columns_shown, row_shown, width_of, filter_of, of_first, params_of, is_among, rows_among, listed_by, IsListText, IsNoRow, HasDamagedRow, places_of, key_given, IsKeyOf, IsUnder, IsFindText, count_grouping, counted_by, IsCountText}
use Rattle.office_tables_statements.proofs.StoredLemmas.{HaveKeys, same_order, sound_rowids, agree_ties, get_columns}
use Rattle.office_tables_statements.proofs.{Meaning.is_command, SoundLemmas.sound_keys, ListedLemmas.distinct_keys, ListedLemmas.distinct_rising, ListedLemmas.is_in}
use Rattle.office_tables_statements.proofs.ListedLemmas.{unique_by, listing, shown_width, counted, distinct_kept}
use Rattle.office_tables_statements.proofs.TableLemmas.{is_listed, is_low, OwnKey, facts, passes, among, listing_of, in_tree}
use Rattle.office_tables_statements.proofs.QueryLemmas.{Passes, found_by_key, has_width, matched}
use Rattle.office_tables_shelf.proofs.{ListLemmas.stands, CellLemmas.cells_exact, CellLemmas.tied}
use Rattle.std.proofs.lemmas.List.{length-map, Sorted.length_permutation}
use Rattle.sqlite.proofs.Callers.{one_permutation}
use Rattle.sqlite_sql.specs.{Aggregate.count, Group.IsSummary, Group.value_over}
use Rattle.sqlite.specs.Effect as effect
use Rattle.sqlite_trees.specs.declared.store.Shape.TheVariants as shape
use Rattle.office_tables_shelf.specs.declared.rows.Table.TheVariants as table

-- ---- one group, and how many it has

values_are : (order : List Env) (values : Row) → AllZip (λ a v. value_over order a ≡ Some v) count_grouping.aggregates values → values ≡ count (length order) ∷ []
values_are order [] h = absurd h
values_are order (v ∷ []) h =
    let many : Some (count (length order)) ≡ Some v = sym (ap (λ n. Some (count n)) (length-map order _)) ∙ h.0 in
    let is : v ≡ count (length order) = cc in
    ap (λ x. x ∷ []) is
values_are order (v ∷ w ∷ vs) h = absurd h.1

summary_is : (order : List Env) (rows : List Row) → AllZip (IsSummary count_grouping) (order ∷ []) rows → rows ≡ (count (length order) ∷ []) ∷ []
summary_is order [] h = absurd h
summary_is order (row ∷ []) h = let s = h.0 in ap (λ (r : Row). r ∷ []) (s.2 ∙ values_are order s.0 s.1)
summary_is order (row ∷ x ∷ rows) h = absurd h.1

-- ---- the rows that pass

as_many : (filters : List Term) (params : Row) (tree : ℕ) (test : Row → Bool) (rows : List Row) → Passes filters params test rows → length (matches (λ _. rows) filters (inner tree end) (params ∷ [])) ≡ length (filter test rows)
as_many filters params tree test rows passes =
    ap length (matched tree filters params test rows passes)
    ∙ length-map (filter test rows) (λ (row : Row). params ∷ row ∷ [])

small : (n many : ℕ) → n < 2 ^ 32 → min many 9223372036854775807 ≡ n → n ≡ many
small n many low is = omega (arith, low, is)

-- rising rowids are keys that differ
pub rowids_distinct : (rows : List Row) → IsShaped shape.Table rows → IsDistinct (eq_by_cmp cells_cmp) (map (cells_at (0 ∷ [])) rows)
rowids_distinct rows shaped =
    let sound = sound_rowids (layout_at table.Intersection) refl rows shaped in
    distinct_rising (0 ∷ []) rows shaped.0 (λ r x here there below.
    ap is_eq (sym (same_order (0 ∷ []) (0 ∷ []) r x (sound r here) (sound x there)))
    ∙ rw below refl)

module _ (t : Table) (db : Database) (is : db.schema ≡ office_schema) (sound : IsDatabase db) (ordered : AreOrdered db.trees) where
  abbrev rows : List Row
  rows = db.trees (schema_at t).tree

  obeys : Obeys office_schema db.trees
  obeys = subst (λ schema. Obeys schema db.trees) is sound.obeys

  pub shaped : IsShaped shape.Table rows
  shaped = all_has (λ x. IsShaped shape.Table (db.trees x.tree)) office_schema.tables (schema_at t) ordered (is_listed t)

  -- each row has a sound key
  pub own_keys : HaveKeys (layout_at t) rows
  own_keys = elim (facts t).key [
    | inl rowids ↦ sound_rowids (layout_at t) rowids rows shaped
    | inr own ↦ sound_keys office_schema db.trees obeys (schema_at t) (is_listed t) own.keyless (layout_at t) own.sound
  ]

  unique : (own : OwnKey t) (row : Row) → Has rows row → clashes plain (layout_at t).keys rows row ≡ false
  unique own row there =
      let free = unique_by office_schema db.trees obeys (schema_at t) (is_listed t) own.index own.has own.guard row there in
      subst (λ columns. clashes plain columns rows row ≡ false) own.columns (subst (λ order. clashes order own.index.columns rows row ≡ false) own.order free)

  -- and no two rows the same
  pub distinct : IsDistinct (eq_by_cmp cells_cmp) (map (cells_at (layout_at t).keys) rows)
  distinct = elim (facts t).key [
    | inl rowids ↦ subst (λ keys. IsDistinct (eq_by_cmp cells_cmp) (map (cells_at keys) rows)) (sym rowids) (rowids_distinct rows shaped)
    | inr own ↦ distinct_keys (layout_at t) rows shaped own_keys (unique own)
  ]

  -- that tree, in a query
  pub seen : overlay db.trees [] (layout_at t).tree ≡ db.trees (schema_at t).tree
  seen = is_low t db.trees

  -- the query of a list
  module _ (whose : Option ℕ) (sql : List ℕ) (means : IsListText t whose sql) (shown : List Row)
      (reads : Reads sql (params_of whose) db shown) where
    answer : IsAnswer (listed_by (layout_at t) (filter_of t whose)) (overlay db.trees [])
        (params_of whose) shown
    answer =
        let got = subst (λ k. effect.Reads k db (params_of whose) shown) (is_command sql _ means) reads in
        got.answer Null

    -- it shows its rows
    pub lists : map (row_shown t) shown ≡ rows_among whose (rows_at (content_of db.trees) t)
    lists =
        listing (layout_at t) (filter_of t whose) (key_shown t) (columns_shown t)
        (listing_of (filter_of t whose) t) (params_of whose) (is_among whose) (overlay db.trees []) rows seen own_keys
        distinct (λ row there. passes t whose row (own_keys row there)) shown answer
        ∙ ap (λ rows. where_key cells_cmp (is_among whose) (entries rows)) (sym (in_tree t db.trees))
        ∙ among whose (rows_at (content_of db.trees) t)

    -- with all columns
    pub width : AllByRecursion (λ row. length row ≡ width_of t) shown
    width = all_from (λ (row : Row). length row ≡ width_of t) shown
        (shown_width (layout_at t) (filter_of t whose) (key_shown t) (columns_shown t)
        (listing_of (filter_of t whose) t) (params_of whose) (is_among whose) (overlay db.trees []) rows seen own_keys
        distinct (λ row there. passes t whose row (own_keys row there)) shown answer)

  -- ---- how many there are of an intersection

  module _ (sql : List ℕ) (means : IsCountText t sql) (id : ℕ) where
    abbrev params : Row
    params = Int (pos id) ∷ []

    abbrev of : Row → Bool
    of row = is_of id (cells_at (layout_at t).keys row)

    count_shown : (low : List Row) (row : Option Row) → overlay db.trees [] (layout_at t).tree ≡ low → IsAnswer (counted_by (layout_at t) (of_first t)) (overlay db.trees []) params (option_to_list row)
        → (order : List Env) × (length order ≡ length (matches (λ _. low) (of_first t) (inner (layout_at t).tree end) (params ∷ []))) × (option_to_list row ≡ (count (length order) ∷ []) ∷ [])
    count_shown low row at a =
        let g = a.grouped in
        let order = g.grouping.0 in
        let rows_are = summary_is order g.rows (subst (λ groups. AllZip (IsSummary count_grouping) groups g.rows) g.grouping.2 g.summaries) in
        let one : a.kept ≡ ([], count (length order) ∷ []) ∷ [] = a.distinct ∙ ap (map (output (counted_by (layout_at t) (of_first t)))) (g.having ∙ ap (λ (rs : List Row). filter (λ env. list_all (holds env) []) (map (λ (r : Row). params ∷ r ∷ []) rs)) rows_are) in
        let alone = one_permutation ([], count (length order) ∷ []) a.ordered (subst (λ os. IsPermutation os a.ordered) one a.same) in
        (order, length_permutation _ order g.grouping.1 ∙ ap (λ (rs : List Row). length (matches (λ _. rs) (of_first t) (inner (layout_at t).tree end) (params ∷ []))) at, a.shown ∙ ap (map (λ (o : Output). o.1)) alone)

    -- the number that is shown is that of the rows of the intersection
    pub counts : (row : Row) → Reads sql params db (row ∷ []) → (n : ℕ) → n < 2 ^ 32 → cell_of (column row 0) ≡ number (pos n) → n ≡ length (rows_of id (rows_at (content_of db.trees) t))
    counts row reads n low is_n =
        let got = subst (λ k. effect.Reads k db params (row ∷ [])) (is_command sql _ means) reads in
        let it = count_shown rows (Some row) seen (got.answer Null) in
        let same : row ∷ [] ≡ (count (length it.0) ∷ []) ∷ [] = it.2 in
        let here : cell_of (column row 0) ≡ number (pos (min (length it.0) 9223372036854775807)) = ap (λ (rs : List Row). first_cell rs) same in
        let number_is : number (pos (min (length it.0) 9223372036854775807)) ≡ number (pos n) = sym here ∙ is_n in
        let capped : min (length it.0) 9223372036854775807 ≡ n = cc in
        let passed = λ (r : Row) (there : Has rows r). (facts t).first id r (own_keys r there) in
        let apart = distinct_kept (eq_by_cmp cells_cmp) (cells_at (layout_at t).keys) of rows distinct in
        small n (length it.0) low capped ∙ it.1 ∙ as_many (of_first t) params (layout_at t).tree of rows passed
        ∙ sym (counted (cells_at (layout_at t).keys) (cells_at (layout_at t).columns) (is_of id) rows apart) ∙ ap (λ m. length (rows_of id m)) (sym (in_tree t db.trees))
      where
        first_cell : List Row → Cell
        first_cell [] = number (pos 0)
        first_cell (r ∷ rs) = cell_of (column r 0)

  -- ---- one row by its key

  module _ (sql : List ℕ) (means : IsFindText t sql) (key : Row) (given : IsKeyOf t key) where
    abbrev shown : Row → Row
    shown = values_at (places_of t)

    stored : (hit : Option Row) → option_map (columns_shown t) (option_map shown hit) ≡ option_map cells (option_map (values_at (layout_at t).columns) hit)
    stored None = refl
    stored (Some r) = ap Some ((listing_of [] t).others r)

    named : (hit : Option Row) → find (has_key (layout_at t) key) rows ≡ hit → IfSome (option_map shown hit) (λ row. key_shown t row ≡ key_given t key)
    named None at = tt
    named (Some r) at =
        let there = has_found (has_key (layout_at t) key) rows r at in
        let whole = own_keys r there.0 in
        (listing_of [] t).keys r ∙ cells_exact _ _ (tied _ (sym (agree_ties (layout_at t).keys (layout_at t).places r key whole given) ∙ there.1))

    pub finds : (row : Option Row) → Reads sql key db (option_to_list row) → IsUnder t (content_of db.trees) (key_given t key) row
    finds row reads =
        let hit = find (has_key (layout_at t) key) rows in
        let at = found_by_key (layout_at t) (facts t).paired (places_of t) sql (names_of t) means key
        db rows seen row reads in
        record {
          stored = ap (option_map (columns_shown t)) at ∙ stored hit ∙ sym (get_columns (layout_at t) rows key own_keys given) ∙ ap (λ m. get m (key_given t key)) (sym (in_tree t db.trees));
          keyed = subst (λ o. IfSome o (λ row. key_shown t row ≡ key_given t key)) (sym at) (named hit refl);
          wide = has_width (layout_at t) (facts t).paired (places_of t) sql (names_of t) means key db rows seen row reads;
        }

-- a shown row that is no record
module _ {X : Type 0} (t : Table) (is_within : X → Type 0) (key columns : X → List Cell) where
  pub damaged_at : (tables : Content) (whose : Option ℕ) (rows : List Row) → map (row_shown t) rows ≡ rows_among whose (rows_at tables t) → AllByRecursion (λ row. length row ≡ width_of t) rows
      → (row : Row) → Has rows row → (length row ≡ width_of t → IsNoRow is_within key columns (key_shown t row) (columns_shown t row)) → HasDamagedRow t is_within key columns tables whose
  damaged_at tables whose rows is width row there none =
      let all = is ∙ sym (among whose (rows_at tables t)) in
      let here = stands (key_shown t) (columns_shown t) (is_among whose) (rows_at tables t) rows all row (is_in rows row there) in
      record { key = key_shown t row; columns = columns_shown t row; of = here.0; stored = here.1; no_row = none (all_has (λ (r : Row). length r ≡ width_of t) rows row width there) }
