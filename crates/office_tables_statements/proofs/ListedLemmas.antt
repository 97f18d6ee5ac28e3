-- Rows of which no two have the same key, and a query with ORDER BY over the whole key: it shows the rows of a table as its map has them.
use Rattle.std.proofs.Common.{◌≡◌, inl, inr, ℕ, ◌+◌, ◌<◌, Bool, false, List, [], ◌∷◌, ◌++◌, map, filter, length, get_or, Ordering, refl, sym, ap, subst, subst₂, ◌∙◌, arith, ℤ, suc, true, not, ◌&&◌, cond, None, option_map, is_some, Less, Equal, true≢false}
use Rattle.std.proofs.lemmas.Bool.{cases_Bool, false_from_ne_true, and_from, not-true}
use Rattle.std.proofs.lemmas.{List.get_or_default, List.length-map, List.Sorted.IsPermutation-map, Map.Keys.IsDistinct-IsPermutation}
use Rattle.std.specs.{Cmp.eq_by_cmp_equiv, List.IsDistinct, List.list_all, FinMap.entries, FinMap.get, FinMap.len, FinMap.entries_sorted, FinMap.get-entries, FinMap.len-entries, FinMap.len-empty, FinMap.len-insert, FinMap.Entries.where_key, List.Sorted.IsPermutation, List.Sorted.IsSorted, Ordering.is_lt, Ordering.eq_by_cmp, FinMap.Entries.is_sorted-where_key, FinMap.Entries.find-where_key, FinMap.Entries.same_entries}
use Rattle.sqlite.specs.{Order.Row, Order.column, Order.row_cmp, Order.value_cmp, Ops.binary, Query.inner, Query.end, Query.IsAnswer, Query.output, Query.Output, Query.matches, Term.Term, Term.holds, Tree.Trees, Tree.rowid, Tree.IsTable, Schema.Schema, declared.types.Value.TheVariants.Int, Table.Table, View.IsShaped}
use Rattle.sqlite_sql.specs.Query.{output_cmp}
use Rattle.sqlite_rules.specs.Lists.{Has}
use Rattle.sqlite_rules.proofs.ListLemmas.{has_at, has_filtered, all_from, all_has, some_from, test_has}
use Rattle.sqlite_rules.proofs.{ProbeLemmas.has_mapped, RuleLemmas.keeps_at, TableLemmas.int_is}
use Rattle.sqlite_trees.proofs.ListLemmas.{all-filter, all-map, all_from_map, map-map}
use Rattle.office_tables_shelf.specs.Cells.{Cell, cells_cmp, rows_by}
use Rattle.office_tables_shelf.proofs.CellLemmas.{cells_total, cells_exact, is_under, find_entry, get_by}
use Rattle.office_tables_shelf.proofs.ListLemmas.{entry, listed, strictly, IsIn, entries_filter}
use Rattle.office_tables_statements.specs.{Layout.Layout, Layout.values_at, Tables.listed_by, Stored.cells_at, Stored.rows_in}
use Rattle.office_tables_statements.proofs.{StoredLemmas.HaveKeys, StoredLemmas.same_order, StoredLemmas.agree_ties, QueryLemmas.matched, ContentLemmas.permuted, ContentLemmas.find_none}
use Rattle.sqlite_schema.specs.declared.schema.{Index.Index, Constraint.TheVariants.Unique}
use Rattle.sqlite_schema.specs.Rules.{agree, clashes, differ, guards, Obeys}
use Rattle.sqlite_value.specs.Keys.{plain}
use Rattle.std.specs.FinMap as finite
use Rattle.sqlite_trees.specs.declared.store.Shape.TheVariants as shape

-- what stands in a list, in the shelf's word

pub is_in : {X : Type 0} (xs : List X) (x : X) → Has xs x → IsIn xs x
is_in [] x none = none
is_in (y ∷ xs) x (inl same) = inl same
is_in (y ∷ xs) x (inr more) = inr (is_in xs x more)

-- ---- how many rows have keys that pass a test

-- the entries whose keys pass a test are those of the rows that pass it
module _ {X : Type 0} (key columns : X → List Cell) where
  passing : (test : List Cell → Bool) (xs : List X) → where_key cells_cmp test (entries (rows_by key columns xs)) ≡ entries (rows_by key columns (filter (λ x. test (key x)) xs))
  passing test xs =
      let rows = rows_by key columns xs in
      let kept = filter (λ x. test (key x)) xs in
      same_entries cells_cmp cells_total cells_exact _ _ (is_sorted-where_key cells_cmp test (entries rows) (entries_sorted rows)) (entries_sorted (rows_by key columns kept)) (λ q.
      let alike : (k : List Cell) → cells_cmp q k ≡ Equal → test k ≡ test q = λ k tie. ap test (sym (cells_exact q k tie)) in
      find-where_key cells_cmp test q alike (entries rows)
      ∙ ap (λ o. cond (test q) o None) (sym (get-entries rows q) ∙ get_by key columns xs q ∙ sym (find_entry key columns xs q))
      ∙ sym (find-where_key cells_cmp test q alike (map (entry key columns) xs))
      ∙ ap (finite.find cells_cmp q) (entries_filter key columns test xs)
      ∙ find_entry key columns kept q ∙ sym (get_by key columns kept q) ∙ get-entries (rows_by key columns kept) q)

  -- rows of which no two have the same key are as many as the entries
  all_counted : (xs : List X) → IsDistinct (eq_by_cmp cells_cmp) (map key xs) → len (rows_by key columns xs) ≡ length xs
  unfolding IsDistinct
  all_counted [] h = len-empty cells_cmp (List Cell)
  all_counted (x ∷ xs) h =
      let rows = rows_by key columns xs in
      let apart = all_from_map (λ k. eq_by_cmp cells_cmp (key x) k ≡ false) key xs h.0 in
      let unmet = find_none (is_under key columns (key x)) xs (λ y there. all_has _ xs y apart there) in
      let none : get rows (key x) ≡ None = get_by key columns xs (key x) ∙ ap (option_map columns) unmet in
      len-insert cells_total rows (key x) (columns x) ∙ ap (λ o. cond (is_some o) (len rows) (len rows + 1)) none ∙ ap (λ n. n + 1) (all_counted xs h.1) ∙ (let one : length xs + 1 ≡ suc (length xs) = omega arith in one)

  pub counted : (test : List Cell → Bool) (xs : List X) → IsDistinct (eq_by_cmp cells_cmp) (map key (filter (λ x. test (key x)) xs))
      → length (where_key cells_cmp test (entries (rows_by key columns xs))) ≡ length (filter (λ x. test (key x)) xs)
  counted test xs apart = ap length (passing test xs) ∙ sym (len-entries _) ∙ all_counted (filter (λ x. test (key x)) xs) apart

-- ---- UNIQUE and rising rowids: no two rows have the same key

differ_below : (m n : ℤ) → value_cmp (Int m) (Int n) ≡ Less → differ (Int m) (Int n) ≡ true
unfolding binary
differ_below m n below = rw below

-- rows whose rowids rise, where two rowids of which one is below the other tell their keys apart
module _ (places : List ℕ) (all : List Row) (up : IsTable all) (apart : (r x : Row) → Has all r
    → Has all x → value_cmp (rowid r) (rowid x) ≡ Less
    → eq_by_cmp cells_cmp (cells_at places r) (cells_at places x) ≡ false) where
  pub distinct_rising : IsDistinct (eq_by_cmp cells_cmp) (map (cells_at places) all)
  unfolding IsDistinct
  distinct_rising = go all up (λ r there. there)
    where
      go : (rows : List Row) → IsTable rows → ((r : Row) → Has rows r → Has all r)
          → IsDistinct (eq_by_cmp cells_cmp) (map (cells_at places) rows)
      go [] up within = tt
      go (r ∷ rows) up within = (
        all-map (λ k. eq_by_cmp cells_cmp (cells_at places r) k ≡ false) (cells_at places) rows
            (all_from _ rows (λ x there. apart r x (within r (inl refl)) (within x (inr there))
            (all_has _ rows x up.0 there))),
        go rows up.1 (λ x there. within x (inr there)),
      )

module _ (t : Layout) (all : List Row) (shaped : IsShaped shape.Table all) (keys : HaveKeys t all) (unique : (row : Row) → Has all row → clashes plain t.keys all row ≡ false) where
  pub distinct_keys : IsDistinct (eq_by_cmp cells_cmp) (map (cells_at t.keys) all)
  distinct_keys = distinct_rising t.keys all shaped.0 (λ r x here there below.
      false_from_ne_true _ (λ tie.
      let one = int_is (rowid r) (all_has _ all r shaped.1 here) in
      let two = int_is (rowid x) (all_has _ all x shaped.1 there) in
      let ids = differ_below _ _ (subst₂ (λ a b. value_cmp a b ≡ Less) one two below) in
      let meets = and_from _ _ (agree_ties t.keys t.keys r x (keys r here) (keys x there) ∙ tie) (subst₂ (λ a b. differ a b ≡ true) (sym one) (sym two) ids) in
      true≢false (sym (some_from (λ other. agree plain t.keys other t.keys x && differ (rowid other) (rowid x)) all r here meets) ∙ unique x there)))

-- a table whose key has a unique index
pub unique_by : (schema : Schema) (trees : Trees) → Obeys schema trees → (table : Table) → Has schema.tables table → (index : Index) → Has schema.indexes index → guards index table ≡ true
    → (row : Row) → Has (trees table.tree) row → clashes index.order index.columns (trees table.tree) row ≡ false
unique_by schema trees obeys table listed index has guard row there =
    let passed = test_has (λ i. not (guards i table && clashes i.order i.columns (trees table.tree) row)) schema.indexes index (keeps_at Unique schema trees table row (obeys.rules Unique) listed there) has in
    let free : (guards index table && clashes index.order index.columns (trees table.tree) row) ≡ false = not-true _ passed in
    rw guard at free

-- ---- lists

sorted_as : {X : Type 0} (R S : X → X → Ordering) (xs : List X) → ((a b : X) → Has xs a → Has xs b → R a b ≡ S a b) → IsSorted R xs → IsSorted S xs
sorted_as R S xs same sorted k d low high =
    let there = λ (at : ℕ) (inside : at < length xs). has_at xs at (get_or xs at d) inside (get_or_default xs at d _ inside) in
    ap is_lt (sym (same (get_or xs (k + 1) d) (get_or xs k d) (there (k + 1) (omega (arith, high))) (there k (omega (arith, high))))) ∙ sorted k d low high

pub distinct_kept : {X K : Type 0} (e : K → K → Bool) (key : X → K) (p : X → Bool) (xs : List X)
    → IsDistinct e (map key xs) → IsDistinct e (map key (filter p xs))
unfolding IsDistinct
distinct_kept {X} {K} e key p [] h = tt
distinct_kept {X} {K} e key p (x ∷ xs) h =
    let apart = λ (y : K). e (key x) y ≡ false in
    let later = distinct_kept e key p xs h.1 in
    let kept = all-map apart key (filter p xs)
    (all-filter (λ y. apart (key y)) p xs (all_from_map apart key xs h.0)) in
    elim (cases_Bool (p x)) [ inl hit ↦ rw hit (kept, later) | inr miss ↦ rw miss later ]

-- ---- the query

abbrev pub sight : Layout → Row → Output
sight t row = (values_at t.keys row, values_at (t.keys ++ t.columns) row)

-- what is known of a layout and of what a query shows of it by computation
pub record IsListing (t : Layout) (filter : List Term) (key columns : Row → List Cell) : Type 0 where
  pub shows : (params row : Row) → output (listed_by t filter) (params ∷ row ∷ []) ≡ sight t row
  pub orders : (a b : Row) → output_cmp (listed_by t filter) (sight t a) (sight t b) ≡ row_cmp (values_at t.keys a) (values_at t.keys b)
  pub keys : (row : Row) → key (values_at (t.keys ++ t.columns) row) ≡ cells_at t.keys row
  pub others : (row : Row) → columns (values_at (t.keys ++ t.columns) row) ≡ cells_at t.columns row

module _ (t : Layout) (filters : List Term) (key columns : Row → List Cell) (is : IsListing t filters key columns) (params : Row) (test : List Cell → Bool) where
  abbrev pub Passes : List Row → Type 0
  Passes rows = (row : Row) → Has rows row → list_all (holds (params ∷ row ∷ [])) filters ≡ test (cells_at t.keys row)

  found_rows : (rows : List Row) → Passes rows → map (output (listed_by t filters)) (matches (λ _. rows) filters (inner t.tree end) (params ∷ [])) ≡ map (sight t) (filter (λ row. test (cells_at t.keys row)) rows)
  found_rows rows passes =
      let kept = filter (λ row. test (cells_at t.keys row)) rows in
      ap (map (output (listed_by t filters)))
      (matched t.tree filters params (λ row. test (cells_at t.keys row)) rows passes)
      ∙ map-map (output (listed_by t filters)) (λ (row : Row). params ∷ row ∷ []) kept
      ∙ (λ i. map (λ row. is.shows params row i) kept)

  keys_seen : (rows : List Row) → map (λ (o : Output). key o.1) (map (sight t) rows) ≡ map (cells_at t.keys) rows
  keys_seen [] = refl
  keys_seen (r ∷ rows) = λ i. is.keys r i ∷ keys_seen rows i

  module _ (db : Trees) (rows : List Row) (low : db t.tree ≡ rows) (sound : HaveKeys t rows) (distinct : IsDistinct (eq_by_cmp cells_cmp) (map (cells_at t.keys) rows)) (passes : Passes rows) where
    abbrev kept : List Row
    kept = filter (λ row. test (cells_at t.keys row)) rows

    seen : (ordered : List Output) → IsPermutation (map (sight t) kept) ordered → (o : Output) → Has ordered o → (r : Row) × Has rows r × (o ≡ sight t r)
    seen ordered same o there =
        let back = has_mapped (sight t) kept o (permuted _ ordered same o there) in
        (back.0, (has_filtered (λ row. test (cells_at t.keys row)) rows back.0 back.1).0, back.2)

    alike : (r x : Row) → Has rows r → Has rows x → output_cmp (listed_by t filters) (sight t r) (sight t x) ≡ cells_cmp (key (sight t r).1) (key (sight t x).1)
    alike r x here there = is.orders r x ∙ same_order t.keys t.keys r x (sound r here) (sound x there) ∙ sym (λ i. cells_cmp (is.keys r i) (is.keys x i))

    in_order : (ordered : List Output) → IsPermutation (map (sight t) kept) ordered → IsSorted (output_cmp (listed_by t filters)) ordered → IsSorted (λ (a b : Output). cells_cmp (key a.1) (key b.1)) ordered
    in_order ordered same = sorted_as (output_cmp (listed_by t filters)) (λ (a b : Output). cells_cmp (key a.1) (key b.1)) ordered (λ a b h k.
        let r = seen ordered same a h in
        let x = seen ordered same b k in
        subst₂ (λ (u v : Output). output_cmp (listed_by t filters) u v ≡ cells_cmp (key u.1) (key v.1)) (sym r.2) (sym x.2) (alike r.0 x.0 r.1 x.1))

    apart : (ordered : List Output) → IsPermutation (map (sight t) kept) ordered → IsDistinct (eq_by_cmp cells_cmp) (map (λ (o : Output). key o.1) ordered)
    apart ordered same =
        IsDistinct-IsPermutation (eq_by_cmp cells_cmp) (eq_by_cmp_equiv cells_total).symm (map (λ (o : Output). key o.1) (map (sight t) kept)) (map (λ (o : Output). key o.1) ordered)
        (IsPermutation-map (λ (o : Output). key o.1) (map (sight t) kept) ordered same)
        (subst (IsDistinct (eq_by_cmp cells_cmp)) (sym (keys_seen kept)) (distinct_kept (eq_by_cmp cells_cmp) (cells_at t.keys) (λ row. test (cells_at t.keys row)) rows distinct))

    the_same : (shown : List Row) (a : IsAnswer (listed_by t filters) db params shown) → IsPermutation (map (sight t) kept) a.ordered
    the_same shown a =
        subst (λ all. IsPermutation (map (sight t) (filter (λ row. test (cells_at t.keys row)) all)) a.ordered) low
        (subst (λ os. IsPermutation os a.ordered) (a.distinct ∙ ap (map (output (listed_by t filters))) a.grouped ∙ found_rows (db t.tree) (subst Passes (sym low) passes)) a.same)

    -- what is shown are the map's entries whose keys pass the test
    pub listing : (shown : List Row) → IsAnswer (listed_by t filters) db params shown → map (entry key columns) shown ≡ where_key cells_cmp test (entries (rows_in t rows))
    listing shown a =
        let same = the_same shown a in
        let rising = strictly (λ (o : Output). key o.1) (λ (o : Output). columns o.1) a.ordered (in_order a.ordered same a.sorted) (apart a.ordered same) in
        ap (map (entry key columns)) a.shown ∙ map-map (entry key columns) (λ (o : Output). o.1) a.ordered
        ∙ listed (cells_at t.keys) (cells_at t.columns) (sight t) (λ (o : Output). key o.1) (λ (o : Output). columns o.1) is.keys is.others test rows a.ordered same rising

    -- each row shows all columns
    pub shown_width : (shown : List Row) → IsAnswer (listed_by t filters) db params shown → (row : Row) → Has shown row → length row ≡ length (t.keys ++ t.columns)
    shown_width shown a row there =
        let o = has_mapped (λ (o : Output). o.1) a.ordered row (subst (λ rows. Has rows row) a.shown there) in
        let r = seen a.ordered (the_same shown a) o.0 o.1 in
        ap length (o.2 ∙ ap (λ (o : Output). o.1) r.2) ∙ length-map (t.keys ++ t.columns) (column r.0)
