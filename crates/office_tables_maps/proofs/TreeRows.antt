-- Trees of records: the rows in their order, those that pass a test, and each record under its own place.
use Rattle.std.proofs.Common.{◌≡◌, inl, inr, Bool, List, [], ◌∷◌, ◌++◌, true, false, map, filter, cond, Option, None, IfSome, Ordering, T, refl, sym, ap, subst, ◌∙◌, append_assoc}
use Rattle.std.proofs.{lemmas.Bool.cases_Bool}
use Rattle.std.specs.{BTreeMap.insert_entry, BTreeMap.is_at, FinMap.entries, FinMap.get, Option.option_map, FinMap.retain_keys, FinMap.get-retain_keys, FinMap.same_map, FinMap.Entries.is_sorted, FinMap.Entries.below_all, FinMap.Entries.find-where_key, List.AllByRecursion, List.Sorted.IsStrictlySortedBy, Map.keys_of, Map.lookup, Map.remove_entry, Cmp.IsTotalOrder, Ordering.ordering_reverse, Ordering.is_eq, Ordering.is_lt, Ordering.match_ordering, declared.cmp.Ordering.TheVariants.Less, declared.cmp.Ordering.TheVariants.Equal, declared.cmp.Ordering.TheVariants.Greater}
use Rattle.office_tables_shelf.specs.Cells.{Cell, rows_by, tree_rows, cells_cmp}
use Rattle.office_tables_shelf.proofs.CellLemmas.{cells_total, cells_exact, find_entry, get_by, tied}
use Rattle.office_tables_shelf.proofs.TreeLemmas.{entry_at, get_tree}
use Rattle.office_tables_shelf.proofs.ListLemmas.{both, cells_of, entry, entries_filter, entries_in_order}
use Rattle.office_tables_maps.specs.Stored.{ArePlaced, Places, Stored}
use Rattle.std.specs.FinMap as finite

-- ---- the entries of a tree, in its order

module _ {K X : Type 0} (R : K → K → Ordering) (key : K → List Cell) (columns : X → List Cell) (order : (a b : K) → cells_cmp (key a) (key b) ≡ R a b) where
  below_keys : (k : K) (es : List (K × X)) → AllByRecursion (λ j. R k j ≡ Less) (keys_of es) → T (below_all cells_cmp (key k) (map (cells_of key columns) es))
  below_keys k [] h = tt
  below_keys k (e ∷ es) h = both _ _ (subst (λ o. T (is_lt o)) (sym (order k e.0 ∙ h.0)) tt) (below_keys k es h.1)

  rising : (es : List (K × X)) → IsStrictlySortedBy R (keys_of es) → T (is_sorted cells_cmp (map (cells_of key columns) es))
  unfolding IsStrictlySortedBy
  rising [] h = tt
  rising (e ∷ es) h = both _ _ (below_keys e.0 es h.0) (rising es h.1)

  -- the entries of the map that a tree stands for are its own, in its order
  pub tree_entries : (es : List (K × X)) → IsStrictlySortedBy R (keys_of es) → entries (tree_rows key columns es) ≡ map (cells_of key columns) es
  tree_entries es h = entries_in_order (map (cells_of key columns) es) (rising es h)

  -- what the map has under the cells of a key is what the tree has there
  pub stored_at : (es : List (K × X)) (k : K) (found : Option X) → entry_at R key columns es k ≡ found → get (tree_rows key columns es) (key k) ≡ option_map columns found
  stored_at es k found here = get_tree R key columns (λ a b. ap is_eq (order a b)) es k ∙ ap (option_map columns) here

-- ---- records under their own keys

module _ {K X : Type 0} (R : K → K → Ordering) (exact : (a b : K) → R a b ≡ Equal → a ≡ b) (Stands : K → X → Type 0) where
  abbrev pub AreStanding : List (K × X) → Type 0
  AreStanding = AllByRecursion (λ e. Stands e.0 e.1)

  pub standing_put : (es : List (K × X)) (k : K) (x : X) → Stands k x → AreStanding es → AreStanding (insert_entry R es k x)
  standing_put [] k x here h = (here, tt)
  standing_put (e ∷ es) k x here h =
      elim (R k e.0) as (λ o. R k e.0 ≡ o → AreStanding (match_ordering o ((k, x) ∷ e ∷ es) ((e.0, x) ∷ es) (e ∷ insert_entry R es k x))) [
        | Less ↦ λ is. (here, h)
        | Equal ↦ λ is. (subst (λ j. Stands j x) (exact k e.0 is) here, h.1)
        | Greater ↦ λ is. (h.0, standing_put es k x here h.1)
      ] refl

  -- what stands at a key in a tree of such records is that of the key
  pub standing_at : (es : List (K × X)) (k : K) → AreStanding es → IfSome (lookup (is_at (R k)) es) (Stands k)
  standing_at [] k h = tt
  standing_at (e ∷ es) k h = elim (cases_Bool (is_eq (R k e.0))) [
    | inl hit ↦ rw hit (subst (λ j. Stands j e.1) (sym (exact k e.0 (tied _ hit))) h.0)
    | inr miss ↦ rw miss (standing_at es k h.1)
  ]

  pub standing_removed : (test : K → Bool) (es : List (K × X)) → AreStanding es
      → AreStanding (remove_entry test es)
  standing_removed test [] h = tt
  standing_removed test (e ∷ es) h =
      elim (test e.0) as (λ b. AreStanding (cond b es (e ∷ remove_entry test es))) [
        | true ↦ h.1
        | false ↦ (h.0, standing_removed test es h.1)
      ]

-- each place and each record are within their limits
pub within_each : {K X : Type 0} (places : Places K) (kind : Stored K X) (es : List (K × X))
    → ArePlaced places kind es → AllByRecursion (λ e. places.is_place e.0 × kind.is_within e.1) es
within_each places kind [] h = tt
within_each places kind (e ∷ es) h = (h.0.1, within_each places kind es h.1)

-- ---- an entry that is put after all others

module _ {K X : Type 0} (R : K → K → Ordering) (total : IsTotalOrder R) where
  below_next : (j : K) (es : List (K × X)) (k : K) (x : X) (rest : List (K × X))
      → AllByRecursion (λ i. R j i ≡ Less) (keys_of (es ++ (k, x) ∷ rest)) → R j k ≡ Less
  below_next j [] k x rest h = h.0
  below_next j (e ∷ es) k x rest h = below_next j es k x rest h.1

  pub put_last : (es : List (K × X)) (k : K) (x : X) (rest : List (K × X))
      → IsStrictlySortedBy R (keys_of (es ++ (k, x) ∷ rest))
      → insert_entry R es k x ≡ es ++ (k, x) ∷ []
  unfolding IsStrictlySortedBy
  put_last [] k x rest h = refl
  put_last (e ∷ es) k x rest h =
      let after : R k e.0 ≡ Greater =
      total.antisymm k e.0 ∙ ap ordering_reverse (below_next e.0 es k x rest h.0) in
      rw after (ap (λ fs. e ∷ fs) (put_last es k x rest h.1))

  -- a copy that is put after those of the entries before it
  pub put_next : (copies rest all : List (K × X)) (k at : K) (x copy : X) → at ≡ k → copy ≡ x
      → IsStrictlySortedBy R (keys_of all) → copies ++ (k, x) ∷ rest ≡ all
      → insert_entry R copies at copy ++ rest ≡ all
  put_next copies rest all k at x copy same_place same sorted so_far =
      (λ i. insert_entry R copies (same_place i) (same i) ++ rest)
      ∙ ap (λ fs. fs ++ rest) (put_last copies k x rest
      (subst (λ fs. IsStrictlySortedBy R (keys_of fs)) (sym so_far) sorted))
      ∙ append_assoc copies ((k, x) ∷ []) rest ∙ so_far

-- ---- the rows that pass a test

module _ {X : Type 0} (key columns : X → List Cell) where
  -- the map of the rows that pass a test of their keys
  pub rows_kept : (test : List Cell → Bool) (xs : List X)
      → rows_by key columns (filter (λ x. test (key x)) xs)
      ≡ retain_keys (rows_by key columns xs) test
  rows_kept test xs = same_map cells_total cells_exact _ _ (λ q.
      let kept = filter (λ x. test (key x)) xs in
      let alike : (k : List Cell) → cells_cmp q k ≡ Equal → test k ≡ test q = λ k tie.
      ap test (sym (cells_exact q k tie)) in
      get_by key columns kept q
      ∙ sym (find_entry key columns kept q)
      ∙ ap (finite.find cells_cmp q) (sym (entries_filter key columns test xs))
      ∙ find-where_key cells_cmp test q alike (map (entry key columns) xs)
      ∙ ap (λ o. cond (test q) o None) (find_entry key columns xs q ∙ sym (get_by key columns xs q))
      ∙ sym (get-retain_keys (rows_by key columns xs) test q alike))
