-- A list in key order of the rows that pass a test of their keys is the list of the map's entries that pass it.
use Rattle.std.proofs.Common.{◌≡◌, ◌⊎◌, inl, inr, ℕ, ◌+◌, suc, Bool, true, false, ◌&&◌, List, [], ◌∷◌, map, filter, find, cond, Option, None, Some, option_map, Ordering, Less, Equal, T, refl, sym, ap, subst, subst₂, ◌∙◌, arith, slice_index_or, ◌++◌}
use Rattle.std.proofs.{lemmas.List.Elements.All-head, lemmas.List.Elements.All-tail, lemmas.List.Elements.All-from_recursion, lemmas.List.Sorted.IsPermutation-sym, lemmas.List.Sorted.All-permutation}
use Rattle.std.specs.{Cmp.alike_right, Cmp.eq_by_cmp_equiv, Cmp.tied_itself, FinMap.get, FinMap.entries, FinMap.entries_sorted, List.All, List.AllByRecursion, List.IsDistinct, List.Sorted.IsPermutation, List.Sorted.IsSorted, Ordering.is_eq}
use Rattle.std.specs.FinMap.{get-entries, from_entries, from_sorted, entries-from_sorted, get-from_sorted, get-from_entries, same_map}
use Rattle.std.specs.FinMap.Entries.{is_sorted, below_all, where_key, is_sorted-where_key, find-where_key, same_entries}
use Rattle.std.specs.Ordering.{is_lt, ordering_reverse, eq_by_cmp}
use Rattle.office_tables_shelf.specs.Cells.{Cell, TableRows, rows_by, cells_cmp}
use Rattle.office_tables_shelf.proofs.CellLemmas.{cells_total, cells_exact, is_under, find_entry, get_by, tied}
use Rattle.std.specs.FinMap as finite

-- ---- elements of a list

-- x is one of the list
abbrev pub IsIn : {X : Type 0} → List X → X → Type 0
IsIn [] x = ⊥
IsIn (y ∷ ys) x = (x ≡ y) ⊎ IsIn ys x

pub all_in : {X : Type 0} (P : X → Type 0) (xs : List X) (x : X) → All P xs → IsIn xs x → P x
all_in P [] x all h = absurd h
all_in P (y ∷ xs) x all (inl same) = subst P (sym same) (All-head P y xs all)
all_in P (y ∷ xs) x all (inr more) = all_in P xs x (All-tail P y xs all) more

each_in : {X : Type 0} (P : X → Type 0) (xs : List X) → ((x : X) → IsIn xs x → P x) → All P xs
each_in {X} P xs each = All-from_recursion P xs (go xs each)
  where
    go : (ys : List X) → ((x : X) → IsIn ys x → P x) → AllByRecursion P ys
    go [] each = tt
    go (y ∷ ys) each = (each y (inl refl), go ys (λ x h. each x (inr h)))

pub permuted : {X : Type 0} (xs ys : List X) → IsPermutation xs ys → (y : X) → IsIn ys y → IsIn xs y
permuted xs ys same y there = all_in (IsIn xs) ys y (All-permutation (IsIn xs) xs ys same (each_in (IsIn xs) xs (λ x h. h))) there

-- what holds of each of a list and of one more holds of each with that one at the end
pub all_more : {X : Type 0} (P : X → Type 0) (xs : List X) (x : X) → AllByRecursion P xs → P x
    → AllByRecursion P (xs ++ x ∷ [])
all_more P [] x all one = (one, tt)
all_more P (y ∷ xs) x all one = (all.0, all_more P xs x all.1 one)

-- ---- a list in key order

-- all entries pass no test
pub where_all : {X : Type 0} (es : List (List Cell × X)) → where_key cells_cmp (λ _. true) es ≡ es
where_all [] = refl
where_all (e ∷ es) = ap (λ xs. e ∷ xs) (where_all es)

pub parts : (a b : Bool) → T (a && b) → T a × T b
parts a b h = grind arith

pub less : (o : Ordering) → T (is_lt o) → o ≡ Less
less o h = grind arith

module _ {X : Type 0} (p : X → Bool) where
  pub found_has : (xs : List X) (x : X) → find p xs ≡ Some x → IsIn xs x × (p x ≡ true)
  found_has [] x h = absurd (let e = h in cc)
  found_has (y ∷ xs) x h = let more = found_has xs x in grind (arith, more)

  none_has : (xs : List X) (x : X) → find p xs ≡ None → IsIn xs x → p x ≡ false
  none_has [] x h there = absurd there
  none_has (y ∷ xs) x h there = let more = none_has xs x in grind (arith, more)

  pub no_find : (xs : List X) → ((x : X) → IsIn xs x → p x ≡ false) → find p xs ≡ None
  no_find [] none = refl
  no_find (x ∷ xs) none = rw (none x (inl refl), no_find xs (λ y h. none y (inr h)))

module _ {X : Type 0} (key columns : X → List Cell) where
  abbrev pub entry : X → List Cell × List Cell
  entry x = (key x, columns x)

  below_has : (k : List Cell) (ys : List X) (x : X) → T (below_all cells_cmp k (map entry ys)) → IsIn ys x → cells_cmp k (key x) ≡ Less
  below_has k [] x below there = absurd there
  below_has k (y ∷ ys) x below (inl same) = ap (λ (z : X). cells_cmp k (key z)) same ∙ less _ (parts _ _ below).0
  below_has k (y ∷ ys) x below (inr more) = below_has k ys x (parts _ _ below).1 more

  -- in a list in order, a row is the first under its own key
  pub sorted_found : (ys : List X) (x : X) (q : List Cell) → T (is_sorted cells_cmp (map entry ys)) → IsIn ys x → is_under key columns q x ≡ true → find (is_under key columns q) ys ≡ Some x
  sorted_found [] x q sorted there hit = absurd there
  sorted_found (y ∷ ys) x q sorted (inl same) hit = rw (← same, hit) refl
  sorted_found (y ∷ ys) x q sorted (inr more) hit =
      let below = below_has (key y) ys x (parts _ _ sorted).0 more in
      let apart : is_under key columns q y ≡ false = (eq_by_cmp_equiv cells_total).symm q (key y) ∙ ap is_eq (alike_right cells_total q (key x) (key y) (tied _ hit) ∙ below) in
      rw apart (sorted_found ys x q (parts _ _ sorted).1 more hit)

  pub entries_filter : (test : List Cell → Bool) (xs : List X) → where_key cells_cmp test (map entry xs) ≡ map entry (filter (λ x. test (key x)) xs)
  entries_filter test [] = refl
  entries_filter test (x ∷ xs) = let rest = entries_filter test xs in grind (arith, rest)

  -- a list in key order finds what any other order of it finds
  find_sorted : (zs ys : List X) → IsPermutation zs ys → T (is_sorted cells_cmp (map entry ys)) → (q : List Cell) → finite.find cells_cmp q (map entry ys) ≡ finite.find cells_cmp q (map entry zs)
  find_sorted zs ys same sorted q = find_entry key columns ys q ∙ ap (option_map columns) (go (find (is_under key columns q) zs) refl) ∙ sym (find_entry key columns zs q)
    where
      go : (o : Option X) → find (is_under key columns q) zs ≡ o → find (is_under key columns q) ys ≡ find (is_under key columns q) zs
      go None is = no_find (is_under key columns q) ys (λ y there. none_has (is_under key columns q) zs y is (permuted zs ys same y there)) ∙ sym is
      go (Some x) is =
          let found = found_has (is_under key columns q) zs x is in
          sorted_found ys x q sorted (permuted ys zs (IsPermutation-sym zs ys same) x found.0) found.1 ∙ sym is

  chosen : (b : Bool) (o : Option (List Cell)) (cells : List Cell) → cond b o None ≡ Some cells
      → (b ≡ true) × (o ≡ Some cells)
  chosen b o cells h = grind arith

  -- what is in a list of the entries that pass a test stands in the map, under its key
  pub stands : (test : List Cell → Bool) (rows : TableRows) (xs : List X)
      → map entry xs ≡ where_key cells_cmp test (entries rows) → (x : X) → IsIn xs x
      → (test (key x) ≡ true) × (get rows (key x) ≡ Some (columns x))
  stands test rows xs is x there =
      let q = key x in
      let sorted = subst (λ es. T (is_sorted cells_cmp es)) (sym is)
      (is_sorted-where_key cells_cmp test (entries rows) (entries_sorted rows)) in
      let tie : is_under key columns q x ≡ true = ap is_eq (tied_itself cells_total q) in
      let found = find_entry key columns xs q
      ∙ ap (option_map columns) (sorted_found xs x q sorted there tie) in
      let alike : (k : List Cell) → cells_cmp q k ≡ Equal → test k ≡ test q = λ k same.
      ap test (sym (cells_exact q k same)) in
      chosen (test q) (get rows q) (columns x) (ap (λ o. cond (test q) o None) (get-entries rows q)
      ∙ sym (find-where_key cells_cmp test q alike (entries rows))
      ∙ ap (finite.find cells_cmp q) (sym is) ∙ found)

-- The rows of a list that pass a test of their keys, seen by what a query shows of each, and put in the order of their keys.
module _ {X Y : Type 0} (key columns : X → List Cell) (view : X → Y) (key_shown columns_shown : Y → List Cell) (keys : (x : X) → key_shown (view x) ≡ key x) (others : (x : X) → columns_shown (view x) ≡ columns x) where
  seen : (xs : List X) → map (entry key_shown columns_shown) (map view xs) ≡ map (entry key columns) xs
  seen [] = refl
  seen (x ∷ xs) = λ i. (keys x i, others x i) ∷ seen xs i

  pub listed : (test : List Cell → Bool) (xs : List X) (ys : List Y) → IsPermutation (map view (filter (λ x. test (key x)) xs)) ys → T (is_sorted cells_cmp (map (entry key_shown columns_shown) ys))
      → map (entry key_shown columns_shown) ys ≡ where_key cells_cmp test (entries (rows_by key columns xs))
  listed test xs ys same sorted =
      let rows = rows_by key columns xs in
      same_entries cells_cmp cells_total cells_exact _ _ sorted (is_sorted-where_key cells_cmp test (entries rows) (entries_sorted rows)) (λ q.
      let alike : (k : List Cell) → cells_cmp q k ≡ Equal → test k ≡ test q = λ k tie. ap test (sym (cells_exact q k tie)) in
      find_sorted key_shown columns_shown (map view (filter (λ x. test (key x)) xs)) ys same sorted q
      ∙ ap (finite.find cells_cmp q) (seen (filter (λ x. test (key x)) xs) ∙ sym (entries_filter key columns test xs))
      ∙ find-where_key cells_cmp test q alike (map (entry key columns) xs)
      ∙ ap (λ o. cond (test q) o None) (find_entry key columns xs q ∙ sym (get_by key columns xs q) ∙ get-entries rows q)
      ∙ sym (find-where_key cells_cmp test q alike (entries rows)))

-- ---- from what ORDER BY gives to keys that strictly rise

rises : (r s : Ordering) → r ≡ ordering_reverse s → is_lt s ≡ false → is_eq r ≡ false → T (is_lt r)
rises r s is h k = grind arith

pub both : (a b : Bool) → T a → T b → T (a && b)
both a b p q = grind arith

module _ {X : Type 0} (key columns : X → List Cell) where
  below_chain : (j k : List Cell) (ys : List X) → cells_cmp j k ≡ Less → T (below_all cells_cmp k (map (entry key columns) ys)) → T (below_all cells_cmp j (map (entry key columns) ys))
  below_chain j k [] p h = tt
  below_chain j k (y ∷ ys) p h =
      let hs = parts _ _ h in
      both _ _ (subst (λ o. T (is_lt o)) (sym (cells_total.trans j k (key y) p (less _ hs.0))) tt) (below_chain j k ys p hs.1)

  later : (y : X) (ys : List X) → IsSorted (λ a b. cells_cmp (key a) (key b)) (y ∷ ys) → IsSorted (λ a b. cells_cmp (key a) (key b)) ys
  later y ys sorted k d low high = subst₂ (λ (a b : X). is_lt (cells_cmp (key a) (key b)) ≡ false) (step (k + 1)) (step k) (sorted (k + 1) d (omega arith) (omega (arith, high)))
    where
      step : (n : ℕ) → slice_index_or (y ∷ ys) (n + 1) d ≡ slice_index_or ys n d
      step n = let same : n + 1 ≡ suc n = omega arith in ap (λ m. slice_index_or (y ∷ ys) m d) same

  -- rows in the order of their keys, no two of which are the same
  pub strictly : (ys : List X) → IsSorted (λ a b. cells_cmp (key a) (key b)) ys → IsDistinct (eq_by_cmp cells_cmp) (map key ys) → T (is_sorted cells_cmp (map (entry key columns) ys))
  unfolding IsDistinct
  strictly [] sorted apart = tt
  strictly (y ∷ []) sorted apart = tt
  strictly (y ∷ z ∷ ys) sorted apart =
      let rest = strictly (z ∷ ys) (later y (z ∷ ys) sorted) apart.1 in
      let up = rises (cells_cmp (key y) (key z)) (cells_cmp (key z) (key y)) (cells_total.antisymm (key y) (key z)) (sorted 0 y (omega arith) (omega arith)) apart.0.0 in
      both _ _ (both _ _ up (below_chain (key y) (key z) ys (less _ up) (parts _ _ rest).0)) rest

-- ---- trees of records

-- the entries of the map that entries in order make
pub entries_in_order : (es : List (List Cell × List Cell)) → T (is_sorted cells_cmp es) → entries (from_entries {R = cells_cmp} es) ≡ es
entries_in_order es sorted =
    let same : from_entries {R = cells_cmp} es ≡ from_sorted es = same_map cells_total cells_exact _ _ (λ q. get-from_entries cells_total es q ∙ sym (get-from_sorted cells_cmp es q sorted)) in
    ap entries same ∙ entries-from_sorted cells_cmp es sorted

-- the cells of an entry of a tree
abbrev pub cells_of : {K X : Type 0} → (K → List Cell) → (X → List Cell) → K × X → List Cell × List Cell
cells_of key columns e = (key e.0, columns e.1)
