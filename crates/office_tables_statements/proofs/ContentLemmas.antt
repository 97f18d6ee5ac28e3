-- What taking rows out of a table and putting one in makes of the map of its rows.
use Rattle.std.proofs.Common.{◌≡◌, ◌≢◌, ◌⊎◌, inl, inr, ℤ, List, [], ◌∷◌, map, filter, find, Bool, true, false, not, Option, Some, None, cond, option_map, refl, sym, ap, subst, ◌∙◌, true≢false}
use Rattle.std.proofs.lemmas.{Bool.cases_Bool, Bool.false_from_ne_true, Bool.not-true, Cmp.tied_back, List.Sorted.IsPermutation-sym}
use Rattle.std.specs.{Cmp.tied_itself, Cmp.eq_by_cmp_equiv, List.IsDistinct, List.Sorted.IsPermutation, declared.cmp.Ordering.TheVariants.Less, declared.cmp.Ordering.TheVariants.Equal, Ordering.is_eq, Ordering.eq_by_cmp}
use Rattle.std.specs.FinMap.{get, insert, retain_keys, same_map, get-insert, get-retain_keys}
use Rattle.sqlite.specs.{declared.types.Value.TheVariants.Int, Order.Row, Order.value_cmp, Tree.rowid, Tree.has_rowid, Tree.put_row, Tree.without_rowid, Tree.IsTable, View.IsShaped, Edit.are_fresh, Edit.without_all, Edit.id_in}
use Rattle.sqlite_trees.proofs.ListLemmas.{all_from_map, all-permutation}
use Rattle.sqlite_value.proofs.OrderLemmas.{value_cmp_total}
use Rattle.sqlite_rules.specs.{Calls.ids_of, Lists.Has}
use Rattle.sqlite_rules.proofs.ListLemmas.{all_has, all_from, has_filtered, has_found, has_kept}
use Rattle.sqlite_rules.proofs.{ProbeLemmas.has_mapped, ProbeLemmas.mapped_has, TableLemmas.has_put, TableLemmas.put_has, TableLemmas.put_all_keeps, TableLemmas.int_is, TableLemmas.without_all_has}
use Rattle.office_tables_shelf.specs.Cells.{Cell, cells_cmp, rows_by}
use Rattle.office_tables_shelf.proofs.CellLemmas.{cells_total, cells_exact, is_under, get_by, tied}
use Rattle.office_tables_statements.specs.{Stored.cells_at, Stored.rows_in, Layout.Layout}
use Rattle.sqlite_trees.specs.declared.store.Shape.TheVariants as shape

pub permuted : {X : Type 0} (xs ys : List X) → IsPermutation xs ys → (y : X) → Has ys y → Has xs y
permuted xs ys same y there = all_has (Has xs) ys y (all-permutation (Has xs) xs ys same (all_from (Has xs) xs (λ x h. h))) there

pub find_none : {X : Type 0} (p : X → Bool) (xs : List X) → ((x : X) → Has xs x → p x ≡ false) → find p xs ≡ None
find_none p [] none = refl
find_none p (x ∷ xs) none = rw (none x (inl refl), find_none p xs (λ y h. none y (inr h)))

-- cells tie with themselves
pub tie_self : (key : List Cell) → is_eq (cells_cmp key key) ≡ true
tie_self key = ap is_eq (tied_itself cells_total key)

-- ---- rows of which no two have the same key

module _ {X : Type 0} (key columns : X → List Cell) where
  abbrev pub AreApart : List X → Type 0
  AreApart xs = IsDistinct (eq_by_cmp cells_cmp) (map key xs)

  -- each is the first under its key
  pub found_own : (xs : List X) (x : X) → AreApart xs → Has xs x → find (is_under key columns (key x)) xs ≡ Some x
  unfolding IsDistinct
  found_own [] x apart there = absurd there
  found_own (y ∷ xs) x apart (inl same) =
      rw (ap (λ (z : X). is_eq (cells_cmp (key x) (key z))) (sym same) ∙ tie_self (key x)) (ap Some (sym same))
  found_own (y ∷ xs) x apart (inr more) =
      let other = all_has _ xs x (all_from_map (λ k. eq_by_cmp cells_cmp (key y) k ≡ false) key xs apart.0) more in
      rw ((eq_by_cmp_equiv cells_total).symm (key x) (key y) ∙ other) (found_own xs x apart.1 more)

  module _ (olds news : List X) (was : AreApart olds) (apart : AreApart news) where
    -- the maps agree at a key where the lists do
    same_at : (q : List Cell) → ((x : X) → key x ≡ q → Has news x → Has olds x) → ((x : X) → key x ≡ q → Has olds x → Has news x)
        → get (rows_by key columns news) q ≡ get (rows_by key columns olds) q
    same_at q from to = get_by key columns news q ∙ ap (option_map columns) (go (find (is_under key columns q) news) (find (is_under key columns q) olds) refl refl) ∙ sym (get_by key columns olds q)
      where
        keyed : (xs : List X) (x : X) → find (is_under key columns q) xs ≡ Some x → Has xs x × (key x ≡ q)
        keyed xs x is = let it = has_found (is_under key columns q) xs x is in (it.0, sym (cells_exact q (key x) (tied _ it.1)))

        own : (xs : List X) (x : X) → AreApart xs → key x ≡ q → Has xs x → find (is_under key columns q) xs ≡ Some x
        own xs x apart same there = subst (λ k. find (is_under key columns k) xs ≡ Some x) same (found_own xs x apart there)

        go : (o p : Option X) → find (is_under key columns q) news ≡ o → find (is_under key columns q) olds ≡ p → o ≡ p
        go (Some x) p is old = let it = keyed news x is in sym (own olds x was it.1 (from x it.1 it.0)) ∙ old
        go None (Some x) is old = let it = keyed olds x old in sym is ∙ own news x apart it.1 (to x it.1 it.0)
        go None None is old = refl

    -- the rows whose keys pass a test are gone
    pub left : (test : List Cell → Bool) → ((x : X) → Has news x → Has olds x × (test (key x) ≡ false)) → ((x : X) → Has olds x → test (key x) ≡ false → Has news x)
        → rows_by key columns news ≡ retain_keys (rows_by key columns olds) (λ k. not (test k))
    left test from to = same_map cells_total cells_exact _ _ (λ q.
        go q (cases_Bool (test q)) ∙ sym (get-retain_keys (rows_by key columns olds) (λ k. not (test k)) q (λ k tie. ap (λ k. not (test k)) (sym (cells_exact q k tie)))))
      where
        go : (q : List Cell) → (test q ≡ true) ⊎ (test q ≡ false) → get (rows_by key columns news) q ≡ cond (not (test q)) (get (rows_by key columns olds) q) None
        go q (inl hit) = rw hit (get_by key columns news q ∙ ap (option_map columns) (find_none (is_under key columns q) news (λ x there.
            false_from_ne_true _ (λ under. true≢false (sym (ap test (sym (cells_exact q (key x) (tied _ under))) ∙ hit) ∙ (from x there).1)))))
        go q (inr miss) = rw miss (same_at q (λ x same there. (from x there).0) (λ x same there. to x there (ap test same ∙ miss)))

    -- a row is put in, in place of one with its key
    pub joined : (new : X) → Has news new → ((x : X) → Has news x → (x ≡ new) ⊎ Has olds x) → ((x : X) → Has olds x → key x ≢ key new → Has news x)
        → rows_by key columns news ≡ insert (rows_by key columns olds) (key new) (columns new)
    joined new here from to = same_map cells_total cells_exact _ _ (λ q.
        go q (cases_Bool (is_eq (cells_cmp q (key new)))) ∙ sym (get-insert cells_total (rows_by key columns olds) (key new) (columns new) q))
      where
        go : (q : List Cell) → (is_eq (cells_cmp q (key new)) ≡ true) ⊎ (is_eq (cells_cmp q (key new)) ≡ false)
            → get (rows_by key columns news) q ≡ cond (is_eq (cells_cmp q (key new))) (Some (columns new)) (get (rows_by key columns olds) q)
        go q (inl hit) = rw hit (get_by key columns news q
            ∙ ap (option_map columns) (subst (λ k. find (is_under key columns k) news ≡ Some new) (sym (cells_exact q (key new) (tied _ hit))) (found_own news new apart here)))
        go q (inr miss) =
            let other : key new ≢ q = λ e. true≢false (sym (ap (λ k. is_eq (cells_cmp q k)) e ∙ tie_self q) ∙ miss) in
            rw miss (same_at q (λ x same there. elim (from x there) [
              | inl is ↦ absurd (other (ap key (sym is) ∙ same))
              | inr old ↦ old
            ]) (λ x same there. to x there (λ is. other (sym is ∙ same))))

-- ---- rows by their rowids

-- no rowid comes twice
one_rowid : (rows : List Row) (a b : Row) → IsTable rows → Has rows a → Has rows b → value_cmp (rowid a) (rowid b) ≡ Equal → a ≡ b
one_rowid [] a b up h k same = absurd h
one_rowid (r ∷ rows) a b up (inl x) (inl y) same = x ∙ sym y
one_rowid (r ∷ rows) a b up (inl x) (inr k) same = absurd (let less = subst (λ v. value_cmp (rowid v) (rowid b) ≡ Less) (sym x) (all_has _ rows b up.0 k) in cc)
one_rowid (r ∷ rows) a b up (inr h) (inl y) same =
    absurd (let less = subst (λ v. value_cmp (rowid v) (rowid a) ≡ Less) (sym y) (all_has _ rows a up.0 h) in let back = tied_back value_cmp_total (rowid a) (rowid b) same in cc)
one_rowid (r ∷ rows) a b up (inr h) (inr k) same = one_rowid rows a b up.1 h k same

left_without : (ids : List ℤ) (rows : List Row) (r : Row) (id : ℤ) → Has (without_all rows ids) r → Has ids id → has_rowid id r ≡ false
left_without [] rows r id there h = absurd h
left_without (i ∷ ids) rows r id there (inl is) = subst (λ n. has_rowid n r ≡ false) (sym is) (not-true _ (has_filtered _ rows r (without_all_has ids (without_rowid i rows) r there)).1)
left_without (i ∷ ids) rows r id there (inr h) = left_without ids (without_rowid i rows) r id there h

has_left : (ids : List ℤ) (rows : List Row) (r : Row) → Has rows r → ((id : ℤ) → Has ids id → has_rowid id r ≡ false) → Has (without_all rows ids) r
has_left [] rows r there out = there
has_left (i ∷ ids) rows r there out = has_left ids (without_rowid i rows) r (has_kept _ rows r there (rw (out i (inl refl)))) (λ id h. out id (inr h))

-- the rows that pass a test are taken out by their rowids, which a query shows
module _ (rows : List Row) (test : Row → Bool) (show : Row → Row) (same_id : (r : Row) → rowid (show r) ≡ rowid r) (found : List Row)
    (hits : IsPermutation (map show (filter test rows)) found) (shaped : IsShaped shape.Table rows) where
  pub stays : (r : Row) → Has rows r → test r ≡ false → Has (without_all rows (ids_of found)) r
  stays r there miss = has_left (ids_of found) rows r there (λ id among. false_from_ne_true _ (λ at_id.
      let x = has_mapped (λ r. id_in (rowid r)) found id among in
      let hit = has_mapped show (filter test rows) x.0 (permuted _ found hits x.0 x.1) in
      let other = hit.0 in
      let was = has_filtered test rows other hit.1 in
      let is : id ≡ id_in (rowid other) = x.2 ∙ ap (λ v. id_in (rowid v)) hit.2 ∙ ap id_in (same_id other) in
      let int = int_is (rowid other) (all_has _ rows other shaped.1 was.0) in
      let equal : value_cmp (rowid r) (rowid other) ≡ Equal = subst (λ v. value_cmp (rowid r) v ≡ Equal) (ap Int is ∙ sym int) (tied _ at_id) in
      true≢false (sym (ap test (one_rowid rows r other shaped.0 there was.0 equal) ∙ was.1) ∙ miss)))

  pub gone : (r : Row) → Has (without_all rows (ids_of found)) r → test r ≡ false
  gone r left = false_from_ne_true _ (λ has.
      let there = without_all_has (ids_of found) rows r left in
      let met = permuted found _ (IsPermutation-sym _ found hits) (show r) (mapped_has show (filter test rows) r (has_kept test rows r there has)) in
      let int = int_is (rowid r) (all_has _ rows r shaped.1 there) in
      let out = left_without (ids_of found) rows r (id_in (rowid r)) left (subst (Has (ids_of found)) (ap id_in (same_id r)) (mapped_has (λ r. id_in (rowid r)) found (show r) met)) in
      let tie : value_cmp (rowid r) (Int (id_in (rowid r))) ≡ Equal = subst (λ v. value_cmp (rowid r) v ≡ Equal) int (tied_itself value_cmp_total (rowid r)) in
      true≢false (sym (ap is_eq tie) ∙ out))

-- a row is put beside others
pub put_at : (t : Layout) (rows : List Row) (new : Row) → are_fresh rows (new ∷ []) ≡ true → AreApart (cells_at t.keys) (cells_at t.columns) rows → AreApart (cells_at t.keys) (cells_at t.columns) (put_row new rows)
    → rows_in t (put_row new rows) ≡ insert (rows_in t rows) (cells_at t.keys new) (cells_at t.columns new)
put_at t rows new free was apart =
    joined (cells_at t.keys) (cells_at t.columns) rows (put_row new rows) was apart new (has_put new rows) (put_has new rows)
    (λ x there other. put_all_keeps (new ∷ []) rows x free there)
