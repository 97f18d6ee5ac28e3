-- What holds of what stands at each key of a map holds of each of its entries.
use Rattle.std.proofs.Common.{◌≡◌, ◌⊎◌, inl, inr, Bool, true, false, List, [], ◌∷◌, filter, cond, None, Ordering, T, refl, sym, ap, subst, ◌∙◌}
use Rattle.std.proofs.lemmas.Bool.{cases_Bool}
use Rattle.std.specs.{Cmp.IsTotalOrder, Cmp.tied_itself, List.AllByRecursion, List.list_any, FinMap.FinMap, FinMap.get, FinMap.entries, FinMap.entries_sorted, FinMap.get-entries, FinMap.Entries.is_sorted, FinMap.Entries.below_all, Option.IfSome}
use Rattle.std.specs.Ordering.{is_eq, eq_by_cmp}
use Rattle.std.specs.FinMap as finite
use Rattle.signal_values.proofs.Ties.{is_less, parts}
pub use Rattle.signal_values.proofs.Ties.{tied}

module _ {K X : Type 0} {R : K → K → Ordering} (total : IsTotalOrder R) (Stands : K → X → Type 0) where
  -- nothing stands at a key that ties with one below all others
  none_above : (q k : K) (es : List (K × X)) → eq_by_cmp R q k ≡ true → T (below_all R k es) → finite.find R q es ≡ None
  none_above q k [] tie below = refl
  none_above q k (e ∷ es) tie below =
      let hs = parts _ _ below in
      let apart : eq_by_cmp R q e.0 ≡ false = ap is_eq (total.congr q k e.0 (tied _ tie) ∙ is_less _ hs.0) in
      rw apart (none_above q k es tie hs.1)

  each_entry : (es : List (K × X)) → T (is_sorted R es) → ((q : K) → IfSome (finite.find R q es) (Stands q)) → AllByRecursion (λ e. Stands e.0 e.1) es
  each_entry [] sorted stand = tt
  each_entry (e ∷ es) sorted stand = (here, each_entry es hs.1 later)
    where
      hs : T (below_all R e.0 es) × T (is_sorted R es)
      hs = parts _ _ sorted

      here : Stands e.0 e.1
      here =
          let first : eq_by_cmp R e.0 e.0 ≡ true = ap is_eq (tied_itself total e.0) in
          rw first at (stand e.0)

      later : (q : K) → IfSome (finite.find R q es) (Stands q)
      later q = at (cases_Bool (eq_by_cmp R q e.0))
        where
          at : (eq_by_cmp R q e.0 ≡ true) ⊎ (eq_by_cmp R q e.0 ≡ false) → IfSome (finite.find R q es) (Stands q)
          at (inl hit) = subst (λ o. IfSome o (Stands q)) (sym (none_above q e.0 es hit hs.0)) tt
          at (inr miss) = rw miss at (stand q)

  pub entries_stand : (records : FinMap R X) → ((q : K) → IfSome (get records q) (Stands q)) → AllByRecursion (λ e. Stands e.0 e.1) (entries records)
  entries_stand records stand = each_entry (entries records) (entries_sorted records) (λ q. subst (λ o. IfSome o (Stands q)) (get-entries records q) (stand q))

-- ---- lists of which each holds

module _ {X : Type 0} (Holds : X → Type 0) (test : X → Bool) where
  -- what passes a test that some pass
  pub one_passes : (xs : List X) → AllByRecursion Holds xs → list_any test xs ≡ true → (x : X) × Holds x × (test x ≡ true)
  one_passes [] all some = absurd cc
  one_passes (x ∷ xs) all some = at (cases_Bool (test x)) (one_passes xs all.1)
    where
      at : (test x ≡ true) ⊎ (test x ≡ false) → (list_any test xs ≡ true → (y : X) × Holds y × (test y ≡ true)) → (y : X) × Holds y × (test y ≡ true)
      at (inl hit) later = (x, all.0, hit)
      at (inr miss) later = later (rw miss at some)

  -- what holds of each holds of each that passes a test
  pub kept : (xs : List X) → AllByRecursion Holds xs → AllByRecursion Holds (filter test xs)
  kept [] all = tt
  kept (x ∷ xs) all =
      elim (test x) as (λ b. AllByRecursion Holds (cond b (x ∷ filter test xs) (filter test xs))) [ true ↦ (all.0, kept xs all.1) | false ↦ kept xs all.1 ]
