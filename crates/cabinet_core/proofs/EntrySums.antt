-- Sums and tests over the entries of a map, after an entry with a new key.
use Rattle.std.proofs.Common.{◌≡◌, ℕ, ◌+◌, Bool, true, false, ◌||◌, List, [], ◌∷◌, cond, Some, None, Ordering, refl, sym, ap, ◌∙◌, arith}
use Rattle.std.proofs.lemmas.List.Sums.{sum_by-cons}
use Rattle.std.specs.{Prelude.sum_by, List.list_any, Cmp.IsTotalOrder, Ordering.is_eq, FinMap.FinMap, FinMap.get, FinMap.insert, FinMap.entries, FinMap.entries-insert, FinMap.get-entries, FinMap.Entries.put, FinMap.Entries.by_order}
use Rattle.std.specs.declared.cmp.Ordering.TheVariants.{Less, Equal, Greater}
use Rattle.std.specs.FinMap as finite

or_swapped : (a b c : Bool) → (a || (b || c)) ≡ (b || (a || c))
or_swapped true true c = refl
or_swapped _ b c = refl

module _ {K X : Type 0} (R : K → K → Ordering) where
  sum_put : (f : K × X → ℕ) (k : K) (v : X) (es : List (K × X)) → finite.find R k es ≡ None → sum_by f (put R k v es) ≡ sum_by f es + f (k, v)
  sum_put f k v [] none = omega arith
  sum_put f k v (e ∷ es) none =
      elim (R k e.0) as (λ o. cond (is_eq o) (Some e.1) (finite.find R k es) ≡ None → sum_by f (by_order o ((k, v) ∷ e ∷ es) ((e.0, v) ∷ es) (e ∷ put R k v es)) ≡ sum_by f (e ∷ es) + f (k, v)) [
        | Less ↦ λ h. omega (arith, sum_by-cons f (k, v) (e ∷ es))
        | Equal ↦ λ h. absurd cc
        | Greater ↦ λ h. let rest = sum_put f k v es h in omega (arith, sum_by-cons f e (put R k v es), sum_by-cons f e es)
      ] none

  any_put : (p : K × X → Bool) (k : K) (v : X) (es : List (K × X)) → finite.find R k es ≡ None → list_any p (put R k v es) ≡ (p (k, v) || list_any p es)
  any_put p k v [] none = refl
  any_put p k v (e ∷ es) none =
      elim (R k e.0) as (λ o. cond (is_eq o) (Some e.1) (finite.find R k es) ≡ None → list_any p (by_order o ((k, v) ∷ e ∷ es) ((e.0, v) ∷ es) (e ∷ put R k v es)) ≡ (p (k, v) || (p e || list_any p es))) [
        | Less ↦ λ h. refl
        | Equal ↦ λ h. absurd cc
        | Greater ↦ λ h. ap (λ b. p e || b) (any_put p k v es h) ∙ or_swapped (p e) (p (k, v)) (list_any p es)
      ] none

  module _ (total : IsTotalOrder R) (m : FinMap R X) (k : K) (v : X) (new : get m k ≡ None) where
    -- a sum over the entries grows by that of the new one
    pub sum_insert : (f : K × X → ℕ) → sum_by f (entries (insert m k v)) ≡ sum_by f (entries m) + f (k, v)
    sum_insert f = ap (sum_by f) (entries-insert total m k v) ∙ sum_put f k v (entries m) (sym (get-entries m k) ∙ new)

    -- an entry passes a test if the new one does or another did
    pub any_insert : (p : K × X → Bool) → list_any p (entries (insert m k v)) ≡ (p (k, v) || list_any p (entries m))
    any_insert p = ap (list_any p) (entries-insert total m k v) ∙ any_put p k v (entries m) (sym (get-entries m k) ∙ new)

-- where no entry passes, a sum over those that pass is nothing
pub no_sum : {X : Type 0} (p : X → Bool) (f : X → ℕ) (xs : List X) → list_any p xs ≡ false → sum_by (λ x. cond (p x) (f x) 0) xs ≡ 0
no_sum p f [] none = refl
no_sum p f (x ∷ xs) none =
    sum_by-cons (λ y. cond (p y) (f y) 0) x xs
    ∙ elim (p x) as (λ b. (b || list_any p xs) ≡ false → cond b (f x) 0 + sum_by (λ y. cond (p y) (f y) 0) xs ≡ 0) [
      | true ↦ λ h. absurd cc
      | false ↦ λ h. let rest = no_sum p f xs h in omega arith
    ] none
