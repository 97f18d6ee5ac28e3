-- A record put under its key: what stands under the keys then, and what stays so.
use Rattle.std.proofs.Common.{◌≡◌, Bool, true, false, cond, Option, None, Some, Ordering, refl, sym, subst}
use Rattle.std.specs.{Prelude.IfSome, Prelude.IsSome, Cmp.IsTotalOrder, Ordering.eq_by_cmp}
use Rattle.std.specs.FinMap.{FinMap, IsAntisymmetric, get, insert, get-insert}
use Rattle.cabinet_core.proofs.EntryLemmas.{tied}

module _ {K X : Type 0} {R : K → K → Ordering} (total : IsTotalOrder R) (exact : IsAntisymmetric R) where
  pub get_put : (records : FinMap R X) (k : K) (x : X) (q : K) → get (insert records k x) q ≡ cond (eq_by_cmp R q k) (Some x) (get records q)
  get_put records k x q = get-insert total records k x q

  -- what holds of every record under its key still does, if it holds of the one that is put
  pub all_put : (P : K → X → Type 0) (records : FinMap R X) (k : K) (x : X) → ((q : K) → IfSome (get records q) (P q)) → P k x
      → (q : K) → IfSome (get (insert records k x) q) (P q)
  all_put P records k x all new q = subst (λ (o : Option X). IfSome o (P q)) (sym (get_put records k x q))
      (elim (eq_by_cmp R q k) as (λ b. eq_by_cmp R q k ≡ b → IfSome (cond b (Some x) (get records q)) (P q)) [
        | true ↦ λ hit. subst (λ (key : K). P key x) (sym (exact q k (tied _ hit))) new
        | false ↦ λ miss. all q
      ] refl)

  either_there : (b : Bool) (x : X) (o : Option X) → IsSome o → IsSome (cond b (Some x) o)
  either_there true x o there = refl
  either_there false x o there = there

  -- a record that was there is there still
  pub there_put : (records : FinMap R X) (k : K) (x : X) (q : K) → IsSome (get records q) → IsSome (get (insert records k x) q)
  there_put records k x q there = subst (λ (o : Option X). IsSome o) (sym (get_put records k x q)) (either_there (eq_by_cmp R q k) x (get records q) there)

-- what holds of what there is, if it follows from what did
pub if_more : {X : Type 0} (P Q : X → Type 0) → ((x : X) → P x → Q x) → (o : Option X) → IfSome o P → IfSome o Q
if_more P Q more None h = tt
if_more P Q more (Some x) h = more x h
