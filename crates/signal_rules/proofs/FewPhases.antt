-- A list of distinct phases has no more of them than an intersection.
use Rattle.std.proofs.Common.{◌≡◌, ℕ, ◌<◌, ◌≤◌, true, false, eqb, not, List, [], ◌∷◌, length, arith, inl, inr}
use Rattle.std.proofs.lemmas.Bool.{and_parts, or_cases, or_parts, not-true, eqb-true}
use Rattle.std.proofs.lemmas.Bool.Decides.{nat_tests}
use Rattle.std.proofs.lemmas.Map.Steps.{length-le_from_distinct_below}
use Rattle.std.specs.Prelude.{IsTrue}
use Rattle.std.specs.List.{list_any, list_all, IsDistinct, AllByRecursion}
use Rattle.signal_records.specs.PhaseList.{is_phase, is_phase_list, is_distinct}
use Rattle.signal_values.specs.declared.number.TheConstants.{PHASES}

-- two numbers are told apart in either order
apart : (m n : ℕ) → eqb m n ≡ false → eqb n m ≡ false
apart m n h = grind (arith, nat_tests)

apart_from_all : (n : ℕ) (ns : List ℕ) → list_any (λ m. eqb m n) ns ≡ false → AllByRecursion
    (λ m. eqb n m ≡ false) ns
apart_from_all n [] h = tt
apart_from_all n (m ∷ ns) h =
    let parts = or_parts (eqb m n) (list_any (λ k. eqb k n) ns) h in
    (apart m n parts.0, apart_from_all n ns parts.1)

distinct : (ns : List ℕ) → is_distinct ns ≡ true → IsDistinct eqb ns
unfolding IsDistinct
distinct [] h = tt
distinct (n ∷ ns) h =
    let parts = and_parts (not (list_any (λ m. eqb m n) ns)) (is_distinct ns) h in
    (apart_from_all n ns (not-true (list_any (λ m. eqb m n) ns) parts.0), distinct ns parts.1)

one_below : (n q : ℕ) → is_phase PHASES n ≡ true → eqb q n ≡ true → q < 33
one_below n q h e = let same : q ≡ n = eqb-true q n e in grind (arith, h, same)

below : (ns : List ℕ) → list_all (is_phase PHASES) ns ≡ true → (q : ℕ) → list_any (eqb q) ns
    ≡ true → q < 33
below [] h q e = absurd (cc)
below (n ∷ ns) h q e =
    let parts = and_parts (is_phase PHASES n) (list_all (is_phase PHASES) ns) h in
    elim (or_cases (eqb q n) (list_any (eqb q) ns) e) [
      | inl same ↦ one_below n q parts.0 same
      | inr later ↦ below ns parts.1 q later
    ]

pub few_phases : (ns : List ℕ) → IsTrue (is_phase_list PHASES ns) → length ns ≤ 33
few_phases ns h =
    let parts = and_parts (list_all (is_phase PHASES) ns) (is_distinct ns) h in
    length-le_from_distinct_below ns 33 (distinct ns parts.1) (below ns parts.0)
