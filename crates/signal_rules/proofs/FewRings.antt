-- A timing set uses no more rings than an intersection has.
use Rattle.std.proofs.Common.{◌≡◌, ℕ, ◌≤◌, Bool, List, Result, length, refl, arith}
use Rattle.std.proofs.lemmas.{List.Filters.length-filter_both, Result.IfOk-weaker}
use Rattle.std.specs.Prelude.{IfOk, not}
use Rattle.signal_records.specs.TimingSet.{Rows}
use Rattle.signal_rules.specs.{Lookup.ring_numbers, Lanes.is_used, Lanes.used_rings}

few_rings : (set : Rows) → length (used_rings set) ≤ 8
few_rings set =
    let others : ℕ → Bool = λ ring. not (is_used set ring) in
    let all = length-filter_both (is_used set) others (λ ring. refl) ring_numbers in
    let rings : length ring_numbers ≡ 8 = refl in omega arith

-- the same of what a call gives
pub given_few : {V E : Type 0} (items : V → List ℕ) (result : Result V E) (set : Rows)
    → IfOk result (λ rings. items rings ≡ used_rings set) → IfOk result (λ rings. length
    (items rings) ≤ 8)
given_few items result set same =
    IfOk-weaker result _ _ (λ rings is. rw is (few_rings set)) same
