use Rattle.std.proofs.Common.{◌≡◌, drop}
use Rattle.signal_rules.specs.{Cases.first_true, Slots.later_cases, Slots.spans_in}
use Rattle.signal_rules.proofs.lanes.later_reason.Given as goal

abbrev pub invariant-loop-other : goal.invariant-loop-other
invariant-loop-other l =
    first_true (later_cases l.second l.slot (spans_in l.second (drop l.other-index l.later))) ≡ first_true (later_cases l.second l.slot (spans_in l.second l.later))
