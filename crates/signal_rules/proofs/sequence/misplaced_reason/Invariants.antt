use Rattle.std.proofs.Common.{◌≡◌}
use Rattle.std.specs.List.{flat_map}
use Rattle.signal_rules.specs.{Cases.first_true, Lookup.ring_numbers, SequenceRule.row_cases}
use Rattle.signal_rules.proofs.sequence.misplaced_reason.Given as goal

abbrev pub invariant-loop-ring : goal.invariant-loop-ring
invariant-loop-ring l =
    first_true (flat_map (row_cases l.set l.n) l.ring-iterator) ≡ first_true (flat_map (row_cases l.set l.n) ring_numbers)
