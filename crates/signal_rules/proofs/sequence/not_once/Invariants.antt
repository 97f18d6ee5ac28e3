use Rattle.std.proofs.Common.{◌≡◌, drop}
use Rattle.std.specs.List.{flat_map}
use Rattle.signal_rules.specs.{Cases.first_true, Lookup.phase_at, SequenceRule.once_cases}
use Rattle.signal_rules.proofs.sequence.not_once.Given as goal

abbrev pub invariant-loop-p : goal.invariant-loop-p
invariant-loop-p l =
    first_true (flat_map (λ p. once_cases l.set l.n p (phase_at l.set p)) (drop l.p-index l.phases)) ≡ first_true (flat_map (λ p. once_cases l.set l.n p (phase_at l.set p)) l.phases)
