use Rattle.std.proofs.Common.{◌≡◌, drop}
use Rattle.signal_rules.specs.{Cases.first_true, PatternRules.splits_cases}
use Rattle.signal_rules.proofs.pattern.splits_reason.Given as goal

abbrev pub invariant-loop-phase : goal.invariant-loop-phase
invariant-loop-phase l =
    first_true (splits_cases l.set l.split (drop l.phase-index l.phases)) ≡ first_true (splits_cases l.set l.split l.phases)
