use Rattle.std.proofs.Common.{◌≡◌, drop}
use Rattle.signal_rules.specs.{Cases.first_true}
use Rattle.signal_plans.specs.PatternWarnings.{crowded_by}
use Rattle.signal_plans.proofs.pattern.crowded_by.Given as goal

abbrev pub invariant-loop-other : goal.invariant-loop-other
invariant-loop-other l =
    first_true (crowded_by l.set l.pattern l.phase (drop l.other-index l.others)) ≡ first_true (crowded_by l.set l.pattern l.phase l.others)
