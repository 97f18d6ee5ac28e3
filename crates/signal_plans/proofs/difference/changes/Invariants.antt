use Rattle.std.proofs.Common.{◌≡◌, take}
use Rattle.signal_plans.specs.Difference.{difference_changes}
use Rattle.signal_plans.proofs.difference.changes.Given as goal

abbrev pub invariant-loop-difference : goal.invariant-loop-difference
invariant-loop-difference l = l.changes.items ≡ difference_changes (take l.difference-index l.differences)
