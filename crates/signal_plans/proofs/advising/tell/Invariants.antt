use Rattle.std.proofs.Common.{◌≡◌, ◌++◌, drop}
use Rattle.signal_plans.specs.Warnings.{told_cases}
use Rattle.signal_plans.proofs.advising.tell.Given as goal

abbrev pub invariant-loop-is_so : goal.invariant-loop-is_so
invariant-loop-is_so l =
    l.found.items ++ told_cases l.scope (drop l.is_so-index l.cases) ≡ l.fn.found.items ++ told_cases l.scope l.cases
