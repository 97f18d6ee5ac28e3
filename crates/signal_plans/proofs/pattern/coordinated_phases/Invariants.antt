use Rattle.std.proofs.Common.{◌≡◌, ◌++◌, drop, filter}
use Rattle.signal_rules.specs.{Lookup.split_at, PatternRules.is_coordinated}
use Rattle.signal_plans.specs.PatternWarnings.{coordinated_phases}
use Rattle.signal_plans.proofs.pattern.coordinated_phases.Given as goal

abbrev pub invariant-loop-p : goal.invariant-loop-p
invariant-loop-p l =
    l.found.items ++ filter (λ p. is_coordinated (split_at l.set l.n p)) (drop l.p-index l.phases) ≡ coordinated_phases l.set l.n
