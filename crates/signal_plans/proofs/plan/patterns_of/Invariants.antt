use Rattle.std.proofs.Common.{◌≡◌, ◌++◌}
use Rattle.std.specs.List.{flat_map}
use Rattle.signal_rules.specs.Lookup.{pattern_at}
use Rattle.signal_plans.specs.PhaseWarnings.{listed_pattern, patterns}
use Rattle.signal_plans.proofs.plan.patterns_of.Given as goal

abbrev pub invariant-loop-n : goal.invariant-loop-n
invariant-loop-n l =
    l.found.items ++ flat_map (λ n. listed_pattern (pattern_at l.set n)) l.n-iterator ≡ patterns l.set
