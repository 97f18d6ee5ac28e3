use Rattle.std.proofs.Common.{◌≡◌, drop}
use Rattle.std.specs.List.{list_any}
use Rattle.signal_rules.specs.Lookup.{split_at}
use Rattle.signal_plans.specs.PhaseWarnings.{is_serving, is_served}
use Rattle.signal_plans.proofs.phase.is_served.Given as goal

abbrev pub invariant-loop-pattern : goal.invariant-loop-pattern
invariant-loop-pattern l =
    list_any (λ pattern. is_serving (split_at l.set pattern.split l.p)) (drop l.pattern-index l.patterns) ≡ is_served l.set l.p
