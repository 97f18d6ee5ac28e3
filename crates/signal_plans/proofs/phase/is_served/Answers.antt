use Rattle.std.proofs.Common.{ap}
use Rattle.std.specs.List.{list_any}
use Rattle.signal_rules.specs.{Lookup.split_at}
use Rattle.signal_plans.specs.PhaseWarnings.{is_serving}
use Rattle.signal_plans.proofs.phase.is_served.Goals as goal

pub loop-pattern-init : goal.loop-pattern-init
loop-pattern-init c = ap (list_any (λ pattern. is_serving (split_at c.args.set.now pattern.split c.args.p))) c.requires
