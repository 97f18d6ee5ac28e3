use Rattle.std.proofs.Common.{ap}
use Rattle.std.specs.List.{list_any}
use Rattle.signal_rules.specs.{Lookup.split_at, PatternRules.is_coordinated}
use Rattle.signal_rules.proofs.pattern.coordination_reason.Goals as goal

pub loop-p-init : goal.loop-p-init
loop-p-init c = ap (list_any (λ p. is_coordinated (split_at c.args.set.now c.args.pattern.now.split p))) c.requires
