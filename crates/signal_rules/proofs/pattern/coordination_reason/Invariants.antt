use Rattle.std.proofs.Common.{◌≡◌, drop}
use Rattle.std.specs.List.{list_any}
use Rattle.signal_rules.specs.{Lookup.split_at, PatternRules.is_coordinated, PatternRules.has_coordinated}
use Rattle.signal_rules.proofs.pattern.coordination_reason.Given as goal

abbrev pub invariant-loop-p : goal.invariant-loop-p
invariant-loop-p l =
    list_any (λ p. is_coordinated (split_at l.set l.pattern.split p)) (drop l.p-index l.phases) ≡ has_coordinated l.set l.pattern.split
