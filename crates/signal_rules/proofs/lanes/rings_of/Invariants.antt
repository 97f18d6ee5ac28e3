use Rattle.std.proofs.Common.{◌≡◌, ◌++◌, filter}
use Rattle.signal_rules.specs.{Lookup.is_in, Lanes.used_rings}
use Rattle.signal_rules.proofs.lanes.rings_of.Given as goal

abbrev pub invariant-loop-ring : goal.invariant-loop-ring
invariant-loop-ring l = l.rings.items ++ filter (λ ring. is_in ring l.used.items) l.ring-iterator ≡ used_rings l.set
