use Rattle.std.proofs.Common.{◌≡◌, ◌++◌, drop}
use Rattle.signal_rules.specs.OnePass.{rings_at}
use Rattle.signal_rules.proofs.lanes.each_ring.Given as goal

-- the rings so far, and those of the phases that are left
abbrev pub invariant-loop-p : goal.invariant-loop-p
invariant-loop-p l = l.rings.items ++ rings_at l.set (drop l.p-index l.phases) ≡ rings_at l.set l.phases
