use Rattle.signal_rules.proofs.OnePass.{rings_used}
use Rattle.signal_rules.proofs.lanes.rings_of.Goals as goal

pub loop-ring-init : goal.loop-ring-init
loop-ring-init c =
    rw (c.into_iter-ring-iterator.ensures.into_iter_gives, c.all-ring-items.ensures, c.new-rings.ensures.items)
    (rings_used c.args.set.now c.args.phases.now c.in_ok-used.used.items c.requires c.in_ok-used.ensures)
