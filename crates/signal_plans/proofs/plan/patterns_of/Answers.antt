use Rattle.std.proofs.Common.{refl}
use Rattle.signal_plans.proofs.plan.patterns_of.Goals as goal

pub loop-n-init : goal.loop-n-init
loop-n-init c = rw (c.into_iter-n-iterator.ensures.into_iter_gives, c.all-n-items.ensures, c.new-found.ensures.items) refl
