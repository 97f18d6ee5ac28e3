use Rattle.std.proofs.Common.{refl}
use Rattle.signal_plans.proofs.advising.warn_rows.Goals as goal

pub loop-p-init : goal.loop-p-init
loop-p-init c = rw (c.into_iter-p-iterator.ensures.into_iter_gives, c.all-p-items.ensures) refl
