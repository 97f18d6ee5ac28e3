use Rattle.std.proofs.Common.{refl}
use Rattle.signal_office_commands.proofs.ChangingLemmas.{looks_first, changes_weaker}
use Rattle.signal_office_commands.proofs.changing.abandon.Goals as goal

pub returns-in-Ok : goal.returns-in-Ok
returns-in-Ok g c = changes_weaker (looks_first c.tell_dropped.ensures c.in-Ok.ensures) (λ tables made both. (_, both.1, (_, refl))) (λ tables found after. after)

pub returns-in-Err : goal.returns-in-Err
returns-in-Err g c = changes_weaker (looks_first c.tell_dropped.ensures c.in-Err.ensures) (λ tables made both. (_, both.1, refl)) (λ tables found after. after)
