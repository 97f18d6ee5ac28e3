use Rattle.std.proofs.Common.{refl}
use Rattle.signal_office_commands.proofs.ChangingLemmas.{asks_after, changes_weaker}
use Rattle.signal_office_commands.proofs.EditingLemmas.{explained}
use Rattle.signal_office_commands.proofs.editing.edit_from.Goals as goal

pub returns-in-Ok : goal.returns-in-Ok
returns-in-Ok g c =
    changes_weaker (asks_after c.in-Ok.ensures c.edit_notes-notes.ensures) (λ tables made both. (_, both.0, (_, refl, refl))) (λ tables found after. after)

pub returns-in-Err : goal.returns-in-Err
returns-in-Err g c = changes_weaker (asks_after c.in-Err.ensures c.refused_edit.ensures.looks)
    (λ tables made both. (_, both.0, explained _ c.in-Err.why _ c.refused_edit.ensures.plain)) (λ tables found after. after)
