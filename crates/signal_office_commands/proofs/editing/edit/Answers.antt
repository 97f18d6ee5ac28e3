use Rattle.std.proofs.Common.{Ok, inl, inr, refl, sym, ◌∙◌}
use Rattle.office_desk.proofs.Looks.{looks_weaker}
use Rattle.signal_office_commands.proofs.ChangingLemmas.{changes_none, changes_weaker, looks_first, only_asks}
use Rattle.signal_office_commands.proofs.FaultLemmas.{err_is}
use Rattle.signal_office_commands.specs.Editing.{ShowsBefore}
use Rattle.signal_office_commands.proofs.editing.edit.Goals as goal

pub returns-in-Ok : goal.returns-in-Ok
returns-in-Ok g c =
    let asked = c.in_ok-asked.ensures.asked in
    changes_weaker (looks_first {Says = λ tables. ShowsBefore c.args.edit.now tables (Ok c.in-Ok.before)} (looks_weaker c.timing.ensures (λ tables shows. (_, shows, sym c.in-Ok.is ∙ c.before_edit.ensures))) c.edit_from.ensures)
    (λ tables made both. inl (_, asked, inl (_, both.0, both.1))) (λ tables found after. (_, asked, after))

pub returns : goal.returns
returns g c = only_asks c.timing.ensures (λ tables shows. inl (_, c.in_ok-asked.ensures.asked, inr (_, refl, (_, shows, sym c.in-Err.is ∙ c.before_edit.ensures), refl)))

pub returns-in_err-asked : goal.returns-in_err-asked
returns-in_err-asked g c = changes_none (λ tables. inr (_, err_is _ _ c.from_residual.ensures.1, c.in_err-asked.ensures.unread, refl))
