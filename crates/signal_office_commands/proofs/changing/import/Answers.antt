use Rattle.std.proofs.Common.{inl, inr, refl, subst}
use Rattle.office_machine.specs.declared.command.Command.TheVariants as command
use Rattle.signal_office_commands.proofs.ChangingLemmas.{changes_none, changes_weaker}
use Rattle.signal_office_commands.proofs.FaultLemmas.{err_is}
use Rattle.signal_office_commands.proofs.changing.import.Goals as goal
use Rattle.signal_office_commands.specs.Changing.{AfterStep, ChangesShelf, RunsCommand}

pub returns : goal.returns
returns g c =
    let read = c.in_ok-records_in in
    changes_weaker (subst (λ records. ChangesShelf g.S.Shelf c.args.office.now c.change.new.office (λ old new. RunsCommand (command.Import records) old new c.change.result) (AfterStep (command.Import records)))
    c.new-records.ensures c.change.ensures)
    (λ tables made ran. inl (read.field-0.items, read.ensures.read, ran)) (λ tables found after. (read.field-0.items, read.ensures.read, after))

pub returns-in_err-records_in : goal.returns-in_err-records_in
returns-in_err-records_in g c = changes_none (λ tables. inr (_, err_is _ _ c.from_residual.ensures.1, c.in_err-records_in.ensures.fault, refl))
