use Rattle.std.proofs.Common.{rules}
use Rattle.office_machine.specs.declared.command.Command.TheVariants as command
use Rattle.signal_office_commands.proofs.ChangingLemmas.{changes_none, runs_change}
use Rattle.signal_office_commands.proofs.changing.drop_draft.Goals as goal

pub returns : goal.returns
returns g c = runs_change (command.Abandon c.args.id) _ c.in_ok-clerk.ensures c.change.ensures

pub returns-in_err-clerk : goal.returns-in_err-clerk
returns-in_err-clerk g c = changes_none (λ tables. search rules)
