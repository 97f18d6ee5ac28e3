use Rattle.std.proofs.Common.{rules}
use Rattle.office_machine.specs.declared.command.Command.TheVariants as command
use Rattle.signal_office_commands.proofs.ChangingLemmas.{changes_none, runs_change}
use Rattle.signal_office_commands.proofs.changing.add.Goals as goal

pub returns : goal.returns
returns g c = runs_change (command.AddIntersection c.args.id c.args.interval) _ c.in_ok-name.ensures c.change.ensures

pub returns-in_err-name : goal.returns-in_err-name
returns-in_err-name g c = changes_none (λ tables. search rules)
