use Rattle.signal_office_commands.proofs.ChangingLemmas.{runs_command}
use Rattle.signal_office_commands.proofs.changing.change.Goals as goal

pub returns : goal.returns
returns g c = runs_command c.args.command _ _ c.accept_reply.ensures c.run-reply.ensures
