use Rattle.std.proofs.Common.{subst}
use Rattle.signal_office_file.specs.Ended.{EndsOver, task_work}
use Rattle.office_lives.specs.Life.{IsClosedWith}
use Rattle.office_lives.proofs.LifeLemmas.{some_so}
use Rattle.office_lives.proofs.commands.done_once.Goals as goal

pub returns-clause-clean : goal.returns-clause-clean
returns-clause-clean g c =
    some_so (λ it. IsClosedWith c.done_in-ended.result it.0 it.1) _ c.closed_after.result
    (λ it is. (subst (EndsOver c.args.files (task_work (g.T.OfficeTask.effect c.args.task.now c.done_in-ended.new.task) _)) is c.done_in-ended.ensures).clean) c.closed_after.ensures

pub returns-clause-made : goal.returns-clause-made
returns-clause-made g c =
    some_so (λ it. IsClosedWith c.done_in-ended.result it.0 it.1) _ c.closed_after.result
    (λ it is. (subst (EndsOver c.args.files (task_work (g.T.OfficeTask.effect c.args.task.now c.done_in-ended.new.task) _)) is c.done_in-ended.ensures).made) c.closed_after.ensures
