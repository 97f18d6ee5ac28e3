use Rattle.std.proofs.Common.{subst}
use Rattle.std.proofs.Math.Logic.{∥∥₁_map}
use Rattle.signal_office_file.specs.Ended.{EndsOver, task_work}
use Rattle.office_lives.specs.Life.{IsUnclosedWith}
use Rattle.office_lives.proofs.LifeLemmas.{some_so}
use Rattle.office_lives.proofs.cutting.done_unclosed.Goals as goal

pub returns-clause-databases : goal.returns-clause-databases
returns-clause-databases g c =
    some_so (λ back. IsUnclosedWith c.done_in-ended.result back) _ c.left_after.result
    (λ back is clean. ((subst (EndsOver c.args.files (task_work (g.T.OfficeTask.effect c.args.task.now c.done_in-ended.new.task) _)) is.1 c.done_in-ended.ensures).3 clean).2.0) c.left_after.ensures

pub returns-clause-made : goal.returns-clause-made
returns-clause-made g c =
    some_so (λ back. IsUnclosedWith c.done_in-ended.result back) _ c.left_after.result
    (λ back is clean.
    let it = (subst (EndsOver c.args.files (task_work (g.T.OfficeTask.effect c.args.task.now c.done_in-ended.new.task) _)) is.1 c.done_in-ended.ensures).3 clean in
    (it.0, it.1, λ found may. ∥∥₁_map may (λ m. it.2.2 found m))) c.left_after.ensures
