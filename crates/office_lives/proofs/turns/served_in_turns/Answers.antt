use Rattle.std.proofs.Common.{inl, refl, subst}
use Rattle.signal_office_file.proofs.FilesLemmas.{found_tables}
use Rattle.office_lives.specs.Turns.{state_in}
use Rattle.office_lives.proofs.StreamLemmas.{one_part, turn_over}
use Rattle.office_lives.proofs.turns.served_in_turns.Goals as goal

pub returns : goal.returns
returns g c clean =
    let three = c.in_ok-second.ensures.made clean in
    let after_two = c.in_ok-second.ensures.clean clean in
    let two = c.in_ok-done.ensures.made after_two in
    let one = c.in_ok-first.ensures.made (c.in_ok-done.ensures.clean after_two) in
    let first = found_tables g.D.Disk c.in_ok-first.files one.1 one.4 _ (inl refl) two.0 two.2 in
    let second = found_tables g.D.Disk c.in_ok-done.files two.1 two.4 _ (inl refl) three.0 three.2 in
    let task = subst (λ old. (g.T.OfficeTask.effect c.args.task.now c.done_once-2.new.task).does old c.in_ok-done.done two.1) first two.3 in
    let later = turn_over second three.3 in (
      one.0,
      three.1,
      state_in g.R.Source.told g.W.Sink.told c.done_once.new.task,
      one.2,
      (one.1, one.3, (two.1, task, (three.1, later, refl))),
      three.4,
      λ nothing n paused.
          let same = turn_over (nothing one.1 two.1 c.in_ok-done.done task) later in
          (same.outcome, same.is, one_part _ _ _ _ _ _ _ _ n one.3 same paused),
    )
