use Rattle.std.proofs.Common.{inl, refl, sym, subst}
use Rattle.office_tables_decisions.specs.StandFor.{StandForSound}
use Rattle.signal_office_file.proofs.FilesLemmas.{found_tables}
use Rattle.office_lives.proofs.commands.served_around.Goals as goal

pub returns : goal.returns
returns g c clean =
    let three = c.in_ok-second.ensures.made clean in
    let after_two = c.in_ok-second.ensures.clean clean in
    let two = c.in_ok-done.ensures.made after_two in
    let one = c.in_ok-first.ensures.made (c.in_ok-done.ensures.clean after_two) in
    let first = found_tables g.D.Disk c.in_ok-first.files one.1 one.4 _ (inl refl) two.0 two.2 in
    let second = found_tables g.D.Disk c.in_ok-done.files two.1 two.4 _ (inl refl) three.0 three.2 in (
      one.0,
      three.1,
      one.2,
      (
        one.1,
        one.3,
        (
          two.1,
          subst (λ old. (g.T.OfficeTask.effect c.args.task.now c.done_once.new.task).does old c.in_ok-done.done two.1) first two.3,
          (three.1, (λ before stands. three.3 before (subst (λ t. StandForSound t before) (sym second) stands)), refl),
        ),
      ),
      three.4,
    )
