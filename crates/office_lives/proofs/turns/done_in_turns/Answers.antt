use Rattle.std.proofs.Common.{◌≡◌, ◌-◌, ◌+◌, inl, refl, arith, subst}
use Rattle.signal_office_file.proofs.FilesLemmas.{found_tables}
use Rattle.office_lives.specs.Turns.{DoneInTurns}
use Rattle.office_lives.proofs.TurnLemmas.{first_turn, one_turn_more}
use Rattle.office_lives.proofs.turns.done_in_turns.Goals as goal

pub loop-left-init : goal.loop-left-init
loop-left-init g c = (
  omega (arith),
  λ clean.
      let turn = c.in_ok-_done.ensures.made clean in
      first_turn g.D.Disk g.T.OfficeTask.effect (c.args.more - c.args.more + 1) (omega (arith)) _ _ _ _ _ _ _ turn.2 turn.3 turn.4,
)

pub loop-left-preserved : goal.loop-left-preserved
loop-left-preserved g c = (
  omega (arith, c.loop-left.invariant.0),
  λ clean.
      let turn = c.in_ok-_done-2.ensures.made clean in
      let so_far = c.loop-left.invariant.1 (c.in_ok-_done-2.ensures.clean clean) in
      one_turn_more g.D.Disk g.T.OfficeTask.effect (c.args.more - c.loop-left.left + 1) (c.args.more - (c.loop-left.left - 1) + 1)
      (omega (arith, c.loop-left.invariant.0, c.loop-left-test.true)) _ _ _ _ _ _ _ _ _ so_far
      (found_tables g.D.Disk c.loop-left.files so_far.new so_far.kept _ (inl refl) turn.0 turn.2) turn.3 turn.4,
)

pub loop-left-preserved-in_ok-_done-2 : goal.loop-left-preserved-in_ok-_done-2
loop-left-preserved-in_ok-_done-2 g c = (
  omega (arith, c.loop-left.invariant.0),
  λ clean.
      let turn = c.in_ok-_done-2.ensures.made clean in
      let so_far = c.loop-left.invariant.1 (c.in_ok-_done-2.ensures.clean clean) in
      one_turn_more g.D.Disk g.T.OfficeTask.effect (c.args.more - c.loop-left.left + 1) (c.args.more - (c.loop-left.left - 1) + 1)
      (omega (arith, c.loop-left.invariant.0, c.loop-left-test.true)) _ _ _ _ _ _ _ _ _ so_far
      (found_tables g.D.Disk c.loop-left.files so_far.new so_far.kept _ (inl refl) turn.0 turn.2) turn.3 turn.4,
)

pub returns : goal.returns
returns g c clean =
    let all : c.args.more - c.loop-left.left + 1 ≡ c.args.more + 1 = omega (arith, c.loop-left-test.false) in
    subst (λ n. DoneInTurns g.T.OfficeTask.effect g.D.Disk n c.args.files c.loop-left.files c.args.task.now c.loop-left.task) all (c.loop-left.invariant.1 clean)
