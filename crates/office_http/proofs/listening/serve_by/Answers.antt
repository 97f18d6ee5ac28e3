use Rattle.std.proofs.Common.{[], ◌∷◌, ◌++◌, sym, subst, arith}
use Rattle.office_http.specs.Listening.{ListensBy, connection_between, connection_state, ran_by}
use Rattle.office_http.proofs.ListeningLemmas.{exchanges-back, exchanges-kept, exchanges-none, exchanges-start, exchanges-trans, exchanges-untouched, listens-next, listens-start, no_more_back, none-append, one_more_back}
use Rattle.office_http.proofs.listening.serve_by.Goals as goal

pub loop-left-init : goal.loop-left-init
loop-left-init g c = record {
  clean = λ clean. clean;
  honest = λ honest. honest;
  served = ([], tt, omega arith, exchanges-start _, λ clean before held keeps. listens-start _ _ _ _ held before keeps);
}

pub returns-in_default-clause-did : goal.returns-in_default-clause-did
returns-in_default-clause-did g c =
    let so_far = c.loop-left.invariant.served in
    (so_far.0, (so_far.2, (c.loop-left-test.true, _, so_far.3, c.in_default.ensures)), so_far.4)

-- none is given, as the turn is to end
pub returns-in_default-next-clause-did : goal.returns-in_default-next-clause-did
returns-in_default-next-clause-did g c =
    let so_far = c.loop-left.invariant.served in
    (so_far.0, (so_far.2, (c.loop-left-test.true, exchanges-none _ _ _ so_far.0 so_far.3 (rw c.in_default-next.is at c.in-Ok.ensures))), so_far.4)

-- the connection paused, and is kept
pub returns-in-Ok-true-clause-did : goal.returns-in-Ok-true-clause-did
returns-in-Ok-true-clause-did g c =
    let so_far = c.loop-left.invariant.served in
    let one = c.in-Ok-true.ensures in
    let is = c.in-Ok-true.field-0-test in
    let start = connection_state g.L.Reader.Source.told g.L.Writer.Sink.told c.in-Some.connection in
    let end = connection_state g.L.Reader.Source.told g.L.Writer.Sink.told c.serve_connection.new.connection in (
      so_far.0 ++ connection_between c.in-Ok-true.field-0 start end ∷ [],
      (
        omega (arith, so_far.2, no_more_back so_far.0 c.in-Ok-true.field-0 start end is),
        (c.loop-left-test.true, exchanges-trans _ _ _ so_far.0 _ so_far.3 (exchanges-kept _ _ _ c.in-Ok-true.field-0 start end is (rw c.in-Some.is at c.in-Ok.ensures) c.keep.ensures)),
      ),
      λ clean before held keeps.
          let x = so_far.4 (one.clean clean) before held keeps in
          let next = one.did clean x.after x.kept x.keeps in
          listens-next _ _ _ held before _ _ next.1 next.0 so_far.0 _ x next.2,
    )

-- the connection was accepted, and nothing was read from it
pub returns-in-Err-clause-did : goal.returns-in-Err-clause-did
returns-in-Err-clause-did g c =
    let so_far = c.loop-left.invariant.served in
    let one = c.in-Err.ensures in (
      so_far.0,
      (so_far.2, (c.loop-left-test.true, _, so_far.3, _, exchanges-untouched _ _ _ _ _ one.untouched.0 (rw c.in-Some.is at c.in-Ok.ensures) c.take_back-in-Err.ensures)),
      λ clean before held keeps.
          subst (λ machine. ListensBy g.M.Machine.protocol g.M.Machine.storage (ran_by g.M.Machine.protocol g.M.Machine.storage) c.args.machine.now held before machine so_far.0) (sym one.untouched.1)
          (so_far.4 (one.clean clean) before held keeps),
    )

pub loop-left-preserved : goal.loop-left-preserved
loop-left-preserved g c =
    let so_far = c.loop-left.invariant.served in
    let one = c.in-Ok-false.ensures in
    let is = c.in-Ok-false.field-0-test in
    let start = connection_state g.L.Reader.Source.told g.L.Writer.Sink.told c.in-Some.connection in
    let end = connection_state g.L.Reader.Source.told g.L.Writer.Sink.told c.serve_connection.new.connection in
    record {
      clean = λ clean. c.loop-left.invariant.clean (one.clean clean);
      honest = λ honest. c.loop-left.invariant.honest (one.honest honest);
      served = (
        so_far.0 ++ connection_between c.in-Ok-false.field-0 start end ∷ [],
        none-append so_far.0 _ so_far.1 is,
        omega (arith, c.loop-left-test.true, so_far.2, one_more_back so_far.0 c.in-Ok-false.field-0 start end is),
        exchanges-trans _ _ _ so_far.0 _ so_far.3 (exchanges-back _ _ _ c.in-Ok-false.field-0 start end is (rw c.in-Some.is at c.in-Ok.ensures) c.take_back.ensures),
        λ clean before held keeps.
            let x = so_far.4 (one.clean clean) before held keeps in
            let next = one.did clean x.after x.kept x.keeps in
            listens-next _ _ _ held before _ _ next.1 next.0 so_far.0 _ x next.2,
      );
    }
