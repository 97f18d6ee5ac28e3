use Rattle.std.proofs.Common.{◌++◌, ap, ◌∙◌, arith}
use Rattle.signal_rules.proofs.Steps.{flat_map_step, flat_map_done, seconds_step, calls_within, rises_on}
use Rattle.signal_rules.proofs.Whole.{answers_are_all}
use Rattle.signal_rules.proofs.counting.violations_touched.Goals as goal

pub returns-in_err-part-clause-calls : goal.returns-in_err-part-clause-calls
returns-in_err-part-clause-calls g c =
    calls_within _ _ c.loop-subject.subject-index _ _ _ (c.deref-subject-items.ensures.value ∙ c.in_ok-touched.ensures) c.loop-subject-test.true c.loop-subject.invariant.calls c.judge.ensures.call

pub returns-in_err-extend_from_slice-clause-calls : goal.returns-in_err-extend_from_slice-clause-calls
returns-in_err-extend_from_slice-clause-calls g c =
    calls_within _ _ c.loop-subject.subject-index _ _ _ (c.deref-subject-items.ensures.value ∙ c.in_ok-touched.ensures) c.loop-subject-test.true c.loop-subject.invariant.calls c.judge.ensures.call

pub loop-subject-preserved : goal.loop-subject-preserved
loop-subject-preserved g c = record {
  found =
      flat_map_step (g.J.Judge.answers c.args.draft.now) _ _ _ _ c.loop-subject.subject-index c.subject-item.result c.loop-subject-test.true c.subject-item.is c.loop-subject.invariant.found
      (c.in_ok-extend_from_slice.ensures.items ∙ ap (λ l. c.loop-subject.found.items ++ l) (c.deref.ensures.value ∙ c.in_ok-part.ensures.answer));
  calls = rises_on c.loop-subject.subject-index 1 _ _ _ c.loop-subject.invariant.calls c.judge.ensures.call;
  seconds_low = omega (arith, c.loop-subject.invariant.seconds_low, c.judge.ensures.compared.0);
  seconds_high = seconds_step c.args.draft.now _ c.loop-subject.subject-index _ _ _ c.subject-item.result c.loop-subject-test.true c.subject-item.is c.loop-subject.invariant.seconds_high c.judge.ensures.compared;
  seconds_stay = λ e. c.judge.ensures.compared.2 (c.loop-subject.invariant.seconds_stay e);
}

pub returns-clause-whole : goal.returns-clause-whole
returns-clause-whole g c =
    λ none differs right.
    answers_are_all g.J.Judge.answers c.args.base.now c.args.draft.now c.args.keys.now
    c.loop-subject.found.items
    (flat_map_done (g.J.Judge.answers c.args.draft.now) c.loop-subject.found.items _ _ c.loop-subject.subject-index c.loop-subject-test.false c.loop-subject.invariant.found (c.deref-subject-items.ensures.value ∙ c.in_ok-touched.ensures))
    none differs right
