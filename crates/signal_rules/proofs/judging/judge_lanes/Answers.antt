use Rattle.std.proofs.Common.{not, ap, ◌∙◌}
use Rattle.std.specs.Global.{Vec}
use Rattle.signal_rules.specs.declared.violation.Subject.TheVariants as subject
use Rattle.signal_rules.proofs.Reports.{fills, slots_agree, filled_reported, unfilled_reported}
use Rattle.signal_rules.proofs.Slots.{only_added, slots_rise}
use Rattle.signal_rules.proofs.Steps.{rises_none}
use Rattle.signal_rules.proofs.judging.judge_lanes.Goals.{then-fill+in_ok-judge_slots, else-fill}
use Rattle.signal_rules.proofs.judging.judge_lanes.Goals as goal

pub judge_slots-requires : goal.judge_slots-requires
judge_slots-requires g c =
    let used = c.deref.ensures.value ∙ c.in_ok-rings.ensures in
    slots_agree c.args.set.now c.args.pattern.now _ _ used (fills c.args.set.now c.args.pattern.now _ _ _ used c.in_ok-sum.ensures.reason c.is_none-fill.ensures c.if-fill.true)
    (only_added _ _ _ _ c.deref-then-fill.ensures.value (c.in_ok-sum.ensures.slots (c.is_none-fill.ensures ∙ ap not c.if-fill.true)) c.new-slots.ensures.items)

pub returns-in_err-judge_slots-clause-ticks : goal.returns-in_err-judge_slots-clause-ticks
returns-in_err-judge_slots-clause-ticks g c =
    slots_rise c.args.set.now c.args.pattern.now _ _ _ _ (c.deref.ensures.value ∙ c.in_ok-rings.ensures)
    (only_added _ _ _ _ c.deref-then-fill.ensures.value (c.in_ok-sum.ensures.slots (c.is_none-fill.ensures ∙ ap not c.if-fill.true)) c.new-slots.ensures.items) c.judge_slots.ensures.ticks

pub returns-clause-ticks : goal.returns-clause-ticks
returns-clause-ticks g c =
    elim c.if-fill.branch [
      | then-fill+in_ok-judge_slots w ↦
          rw w.ticks-is (slots_rise c.args.set.now c.args.pattern.now _ _ _ _ (c.deref.ensures.value ∙ c.in_ok-rings.ensures)
          (only_added _ _ _ _ w.deref-then-fill.ensures.value (c.in_ok-sum.ensures.slots (c.is_none-fill.ensures ∙ ap not w.if-fill.true)) c.new-slots.ensures.items) w.judge_slots.ensures.ticks)
      | else-fill w ↦ rw w.ticks-is (rises_none _ _)
    ]

pub returns-clause-found : goal.returns-clause-found
returns-clause-found g c =
    let of = g.F.Finding.of in
    let s = subject.Pattern c.args.n in
    let used = c.deref.ensures.value ∙ c.in_ok-rings.ensures in
    elim c.if-fill.branch [
      | then-fill+in_ok-judge_slots w ↦
          ap (λ (v : Vec _). v.items) w.found-is
          ∙ filled_reported of s c.args.set.now c.args.pattern.now _ _ _ c.is_none-fill.result _ _ _ used c.in_ok-sum.ensures.reason c.is_none-fill.ensures w.if-fill.true
          (only_added _ _ _ _ w.deref-then-fill.ensures.value (c.in_ok-sum.ensures.slots (c.is_none-fill.ensures ∙ ap not w.if-fill.true)) c.new-slots.ensures.items) c.in_ok-report.ensures w.in_ok-judge_slots.ensures.found
      | else-fill w ↦
          unfilled_reported of s c.args.set.now c.args.pattern.now _ _ c.is_none-fill.result _ _ _ used c.in_ok-sum.ensures.reason c.is_none-fill.ensures w.if-fill.false c.in_ok-report.ensures (ap (λ (v : Vec _). v.items) w.found-is)
    ]
