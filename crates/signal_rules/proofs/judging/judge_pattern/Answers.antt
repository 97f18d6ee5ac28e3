use Rattle.std.proofs.Common.{ap, is_none, ◌∙◌}
use Rattle.std.specs.Global.{Vec}
use Rattle.signal_rules.specs.declared.violation.Subject.TheVariants as subject
use Rattle.signal_rules.specs.PatternRules.{has_rows}
use Rattle.signal_rules.specs.Violations.{lane_findings}
use Rattle.signal_rules.proofs.Reports.{none_is, pattern_reported, with_lanes, without_lanes}
use Rattle.signal_rules.proofs.judging.judge_pattern.Goals.{then-has_rows+in_ok-judge_lanes, else-has_rows}
use Rattle.signal_rules.proofs.judging.judge_pattern.Goals as goal

pub returns-clause-found : goal.returns-clause-found
returns-clause-found g c =
    let of = g.F.Finding.of in
    let s = subject.Pattern c.args.n in
    let set = c.args.set.now in
    let pattern = c.args.pattern.now in
    pattern_reported of s set pattern _ _ _ _ _ _ _ _ c.rows_reason-rows.ensures c.offset_reason-offset.ensures c.coordination_reason-coordination.ensures c.in_ok-report.ensures c.in_ok-report-2.ensures c.in_ok-report-3.ensures
    (elim c.if-has_rows.branch [
      | then-has_rows+in_ok-judge_lanes w ↦
          ap (λ (v : Vec _). v.items) w.found-is ∙ with_lanes of s set pattern c.is_none-has_rows.result _ _ (none_is _ _ _ c.is_none-has_rows.ensures (ap is_none c.rows_reason-rows.ensures)) w.if-has_rows.true w.in_ok-judge_lanes.ensures.found
      | else-has_rows w ↦
          without_lanes of s (has_rows set pattern) c.is_none-has_rows.result (lane_findings set pattern) _ _ (none_is _ _ _ c.is_none-has_rows.ensures (ap is_none c.rows_reason-rows.ensures)) w.if-has_rows.false (ap (λ (v : Vec _). v.items) w.found-is)
    ])
