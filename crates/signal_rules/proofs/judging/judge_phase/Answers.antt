use Rattle.std.proofs.{Common.[], Common.◌∷◌, Common.sym, Common.◌∙◌, lemmas.List.append-nil, lemmas.Result.on_ok_weaker}
use Rattle.signal_rules.specs.declared.violation.Rule.TheVariants as rule
use Rattle.signal_rules.specs.declared.violation.Subject.TheVariants as subject
use Rattle.signal_rules.specs.PhaseRules.{yellow_cases, red_cases, walk_cases, crossing_cases, setback_cases, lead_cases, of_ped, mates_cases}
use Rattle.signal_rules.specs.Violations.{Findings}
use Rattle.signal_rules.proofs.Reports.{reported}
use Rattle.signal_rules.proofs.judging.judge_phase.Goals as goal

pub returns : goal.returns
returns g c =
    let of = g.F.Finding.of in
    let s = subject.Phase c.args.p in
    let phase = c.args.phase.now in
    let lead : Findings = (rule.V14, of_ped phase.ped lead_cases) ∷ [] in
    let mates : Findings = (rule.V6, mates_cases c.args.set.now c.args.p phase) ∷ lead in
    let setback : Findings = (rule.V5, of_ped phase.ped (setback_cases phase)) ∷ mates in
    let crossing : Findings = (rule.V4, of_ped phase.ped (crossing_cases phase)) ∷ setback in
    let walk : Findings = (rule.V3, of_ped phase.ped walk_cases) ∷ crossing in
    let red : Findings = (rule.V2, red_cases phase) ∷ walk in
    on_ok_weaker c.report-7.result
    (λ e.
    sym (append-nil _) ∙ reported of s rule.V14 (of_ped phase.ped lead_cases) _ [] _ _ c.lead_reason.ensures e
    ∙ reported of s rule.V6 (mates_cases c.args.set.now c.args.p phase) _ lead _ _ c.mates_reason.ensures c.in_ok-report-6.ensures
    ∙ reported of s rule.V5 (of_ped phase.ped (setback_cases phase)) _ mates _ _ c.setback_reason.ensures c.in_ok-report-5.ensures
    ∙ reported of s rule.V4 (of_ped phase.ped (crossing_cases phase)) _ setback _ _ c.clearance_reason.ensures c.in_ok-report-4.ensures
    ∙ reported of s rule.V3 (of_ped phase.ped walk_cases) _ crossing _ _ c.walk_reason.ensures c.in_ok-report-3.ensures
    ∙ reported of s rule.V2 (red_cases phase) _ walk _ _ c.red_reason.ensures c.in_ok-report-2.ensures
    ∙ reported of s rule.V1 (yellow_cases phase) _ red _ _ c.yellow_reason.ensures c.in_ok-report.ensures)
    c.report-7.ensures
