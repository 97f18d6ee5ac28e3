use Rattle.std.proofs.Common.{sym, ap, ◌∙◌}
use Rattle.signal_rules.specs.{Cases.first_true}
use Rattle.signal_rules.proofs.{Cases.first_here, Cases.first_past, Pairs.parted}
use Rattle.signal_plans.specs.PatternWarnings.{crowded_by, crowded_cases}
use Rattle.signal_plans.proofs.pattern.+crowding_advice.Goals as goal

pub returns-in-Some : goal.returns-in-Some
returns-in-Some t c =
    let set = c.args.set.now in
    let pattern = c.args.pattern.now in
    let others = c.args.others.now in
    sym (first_here (crowded_by set pattern c.phase-item.result others) (crowded_cases set pattern others _) c.in-Some.advice (sym c.crowded_by.ensures ∙ c.in-Some.is))
    ∙ ap (λ l. first_true (crowded_cases set pattern others l)) (sym (parted c.args.phases.now c.phase-item.result c.in-len1-up.len_at_least c.phase-item.is))

pub returns-in-None : goal.returns-in-None
returns-in-None t c =
    let set = c.args.set.now in
    let pattern = c.args.pattern.now in
    let others = c.args.others.now in
    c.crowding_advice.ensures
    ∙ sym (first_past (crowded_by set pattern c.phase-item.result others) (crowded_cases set pattern others _) (sym c.crowded_by.ensures ∙ c.in-None.is))
    ∙ ap (λ l. first_true (crowded_cases set pattern others l)) (sym (parted c.args.phases.now c.phase-item.result c.in-len1-up.len_at_least c.phase-item.is))
