use Rattle.std.proofs.Common.{sym, ap, ◌∙◌}
use Rattle.signal_rules.specs.{Cases.first_true}
use Rattle.signal_rules.proofs.{Cases.first_here, Cases.first_past, Pairs.parted}
use Rattle.signal_plans.specs.PatternWarnings.{apart_from, apart_cases}
use Rattle.signal_plans.proofs.pattern.+apart_advice.Goals as goal

pub returns-in-Some : goal.returns-in-Some
returns-in-Some t c =
    let set = c.args.set.now in
    let pattern = c.args.pattern.now in
    sym (first_here (apart_from set pattern c.phase-item.result _) (apart_cases set pattern _) c.in-Some.advice (sym c.apart_from.ensures ∙ c.in-Some.is))
    ∙ ap (λ l. first_true (apart_cases set pattern l)) (sym (parted c.args.phases.now c.phase-item.result c.in-len1-up.len_at_least c.phase-item.is))

pub returns-in-None : goal.returns-in-None
returns-in-None t c =
    let set = c.args.set.now in
    let pattern = c.args.pattern.now in
    c.apart_advice.ensures
    ∙ sym (first_past (apart_from set pattern c.phase-item.result _) (apart_cases set pattern _) (sym c.apart_from.ensures ∙ c.in-None.is))
    ∙ ap (λ l. first_true (apart_cases set pattern l)) (sym (parted c.args.phases.now c.phase-item.result c.in-len1-up.len_at_least c.phase-item.is))
