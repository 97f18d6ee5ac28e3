use Rattle.std.proofs.Common.{◌<◌, ◌∙◌, subst, arith}
use Rattle.signal_rules.specs.Slots.{IsFirstConflict}
use Rattle.signal_rules.proofs.FirstConflict.{conflict_found, none_found}
use Rattle.signal_rules.proofs.pattern.conflict_reason.Goals as goal

pub returns-then-first-end : goal.returns-then-first-end
returns-then-first-end c =
    let cycle = c.get-end.ensures.value in
    none_found c.args.slots.now c.args.cycle c.first_conflict-first.result
    (subst (λ end. IsFirstConflict c.args.slots.now c.args.slots.now end c.first_conflict-first.result)
    cycle c.first_conflict-first.ensures) (omega (arith, c.if-first-end.true, cycle))

pub returns : goal.returns
returns c =
    let cycle = c.get-end.ensures.value in
    let within = c.first_conflict-first.ensures.within in
    c.pair_reason.ensures
    ∙ conflict_found c.args.slots.now c.args.cycle c.first_conflict-first.result
    (subst (λ end. IsFirstConflict c.args.slots.now c.args.slots.now end c.first_conflict-first.result)
    cycle c.first_conflict-first.ensures) (omega (arith, within, c.if-first-end.false, cycle))
