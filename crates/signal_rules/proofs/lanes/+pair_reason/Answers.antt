use Rattle.std.proofs.Common.{sym, ap, ◌∙◌}
use Rattle.signal_rules.specs.{Cases.first_true, Slots.pair_cases, Slots.spans_in}
use Rattle.signal_rules.proofs.Pairs.{pair_here, pair_past, parted}
use Rattle.signal_rules.proofs.lanes.+pair_reason.Goals as goal

pub returns-in-Some : goal.returns-in-Some
returns-in-Some t c =
    let second = c.args.second in
    sym (pair_here second c.slot-item.result _ c.in-Some.reason (sym c.slot_reason.ensures ∙ c.in-Some.is))
    ∙ ap (λ l. first_true (pair_cases second (spans_in second l))) (sym (parted c.args.slots.now c.slot-item.result c.in-len1-up.len_at_least c.slot-item.is))

pub returns-in-None : goal.returns-in-None
returns-in-None t c =
    let second = c.args.second in
    c.pair_reason.ensures
    ∙ sym (pair_past second c.slot-item.result _ (sym c.slot_reason.ensures ∙ c.in-None.is))
    ∙ ap (λ l. first_true (pair_cases second (spans_in second l))) (sym (parted c.args.slots.now c.slot-item.result c.in-len1-up.len_at_least c.slot-item.is))
