use Rattle.std.proofs.Common.{◌≡◌, ◌<◌, true, List, ap, not, subst, sym, ◌∙◌, arith}
use Rattle.std.specs.Prelude.{is_none}
use Rattle.std.specs.List.{AllByRecursion}
use Rattle.signal_rules.specs.{Cases.holds, Slots.Span, Slots.pair_cases, Slots.spans_in}
use Rattle.signal_rules.proofs.{FirstConflict.some_is_found, FirstConflict.weaker, Pairs.parted}
use Rattle.signal_rules.proofs.pattern.+first_conflict.Goals as goal

pub returns : goal.returns
returns t c =
    let spans = c.args.slots.now in
    let from = c.slot.inside.from in
    let first = c.first_conflict-first.result in
    let later = c.first_conflict-first.ensures in
    let at : c.slot-item.result.from ≡ from = cc in
    let sooner : from < first = omega (arith, c.if-first-slot.false) in
    let quiet = λ (second : _) (x : Span).
    x.from < second → holds (pair_cases x.from (spans_in x.from spans)) ≡ true in
    record {
      within = omega (arith, sooner, later.within);
      broken = λ lt. ap is_none (sym c.pair_reason.ensures) ∙ some_is_found c.pair_reason.result
          (c.is_none.ensures ∙ ap not c.if-is_none.false);
      before = subst (AllByRecursion (quiet from))
          (sym (parted c.args.begun.now c.slot-item.result c.in-len1-up.len_at_least c.slot-item.is)) (
            λ lt. absurd (let never : from < from = subst (λ n. n < from) at lt in let f : ⊥ = omega (arith, never) in f),
            weaker (quiet first) (quiet from) _ (λ x all lt. all (omega (arith, lt, sooner))) later.before,
          );
    }
