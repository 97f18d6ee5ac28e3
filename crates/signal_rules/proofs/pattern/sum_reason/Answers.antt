use Rattle.std.proofs.Common.{◌≡◌, ℕ, ◌+◌, ◌<◌, Bool, true, false, List, ◌∷◌, ◌++◌, drop, eqb, length, get_or, Option, Some, sym, ap, ◌∙◌, refl}
use Rattle.signal_records.specs.{declared.record.Pattern.Pattern, TimingSet.Rows}
use Rattle.signal_rules.specs.{SequenceRule.ring_row, CutPoints.row_seconds, Starts.times, Slots.spans_from, Cases.first_true, PatternRules.rings_cases, Lanes.ring_sum}
use Rattle.signal_rules.specs.declared.reason.Reason.{Reason}
use Rattle.signal_rules.specs.declared.reason.Reason.TheVariants as reason
use Rattle.signal_rules.specs.declared.reason.PatternReason.TheVariants.{OtherSum}
use Rattle.signal_rules.proofs.Steps.{one_left, flat_map_step}
use Rattle.signal_rules.proofs.pattern.sum_reason.Goals as goal

test_is : (set : Rows) (pattern : Pattern) (ring : ℕ) (row : List ℕ) (fill b : Bool) → row ≡ ring_row set pattern.seq ring → fill ≡ eqb (length (row_seconds (times set pattern.split) row)) pattern.cycle → fill ≡ b → eqb (ring_sum set pattern ring) pattern.cycle ≡ b
test_is set pattern ring row fill b e f g = sym (f ∙ ap (λ ps. eqb (length (row_seconds (times set pattern.split) ps)) pattern.cycle) e) ∙ g

first_other : (set : Rows) (pattern : Pattern) (rings : List ℕ) (i ring sum : ℕ) (whole : Option Reason) → i < length rings → ring ≡ get_or rings i ring → first_true (rings_cases set pattern (drop i rings)) ≡ whole → sum ≡ ring_sum set pattern ring
    → eqb (ring_sum set pattern ring) pattern.cycle ≡ false → Some (reason.Pattern (OtherSum ring sum pattern.cycle)) ≡ whole
first_other set pattern rings i ring sum whole lt is so_far e wrong =
    let step : first_true (rings_cases set pattern (ring ∷ drop (i + 1) rings)) ≡ Some (reason.Pattern (OtherSum ring (ring_sum set pattern ring) pattern.cycle)) = rw wrong refl in
    ap (λ s. Some (reason.Pattern (OtherSum ring s pattern.cycle))) e ∙ sym step ∙ ap (λ l. first_true (rings_cases set pattern l)) (sym (one_left rings i ring lt is)) ∙ so_far

passed : (set : Rows) (pattern : Pattern) (rings : List ℕ) (i ring : ℕ) (whole : Option Reason) → i < length rings → ring ≡ get_or rings i ring → first_true (rings_cases set pattern (drop i rings)) ≡ whole
    → eqb (ring_sum set pattern ring) pattern.cycle ≡ true → first_true (rings_cases set pattern (drop (i + 1) rings)) ≡ whole
passed set pattern rings i ring whole lt is so_far right =
    let step : first_true (rings_cases set pattern (ring ∷ drop (i + 1) rings)) ≡ first_true (rings_cases set pattern (drop (i + 1) rings)) = rw right refl in
    sym step ∙ ap (λ l. first_true (rings_cases set pattern l)) (sym (one_left rings i ring lt is)) ∙ so_far

pub returns-then-not-branch-clause-reason : goal.returns-then-not-branch-clause-reason
returns-then-not-branch-clause-reason c =
    first_other c.args.set.now c.args.pattern.now c.args.rings.now c.loop-ring.ring-index c.ring-item.result _ _ c.loop-ring-test.true c.ring-item.is c.loop-ring.invariant.reason c.lane_seconds-sum.ensures.exact
    (test_is c.args.set.now c.args.pattern.now c.ring-item.result _ _ _ c.ring_row-row.ensures.row c.in_ok-row_fills.ensures.fill c.if-not-branch.true)

pub loop-ring-preserved : goal.loop-ring-preserved
loop-ring-preserved c =
    let set = c.args.set.now in
    let pattern = c.args.pattern.now in
    record {
      reason = passed set pattern c.args.rings.now c.loop-ring.ring-index c.ring-item.result _ c.loop-ring-test.true c.ring-item.is c.loop-ring.invariant.reason
          (test_is set pattern c.ring-item.result _ _ _ c.ring_row-row.ensures.row c.in_ok-row_fills.ensures.fill c.if-not-branch.false);
      slots = flat_map_step (λ ring. spans_from set pattern.split 0 (ring_row set pattern.seq ring)) _ _ c.args.rings.now _ c.loop-ring.ring-index c.ring-item.result c.loop-ring-test.true c.ring-item.is c.loop-ring.invariant.slots
          (c.in_ok-row_fills.ensures.slots c.if-not-branch.false ∙ ap (λ row. c.loop-ring.slots.items ++ spans_from set pattern.split 0 row) c.ring_row-row.ensures.row);
    }
