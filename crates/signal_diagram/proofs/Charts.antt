-- The lanes of a pattern are its chart.
use Rattle.std.proofs.Common.{◌≡◌, ℕ, eqb, List, [], ◌∷◌, map, length, get_or, refl, sym, ap, ◌∙◌, arith}
use Rattle.std.proofs.lemmas.List.{Elements.All-map, Folds.list_all-map}
use Rattle.std.specs.List.{list_all}
use Rattle.signal_records.specs.{declared.record.Pattern.Pattern, TimingSet.Rows}
use Rattle.signal_rules.specs.{SequenceRule.ring_row, PatternRules.used_rings, PatternRules.lanes_fill_cycle, CutPoints.row_seconds, Starts.times, Starts.rings_fill}
use Rattle.signal_rules.proofs.Starts.{fill_by_rings}
use Rattle.signal_diagram.specs.{Lane.RingLane, Chart.with_time, Chart.bars_from, Chart.lane_of, Chart.lanes_of, Chart.end_of, Chart.lanes_end, Chart.IsLane, Chart.IsChart}
use Rattle.signal_diagram.proofs.Bars.{order, follow, lasts, ends, same_seconds, seconds}

is_lane : (set : Rows) (pattern : Pattern) (ring : ℕ)
    → IsLane set pattern (lane_of set pattern ring)
is_lane set pattern ring =
    let time : ℕ → ℕ = times set pattern.split in
    let row : List ℕ = ring_row set pattern.seq ring in
    record {
      order = order time (with_time time row) 0;
      follow = follow time (with_time time row) 0;
      lasts = lasts time (with_time time row) 0;
      seconds = seconds time row;
    }

each_ring : (set : Rows) (pattern : Pattern) (rings : List ℕ)
    → map (λ (shown : RingLane). shown.ring) (map (lane_of set pattern) rings) ≡ rings
each_ring set pattern [] = refl
each_ring set pattern (ring ∷ rings) =
    ap (λ (xs : List ℕ). ring ∷ xs) (each_ring set pattern rings)

-- the lanes end with the cycle where V12 holds
fill_by_lanes : (set : Rows) (pattern : Pattern)
    → lanes_fill_cycle set pattern ≡ lanes_end pattern.cycle (lanes_of set pattern)
fill_by_lanes set pattern =
    let time : ℕ → ℕ = times set pattern.split in
    let row : ℕ → List ℕ = ring_row set pattern.seq in
    let rings : List ℕ = used_rings set in
    let whole : (ring : ℕ) → length (row_seconds time (row ring)) ≡ end_of 0 (bars_from time 0 (with_time time (row ring))) =
    λ ring. omega (arith, ends time (with_time time (row ring)) 0, ap length (same_seconds time (row ring))) in
    let each : rings_fill set pattern rings
    ≡ list_all (λ ring. eqb (end_of 0 (bars_from time 0 (with_time time (row ring)))) pattern.cycle) rings =
    λ i. list_all (λ ring. eqb (whole ring i) pattern.cycle) rings in
    sym (fill_by_rings set pattern rings refl)
    ∙ each ∙ sym (list_all-map _ (lane_of set pattern) rings)

pub is_chart : (set : Rows) (pattern : Pattern) → IsChart set pattern (lanes_of set pattern)
is_chart set pattern = record {
  rings = each_ring set pattern (used_rings set);
  each = All-map (IsLane set pattern) (lane_of set pattern) (used_rings set)
      (λ k d lt. is_lane set pattern (get_or (used_rings set) k d));
  together = fill_by_lanes set pattern;
}
