-- The rings of a pattern, compared at their starts, answer as its lanes do.
use Rattle.std.proofs.Common.{◌≡◌, ℕ, ◌+◌, ◌<◌, ◌≤◌, Bool, true, false, eqb, List, [], ◌∷◌, map, filter, length, refl, sym, ap, ◌∙◌, arith}
use Rattle.std.proofs.lemmas.List.Folds.{list_all-map}
use Rattle.std.specs.{Prelude.cond, List.list_all}
use Rattle.signal_records.specs.{declared.record.Pattern.Pattern, TimingSet.Rows}
use Rattle.signal_rules.specs.{SequenceRule.ring_row, Lookup.ring_numbers, Lanes.lane, Lanes.is_used, Lanes.used_rings, CutPoints.row_seconds, CutPoints.starts, Starts.times, Starts.agree_at, Starts.agree_at_starts, Starts.rings_fill}
use Rattle.signal_rules.specs.Lanes.{ring_sum, lanes, all_list_each_other, phases_at}
use Rattle.signal_rules.specs.PatternRules.{lanes_fill_cycle, lanes_agree, agree_throughout}
use Rattle.signal_rules.specs.declared.reason.Reason.TheVariants as reason
use Rattle.signal_rules.specs.declared.reason.PatternReason.TheVariants.{OtherSum}
use Rattle.signal_rules.specs.Counts.{RisesAtMost, entries_of, sequence_entries}
use Rattle.signal_rules.proofs.{Cases.holds-map, CutPoints.cut_points, CutPoints.phases_in_lanes, Steps.rises_within}

-- the lanes of the rings' rows
pub lanes_of_rows : (set : Rows) (seq split : ℕ) (rings : List ℕ) → map (row_seconds (times set split)) (map (ring_row set seq) rings) ≡ map (lane set seq split) rings
lanes_of_rows set seq split [] = refl
lanes_of_rows set seq split (ring ∷ rings) = ap (λ (xs : List (List ℕ)). lane set seq split ring ∷ xs) (lanes_of_rows set seq split rings)

pub fill_of_rings : (set : Rows) (pattern : Pattern) (rings : List ℕ) → list_all (λ lane. eqb (length lane) pattern.cycle) (map (lane set pattern.seq pattern.split) rings) ≡ rings_fill set pattern rings
fill_of_rings set pattern rings = list_all-map (λ (xs : List ℕ). eqb (length xs) pattern.cycle) (lane set pattern.seq pattern.split) rings

-- lanes that fill the cycle agree where their rings agree at each start
pub agree_of_rings : (set : Rows) (pattern : Pattern) (rings : List ℕ) → list_all (λ lane. eqb (length lane) pattern.cycle) (map (lane set pattern.seq pattern.split) rings) ≡ true
    → agree_throughout set (map (lane set pattern.seq pattern.split) rings) pattern.cycle ≡ agree_at_starts set pattern rings rings
agree_of_rings set pattern rings fill =
    let time : ℕ → ℕ = times set pattern.split in
    let same : map (row_seconds (times set pattern.split)) (map (ring_row set pattern.seq) rings) ≡ map (lane set pattern.seq pattern.split) rings = lanes_of_rows set pattern.seq pattern.split rings in
    let full : list_all (λ lane. eqb (length lane) pattern.cycle) (map (row_seconds (times set pattern.split)) (map (ring_row set pattern.seq) rings)) ≡ true = ap (λ (xs : List (List ℕ)). list_all (λ lane. eqb (length lane) pattern.cycle) xs) same ∙ fill in
    ap (λ (xs : List (List ℕ)). agree_throughout set xs pattern.cycle) (sym same)
    ∙ cut_points (all_list_each_other set) (agree_at set pattern rings) (times set pattern.split) (map (ring_row set pattern.seq) rings) pattern.cycle refl full
    (λ t lt. ap (all_list_each_other set) (phases_in_lanes (times set pattern.split) (map (ring_row set pattern.seq) rings) pattern.cycle t full lt))
    ∙ list_all-map (λ (row : List ℕ). list_all (agree_at set pattern rings) (starts (times set pattern.split) 0 row)) (ring_row set pattern.seq) rings

-- each ring fills the cycle where V12 holds
pub fill_by_rings : (set : Rows) (pattern : Pattern) (rings : List ℕ) → rings ≡ used_rings set → rings_fill set pattern rings ≡ lanes_fill_cycle set pattern
fill_by_rings set pattern rings e =
    ap (rings_fill set pattern) e
    ∙ sym (holds-map (λ ring. eqb (ring_sum set pattern ring) pattern.cycle) (λ ring. reason.Pattern (OtherSum ring (ring_sum set pattern ring) pattern.cycle)) (used_rings set))

-- the lanes of rings that are used, where V12 holds
pub lanes_filled : (set : Rows) (pattern : Pattern) → lanes_fill_cycle set pattern ≡ true → list_all (λ lane. eqb (length lane) pattern.cycle) (lanes set pattern) ≡ true
lanes_filled set pattern fill = fill_of_rings set pattern (used_rings set) ∙ fill_by_rings set pattern (used_rings set) refl ∙ fill

pub agree_by_starts : (set : Rows) (pattern : Pattern) (rings : List ℕ) → rings ≡ used_rings set → lanes_fill_cycle set pattern ≡ true → agree_at_starts set pattern rings rings ≡ lanes_agree set pattern
agree_by_starts set pattern rings e fill =
    ap (λ (xs : List ℕ). agree_at_starts set pattern xs xs) e ∙ sym (agree_of_rings set pattern (used_rings set) (lanes_filled set pattern fill))

-- the phases of the rings at a second of the cycle
pub agree_in_lanes : (set : Rows) (pattern : Pattern) (t : ℕ) → lanes_fill_cycle set pattern ≡ true → t < pattern.cycle → agree_at set pattern (used_rings set) t ≡ all_list_each_other set (phases_at (lanes set pattern) t)
agree_in_lanes set pattern t fill lt =
    let rows : List (List ℕ) = map (ring_row set pattern.seq) (used_rings set) in
    let same : map (row_seconds (times set pattern.split)) rows ≡ lanes set pattern = lanes_of_rows set pattern.seq pattern.split (used_rings set) in
    let full : list_all (λ lane. eqb (length lane) pattern.cycle) (map (row_seconds (times set pattern.split)) rows) ≡ true = ap (λ (xs : List (List ℕ)). list_all (λ lane. eqb (length lane) pattern.cycle) xs) same ∙ lanes_filled set pattern fill in
    ap (all_list_each_other set) (phases_in_lanes (times set pattern.split) rows pattern.cycle t full lt ∙ ap (λ (xs : List (List ℕ)). phases_at xs t) same)

-- fewer rings have fewer entries
pub entries_of_some : (set : Rows) (seq : ℕ) (P : ℕ → Bool) (rings : List ℕ) → entries_of set seq (filter P rings) ≤ entries_of set seq rings
entries_of_some set seq P [] = omega arith
entries_of_some set seq P (ring ∷ rings) = by_test (P ring) (entries_of_some set seq P rings) where
  by_test : (b : Bool) → entries_of set seq (filter P rings) ≤ entries_of set seq rings → entries_of set seq (cond b (ring ∷ filter P rings) (filter P rings)) ≤ length (ring_row set seq ring) + entries_of set seq rings
  by_test true le = omega arith
  by_test false le = omega arith

pub used_entries : (set : Rows) (seq : ℕ) (rings : List ℕ) → rings ≡ used_rings set → entries_of set seq rings ≤ sequence_entries set seq
used_entries set seq rings e = rw e (entries_of_some set seq (is_used set) ring_numbers)

pub used_rises : (set : Rows) (seq : ℕ) (rings : List ℕ) (before after : ℕ) → rings ≡ used_rings set → RisesAtMost (entries_of set seq rings) before after → RisesAtMost (sequence_entries set seq) before after
used_rises set seq rings before after e h = rises_within (entries_of set seq rings) (sequence_entries set seq) before after (used_entries set seq rings e) h
