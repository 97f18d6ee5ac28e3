-- The rings of a pattern of a set without violations, by the times of their phases.
use Rattle.std.proofs.Common.{◌≡◌, ◌≢◌, ℕ, ◌+◌, ◌<◌, ◌≤◌, Bool, true, false, eqb, ltb, List, [], ◌∷◌, ◌++◌, map, length, get_or, is_some, Option, Some, None, sum_by, refl, sym, ap, ◌∙◌, arith}
use Rattle.std.proofs.lemmas.Bool.{false≢true, and_parts, eq-eqb, eqb-true}
use Rattle.std.proofs.lemmas.Bool.Decides.{nat_tests}
use Rattle.std.specs.{Int.IsInRange, List.list_all, List.flat_map}
use Rattle.signal_records.specs.declared.record.Pattern.{Pattern}
use Rattle.signal_values.specs.{declared.number.TheConstants.PHASES, declared.number.TheConstants.RINGS}
use Rattle.signal_records.specs.{declared.record.Phase.Phase, declared.record.Split.Split, TimingSet.Rows}
use Rattle.signal_values.specs.Numbers.{numbers}
use Rattle.signal_rules.specs.{Lookup.phase_at, Lookup.split_at, Lookup.phases, Lookup.has_sequence, Lookup.sequence_numbers, Lookup.split_numbers, Lookup.pattern_numbers, PatternRules.has_splits, Cases.holds, PatternRules.has_rows, PatternRules.offset_cases, PatternRules.coordination_cases, Lanes.all_list_each_other, Lanes.phases_at, PatternRules.lanes_agree, SequenceRule.in_ring}
use Rattle.signal_rules.specs.Lookup.{is_in, lists, the_mates, phase_numbers, ring_numbers, last_sequence, last_split, last_pattern}
use Rattle.signal_rules.specs.Lanes.{lane, is_used, used_rings, lanes, list_each_other}
use Rattle.signal_rules.specs.PatternRules.{lanes_fill_cycle}
use Rattle.signal_rules.specs.SequenceRule.{ring_row, place_cases, row_cases, times_in, once_cases}
use Rattle.signal_rules.proofs.{CutPoints.at_number, Among.in_numbers, Among.in_filter, Among.all_at, Among.any_at, Among.contains, Cases.holds-append, Cases.holds-flat_map, Cases.test_holds, Parts.rows_by_parts, Starts.fill_by_rings}
use Rattle.signal_plans.specs.Timing.{HasPhase, HasPattern, order, split_time, TimesIn}
use Rattle.signal_plans.specs.StreetLaws.{Lists, AreConcurrent}
use Rattle.signal_plans.proofs.Members.{all_middle, some_value, pair_at}
use Rattle.signal_plans.proofs.Places.{places, length_is, times_within, lane_at}
use Rattle.signal_plans.proofs.Clean.{IsClean, sequence_rule, split_rule, pattern_rules}
use Rattle.signal_plans.proofs.Within.{fits_phase}

-- numbers in their ranges are among those of the rules
in_range : (last n : ℕ) → IsInRange 1 last n → is_in n (numbers last 1) ≡ true
in_range last n range = in_numbers last 1 n range.0 (below n last range.1) where
  below : (k last : ℕ) → k ≤ last → k < 1 + last
  below k last le = omega arith

pub phase_number : (p : ℕ) → IsInRange 1 PHASES p → is_in p phase_numbers ≡ true
phase_number = in_range PHASES

pub ring_number : (ring : ℕ) → IsInRange 1 RINGS ring → is_in ring ring_numbers ≡ true
ring_number = in_range RINGS

sequence_number : (n : ℕ) → IsInRange 1 last_sequence n → is_in n sequence_numbers ≡ true
sequence_number = in_range last_sequence

pub split_number : (n : ℕ) → IsInRange 1 last_split n → is_in n split_numbers ≡ true
split_number = in_range last_split

pattern_number : (n : ℕ) → IsInRange 1 last_pattern n → is_in n pattern_numbers ≡ true
pattern_number = in_range last_pattern

-- a phase that is found in a ring is of that ring
pub of_ring : (ring : ℕ) (o : Option Phase) (phase : Phase) → o ≡ Some phase → in_ring ring o ≡ true → ring ≡ phase.ring
of_ring ring o phase e h = sym (eqb-true phase.ring ring (ap (in_ring ring) (sym e) ∙ h))

pub in_own_ring : (o : Option Phase) (phase : Phase) → o ≡ Some phase → in_ring phase.ring o ≡ true
in_own_ring o phase e = ap (in_ring phase.ring) e ∙ eq-eqb phase.ring phase.ring refl

listed : (set : Rows) (p q : ℕ) → lists set p q ≡ true → Lists set p q
listed set p q h = by_phase (phase_at set p) refl h where
  by_phase : (o : Option Phase) → phase_at set p ≡ o → is_in q (the_mates o) ≡ true → Lists set p q
  by_phase None e among = absurd (false≢true among)
  by_phase (Some phase) e among = (phase, e, contains phase.mates q among)

-- a phase that is in its place
in_place : (ring p : ℕ) (o : Option Phase) → holds (place_cases ring p o) ≡ true → in_ring ring o ≡ true
in_place ring p None h = absurd (false≢true h)
in_place ring p (Some phase) h = test_holds (eqb phase.ring ring) _ h

found_in : (ring : ℕ) (o : Option Phase) → in_ring ring o ≡ true → (phase : Phase) × (o ≡ Some phase)
found_in ring None h = absurd (false≢true h)
found_in ring (Some phase) h = (phase, refl)

-- what stands neither never nor twice
none_of_two : {A : Type 0} (a b : Bool) (w x : A) → holds ((a, w) ∷ (b, x) ∷ []) ≡ true → (a ≡ false) × (b ≡ false)
none_of_two false false w x h = (refl, refl)
none_of_two _ _ w x h = absurd (false≢true h)

one_time : (times : ℕ) → eqb times 0 ≡ false → ltb 1 times ≡ false → times ≡ 1
one_time times some few = grind (arith, nat_tests)

stands_once : {A : Type 0} (times : ℕ) (w x : A) → holds ((eqb times 0, w) ∷ (ltb 1 times, x) ∷ []) ≡ true → times ≡ 1
stands_once times w x h = let parts = none_of_two (eqb times 0) (ltb 1 times) w x h in one_time times parts.0 parts.1

-- a set and a pattern of it, whose rules are kept
module _ (set : Rows) (clean : IsClean set) (n : ℕ) (pattern : Pattern) (has : HasPattern set n pattern) where
  pub rules : (has_rows set pattern ≡ true) × (lanes_fill_cycle set pattern ≡ true) × (lanes_agree set pattern ≡ true) × (holds (offset_cases pattern) ≡ true) × (holds (coordination_cases set pattern) ≡ true)
  rules = pattern_rules set clean n pattern (pattern_number n has.0.number) has.1

  rows : (has_sequence set pattern.seq ≡ true) × (has_splits set pattern.split ≡ true)
  rows = and_parts (has_sequence set pattern.seq) (has_splits set pattern.split) (sym (rows_by_parts set pattern) ∙ rules.0)

  -- the two parts of V7
  in_sequence : (holds (flat_map (row_cases set pattern.seq) ring_numbers) ≡ true) × (holds (flat_map (λ p. once_cases set pattern.seq p (phase_at set p)) (phases set)) ≡ true)
  in_sequence =
      let misplaced = flat_map (row_cases set pattern.seq) ring_numbers in
      let not_once = flat_map (λ p. once_cases set pattern.seq p (phase_at set p)) (phases set) in
      and_parts (holds misplaced) (holds not_once) (sym (holds-append misplaced not_once) ∙ sequence_rule set clean pattern.seq (sequence_number pattern.seq has.0.seq) rows.0)

  -- a phase of a ring's row is of the ring
  pub owned : (ring p : ℕ) (before after : List ℕ) → IsInRange 1 RINGS ring → order set pattern ring ≡ before ++ p ∷ after → in_ring ring (phase_at set p) ≡ true
  owned ring p before after range placed =
      let row : holds (row_cases set pattern.seq ring) ≡ true = all_at (λ r. holds (row_cases set pattern.seq r)) ring_numbers ring (sym (holds-flat_map (row_cases set pattern.seq) ring_numbers) ∙ in_sequence.0) (ring_number ring range) in
      let each : list_all (λ q. holds (place_cases ring q (phase_at set q))) (before ++ p ∷ after) ≡ true =
      ap (list_all (λ q. holds (place_cases ring q (phase_at set q)))) (sym placed) ∙ sym (holds-flat_map (λ q. place_cases ring q (phase_at set q)) (ring_row set pattern.seq ring)) ∙ row in
      in_place ring p (phase_at set p) (all_middle (λ q. holds (place_cases ring q (phase_at set q))) before after p each)

  -- and stands there once
  pub once : (ring p : ℕ) → IsInRange 1 RINGS ring → IsInRange 1 PHASES p → in_ring ring (phase_at set p) ≡ true → places (order set pattern ring) p ≡ 1
  once ring p range number is =
      let phase = found_in ring (phase_at set p) is in
      let among : is_in p (phases set) ≡ true = in_filter (λ q. is_some (phase_at set q)) phase_numbers p (ap is_some phase.1) (phase_number p number) in
      let own : holds (once_cases set pattern.seq p (phase_at set p)) ≡ true = all_at (λ q. holds (once_cases set pattern.seq q (phase_at set q))) (phases set) p (sym (holds-flat_map (λ q. once_cases set pattern.seq q (phase_at set q)) (phases set)) ∙ in_sequence.1) among in
      let one : times_in (ring_row set pattern.seq (phase.0).ring) p ≡ 1 = stands_once _ _ _ (ap (λ o. holds (once_cases set pattern.seq p o)) (sym phase.1) ∙ own) in
      ap (λ r. times_in (ring_row set pattern.seq r) p) (of_ring ring (phase_at set p) phase.0 phase.1 is) ∙ one

  used : (ring p : ℕ) → IsInRange 1 RINGS ring → IsInRange 1 PHASES p → in_ring ring (phase_at set p) ≡ true → is_in ring (used_rings set) ≡ true
  used ring p range number is =
      in_filter (is_used set) ring_numbers ring (any_at (λ q. in_ring ring (phase_at set q)) phase_numbers p (phase_number p number) is) (ring_number ring range)

  -- the splits of a ring that has a phase are as long as the cycle
  pub full : (ring p : ℕ) → IsInRange 1 RINGS ring → IsInRange 1 PHASES p → in_ring ring (phase_at set p) ≡ true → sum_by (split_time set pattern) (order set pattern ring) ≡ pattern.cycle
  full ring p range number is =
      let each : list_all (λ r. eqb (length (lane set pattern.seq pattern.split r)) pattern.cycle) (used_rings set) ≡ true = fill_by_rings set pattern (used_rings set) refl ∙ rules.1 in
      let one : length (lane set pattern.seq pattern.split ring) ≡ pattern.cycle = eqb-true (length (lane set pattern.seq pattern.split ring)) pattern.cycle (all_at (λ r. eqb (length (lane set pattern.seq pattern.split r)) pattern.cycle) (used_rings set) ring each (used ring p range number is)) in
      sym (length_is (split_time set pattern) (order set pattern ring)) ∙ one

  -- what times in a ring is of the ring
  pub timing_owned : (ring p second : ℕ) → IsInRange 1 RINGS ring → TimesIn set pattern ring p second → in_ring ring (phase_at set p) ≡ true
  timing_owned ring p second range t = owned ring p t.begins.before t.begins.after range t.begins.placed

  -- phases that time in two rings list each other
  pub concurrent_in : (ring other p q second : ℕ) → ring ≢ other → IsInRange 1 RINGS ring → IsInRange 1 RINGS other → IsInRange 1 PHASES p → IsInRange 1 PHASES q → TimesIn set pattern ring p second → TimesIn set pattern other q second → AreConcurrent set p q
  concurrent_in ring other p q second apart range_of_ring range_of_other number_of_p number_of_q t u =
      let p_owned : in_ring ring (phase_at set p) ≡ true = timing_owned ring p second range_of_ring t in
      let q_owned : in_ring other (phase_at set q) ≡ true = timing_owned other q second range_of_other u in
      let lt : second < pattern.cycle = before_end _ _ _ (times_within (split_time set pattern) (order set pattern ring) p second t) (full ring p range_of_ring number_of_p p_owned) in
      let all : all_list_each_other set (phases_at (map (lane set pattern.seq pattern.split) (used_rings set)) second) ≡ true = at_number (λ s. all_list_each_other set (phases_at (lanes set pattern) s)) pattern.cycle 0 rules.2 second (omega arith) (omega arith) in
      let pair : list_each_other set (get_or (lane set pattern.seq pattern.split ring) second 0) (get_or (lane set pattern.seq pattern.split other) second 0) ≡ true = pair_at set (lane set pattern.seq pattern.split) second (used_rings set) ring other all (used ring p range_of_ring number_of_p p_owned) (used other q range_of_other number_of_q q_owned) apart in
      let at_ring : get_or (lane set pattern.seq pattern.split ring) second 0 ≡ p = lane_at (split_time set pattern) (order set pattern ring) p second t in
      let at_other : get_or (lane set pattern.seq pattern.split other) second 0 ≡ q = lane_at (split_time set pattern) (order set pattern other) q second u in
      let both : list_each_other set p q ≡ true = ap (λ k. list_each_other set k q) (sym at_ring) ∙ ap (λ k. list_each_other set (get_or (lane set pattern.seq pattern.split ring) second 0) k) (sym at_other) ∙ pair in
      let parts : (lists set p q ≡ true) × (lists set q p ≡ true) = and_parts (lists set p q) (lists set q p) both in
      (listed set p q parts.0, listed set q p parts.1) where
        before_end : (second sum cycle : ℕ) → second < sum → sum ≡ cycle → second < cycle
        before_end second sum cycle lt e = omega arith

  -- each phase has a split, which keeps its rule
  pub has_split : (p : ℕ) (phase : Phase) → HasPhase set p phase → (split : Split) × (split_at set pattern.split p ≡ Some split) × (fits_phase split phase ≡ true)
  has_split p phase of_p =
      let among : is_in p phase_numbers ≡ true = phase_number p of_p.0.number in
      let row : is_some (split_at set pattern.split p) ≡ true = all_at (λ q. is_some (split_at set pattern.split q)) (phases set) p rows.1 (in_filter (λ q. is_some (phase_at set q)) phase_numbers p (ap is_some of_p.1) among) in
      let split : (s : Split) × (split_at set pattern.split p ≡ Some s) = some_value (split_at set pattern.split p) row in
      let known : is_in pattern.split split_numbers ≡ true =
      split_number pattern.split has.0.split in
      let rule = split_rule set clean pattern.split p split.0 phase known among split.1 of_p.1 in
      (split.0, split.1, rule)
