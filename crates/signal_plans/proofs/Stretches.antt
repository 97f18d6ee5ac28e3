-- When a phase of a set without violations times in a cycle, and which phases time with it.
use Rattle.std.proofs.Common.{◌≡◌, ◌≢◌, ◌↔◌, ℕ, ◌+◌, ◌*◌, ◌<◌, ◌≤◌, max, true, Some, ◌⊎◌, inl, inr, refl, sym, ap, subst, ◌∙◌, arith}
use Rattle.std.proofs.lemmas.Bool.{cases_eq, cases_lt}
use Rattle.std.specs.Int.{IsInRange}
use Rattle.signal_records.specs.{declared.record.Pattern.Pattern, declared.record.Ped.Ped, declared.record.Phase.Phase, declared.record.Split.Split, declared.record.SplitMode.SplitMode, TimingSet.Rows}
use Rattle.signal_values.specs.declared.number.TheConstants.{RINGS}
use Rattle.signal_rules.specs.{Lanes.time_of, Lookup.phase_at, Lookup.split_at}
use Rattle.signal_plans.specs.Timing.{HasPhase, HasPattern, order, split_time, BeginsIn, TimesIn, IsTiming}
use Rattle.signal_plans.specs.Intervals.{CallsPedestrian, HasRoom, clear_end}
use Rattle.signal_plans.specs.StreetLaws.{AreConcurrent, OnlyConcurrentPhasesTime, TimesOnce, FillsCycle, WalkLiesWithin, WalkersHaveTheStreet}
use Rattle.signal_plans.proofs.Clean.{IsClean, phase_rules}
use Rattle.signal_plans.proofs.Places.{places, begin_at, ends_within, times_within, alone_at, filled_at, begins_once, has_place, ordered_at}
use Rattle.signal_plans.proofs.Within.{fits_phase, none_where_omitted, room, called_room, crosses, within_split}
use Rattle.signal_plans.proofs.Patterns.{phase_number, of_ring, in_own_ring, owned, once, full, timing_owned, concurrent_in, has_split}

module _ (set : Rows) (clean : IsClean set) (n : ℕ) (pattern : Pattern) (has : HasPattern set n pattern) where
  pub concurrent : OnlyConcurrentPhasesTime set pattern
  concurrent p q second apart t u = by_rings (cases_eq t.ring u.ring) where
    by_rings : (t.ring ≡ u.ring) ⊎ (t.ring ≡ u.ring → ⊥) → AreConcurrent set p q
    by_rings (inl e) = absurd (apart (alone_at (split_time set pattern) (order set pattern t.ring) p q second t.times (subst (λ ring. TimesIn set pattern ring q second) (sym e) u.times)))
    by_rings (inr differ) = concurrent_in set clean n pattern has t.ring u.ring p q second differ t.ring_number u.ring_number t.number u.number t.times u.times

  -- the stretch of a phase
  module _ (p : ℕ) (phase : Phase) (of_p : HasPhase set p phase) where
    own_once : places (order set pattern phase.ring) p ≡ 1
    own_once = once set clean n pattern has phase.ring p of_p.0.ring of_p.0.number (in_own_ring (phase_at set p) phase of_p.1)

    pub own_place : BeginsIn set pattern phase.ring p (begin_at (split_time set pattern) (order set pattern phase.ring) p)
    own_place = has_place (split_time set pattern) (order set pattern phase.ring) p own_once

    pub begins_there : (ring second : ℕ) → IsInRange 1 RINGS ring → BeginsIn set pattern ring p second → (ring ≡ phase.ring) × (second ≡ begin_at (split_time set pattern) (order set pattern phase.ring) p)
    begins_there ring second range b =
        let own : ring ≡ phase.ring = of_ring ring (phase_at set p) phase of_p.1 (owned set clean n pattern has ring p b.before b.after range b.placed) in
        (own, begins_once (split_time set pattern) (order set pattern phase.ring) p second own_once (subst (λ r. BeginsIn set pattern r p second) own b))

    begins_only_there : (ring second : ℕ) → IsInRange 1 RINGS ring → BeginsIn set pattern ring p second ↔ ((ring ≡ phase.ring) × (second ≡ begin_at (split_time set pattern) (order set pattern phase.ring) p))
    begins_only_there ring second range = (
      begins_there ring second range,
      λ there. subst (λ r. BeginsIn set pattern r p second) (sym there.0) (subst (λ s. BeginsIn set pattern phase.ring p s) (sym there.1) own_place),
    )

    pub times_there : (split : Split) → split_at set pattern.split p ≡ Some split → (second : ℕ) → IsTiming set pattern p second ↔ ((begin_at (split_time set pattern) (order set pattern phase.ring) p ≤ second) × (second < begin_at (split_time set pattern) (order set pattern phase.ring) p + split.time))
    times_there split row second = (
      (λ (t : IsTiming set pattern p second).
          let there = begins_there t.ring t.times.begin t.ring_number t.times.begins in
          (low _ _ _ there.1 t.times.begun, high _ _ _ _ _ there.1 time t.times.unended)),
      λ bounds. record {
        number = of_p.0.number;
        ring = phase.ring;
        ring_number = of_p.0.ring;
        times = record { begin = begin_at (split_time set pattern) (order set pattern phase.ring) p; begins = own_place; begun = bounds.0; unended = high _ _ _ _ _ refl (sym time) bounds.1 };
      },
    ) where
      time : split_time set pattern p ≡ split.time
      time = ap time_of row

      low : (a b second : ℕ) → a ≡ b → a ≤ second → b ≤ second
      low a b second e le = omega arith

      high : (a b second own time : ℕ) → a ≡ b → own ≡ time → second < a + own → second < b + time
      high a b second own time e f lt = omega arith

    pub ends_in_cycle : (split : Split) → split_at set pattern.split p ≡ Some split → begin_at (split_time set pattern) (order set pattern phase.ring) p + split.time ≤ pattern.cycle
    ends_in_cycle split row =
        bound _ _ _ _ _ (ends_within (split_time set pattern) (order set pattern phase.ring) p (begin_at (split_time set pattern) (order set pattern phase.ring) p) own_place)
        (ap time_of row) (full set clean n pattern has phase.ring p of_p.0.ring of_p.0.number (in_own_ring (phase_at set p) phase of_p.1)) where
          bound : (begin own sum time cycle : ℕ) → begin + own ≤ sum → own ≡ time → sum ≡ cycle → begin + time ≤ cycle
          bound begin own sum time cycle le e f = omega arith

    pub stretch : TimesOnce set pattern p phase
    stretch =
        let split = has_split set clean n pattern has p phase of_p in
        record {
          split = split.0;
          row = split.1;
          begin = begin_at (split_time set pattern) (order set pattern phase.ring) p;
          begins = begins_only_there;
          times = times_there split.0 split.1;
          within = ends_in_cycle split.0 split.1;
          omitted = none_where_omitted split.0 phase split.2;
          fits = room split.0 phase split.2;
        }

    pub ring_filled : FillsCycle set pattern phase.ring
    ring_filled =
        let sum = full set clean n pattern has phase.ring p of_p.0.ring of_p.0.number (in_own_ring (phase_at set p) phase of_p.1) in
        record {
          filled = λ second lt. filled_at (split_time set pattern) (order set pattern phase.ring) second (in_sum _ _ _ sum lt);
          within = λ q second t. in_cycle _ _ _ sum (times_within (split_time set pattern) (order set pattern phase.ring) q second t);
          alone = λ q r second t u. alone_at (split_time set pattern) (order set pattern phase.ring) q r second t u;
          ordered = λ q r s t number_of_q number_of_r stands of_q of_r.
              ordered_at (split_time set pattern) (order set pattern phase.ring) q r s t
              (once set clean n pattern has phase.ring q of_p.0.ring number_of_q (timing_owned set clean n pattern has phase.ring q s of_p.0.ring of_q))
              (once set clean n pattern has phase.ring r of_p.0.ring number_of_r (timing_owned set clean n pattern has phase.ring r t of_p.0.ring of_r))
              stands of_q of_r;
        } where
          in_sum : (second sum cycle : ℕ) → sum ≡ cycle → second < cycle → second < sum
          in_sum second sum cycle e lt = omega arith

          in_cycle : (second sum cycle : ℕ) → sum ≡ cycle → second < sum → second < cycle
          in_cycle second sum cycle e lt = omega arith

    -- within one cycle
    pub cleared_in_cycle : (split : Split) (begin q second : ℕ) → split_at set pattern.split p ≡ Some split → BeginsIn set pattern phase.ring p begin
        → p ≢ q → ¬ AreConcurrent set p q → IsTiming set pattern q second → begin ≤ second → begin + split.time ≤ second
    cleared_in_cycle split begin q second row begins apart conflict t after = by_place (cases_lt second (begin + split.time)) where
      start : (phase.ring ≡ phase.ring) × (begin ≡ begin_at (split_time set pattern) (order set pattern phase.ring) p)
      start = begins_there phase.ring begin of_p.0.ring begins

      shifted : (begin at second time : ℕ) → begin ≡ at → begin ≤ second → second < begin + time → (at ≤ second) × (second < at + time)
      shifted begin at second time e le lt = (omega arith, omega arith)

      by_place : (second < begin + split.time) ⊎ (begin + split.time ≤ second) → begin + split.time ≤ second
      by_place (inl lt) = absurd (conflict (concurrent p q second apart ((times_there split row second).1 (shifted begin _ second split.time start.1 after lt)) t))
      by_place (inr le) = le

    -- the split of the phase, which keeps its rule
    pub right_split : (split : Split) → split_at set pattern.split p ≡ Some split → fits_phase split phase ≡ true
    right_split split row =
        let own = has_split set clean n pattern has p phase of_p in
        let same : Some own.0 ≡ Some split = sym own.1 ∙ row in
        let one : own.0 ≡ split = cc in
        subst (λ s. fits_phase s phase ≡ true) one own.2

    pub room_called : (ped : Ped) → phase.ped ≡ Some ped → (split : Split) → split_at set pattern.split p ≡ Some split → CallsPedestrian split.mode → HasRoom phase split ped
    room_called ped is split row calls = called_room phase split ped is (right_split split row) calls

    -- splits of some modes that have room for the crossing
    module _ (IsOfModes : SplitMode → Type 0) (ped : Ped) (is : phase.ped ≡ Some ped) (has_room : (split : Split) → split_at set pattern.split p ≡ Some split → IsOfModes split.mode → HasRoom phase split ped) where
      pub walk_within : WalkLiesWithin IsOfModes set pattern p phase ped
      walk_within split begin second row of_mode begins after before =
          let fits = has_room split row of_mode in
          let start = begins_there phase.ring begin of_p.0.ring begins in
          (times_there split row second).1 (from_begin _ _ _ start.1 after, to_end _ _ _ _ _ _ _ _ _ start.1 fits.crossing.walk_and_clearance fits.crossing.lead_and_green fits.cleared before) where
            from_begin : (begin at second : ℕ) → begin ≡ at → begin ≤ second → at ≤ second
            from_begin begin at second e le = omega arith

            to_end : (begin at second walk lead green yellow red time : ℕ) → begin ≡ at → 10 * walk ≤ green → 10 * lead ≤ green → green + yellow + red ≡ 10 * time → second < begin + max walk lead → second < at + time
            to_end begin at second walk lead green yellow red time e f g h i = omega arith

      pub walkers : WalkersHaveTheStreet IsOfModes set pattern p phase ped
      walkers split begin left now second row of_mode begins by crossing lies =
          let rules = phase_rules set clean p phase (phase_number p of_p.0.number) of_p.1 in
          let in_time : now < clear_end phase ped = crosses phase ped is rules.0 left now by crossing in
          let before_end : now < 10 * split.time = within_split phase ped split now (has_room split row of_mode) in_time in
          let start = begins_there phase.ring begin of_p.0.ring begins in
          let timing : IsTiming set pattern p second = (times_there split row second).1 (from_begin _ _ _ _ start.1 lies.1, to_end _ _ _ _ _ start.1 before_end lies.0) in
          record { times = timing; others = λ q apart t. concurrent p q second apart timing t } where
            from_begin : (begin at now second : ℕ) → begin ≡ at → 10 * begin + now < 10 * second + 10 → at ≤ second
            from_begin begin at now second e lt = omega arith

            to_end : (begin at now second time : ℕ) → begin ≡ at → now < 10 * time → 10 * second ≤ 10 * begin + now → second < at + time
            to_end begin at now second time e lt le = omega arith
