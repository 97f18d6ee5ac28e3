-- A pattern that runs cycle after cycle: what is served in each, and what comes after what.
use Rattle.std.proofs.Common.{◌≡◌, ◌≢◌, ◌↔◌, ℕ, ◌+◌, ◌*◌, ◌<◌, ◌≤◌, Bool, true, false, eqb, leb, ltb, List, [], ◌∷◌, is_some, Option, Some, None, ◌⊎◌, inl, inr, refl, sym, ap, subst, ◌∙◌, arith}
use Rattle.std.proofs.Math.Nat.{add-mul, mul-le-mul_right}
use Rattle.std.proofs.lemmas.Bool.{false≢true, and_parts, or_cases, eq-eqb, leb-true, ltb-true, cases_lt}
use Rattle.std.specs.{Prelude.◌||◌, Int.IsInRange, List.list_any}
use Rattle.signal_values.specs.declared.number.TheConstants.{PHASES, RINGS}
use Rattle.signal_records.specs.{declared.record.Pattern.Pattern, declared.record.Phase.Phase, declared.record.Split.Split, TimingSet.Rows}
use Rattle.signal_records.specs.declared.record.SplitMode.TheVariants.{PhaseOmitted}
use Rattle.signal_rules.specs.{Lookup.phase_at, Lookup.split_at, Lookup.phases, Lookup.is_in, Lookup.phase_numbers, PatternRules.is_coordinated, SequenceRule.in_ring}
use Rattle.signal_rules.specs.PatternRules.{offset_is_right, has_coordinated}
use Rattle.signal_rules.proofs.{Among.is_number, Among.is_filtered, Cases.test_holds}
use Rattle.signal_plans.specs.Timing.{HasPhase, HasPattern, order, split_time, BeginsIn, TimesIn, IsTiming, IsServed}
use Rattle.signal_plans.specs.StreetLaws.{TimesOnce, IsServedUnlessOmitted, OnlyPhasesOfTheSetTime, IsCoordinated, ConflictsAreCleared, BarriersAreCrossedTogether}
use Rattle.signal_plans.proofs.Clean.{IsClean, split_rule}
use Rattle.signal_plans.proofs.Members.{some_value}
use Rattle.signal_plans.proofs.Patterns.{of_ring, timing_owned, full, rules, split_number, phase_number}
use Rattle.signal_plans.proofs.Places.{begin_at, times_within, filled_at, alone_at}
use Rattle.signal_plans.proofs.Stretches.{concurrent, stretch, begins_there, ends_in_cycle, cleared_in_cycle}
use Rattle.signal_plans.proofs.Within.{fits_phase, coordinated_times}

-- a cycle that comes after another begins when all of that one is over
later_cycle : (j k cycle : ℕ) → j < k → j * cycle + cycle ≤ k * cycle
later_cycle j k cycle lt = whole (j * cycle) cycle ((j + 1) * cycle) (k * cycle) (add-mul j 1 cycle) (mul-le-mul_right cycle (one_more j k lt)) where
  one_more : (j k : ℕ) → j < k → j + 1 ≤ k
  one_more j k lt = omega arith

  whole : (before cycle sum most : ℕ) → sum ≡ before + 1 * cycle → sum ≤ most → before + cycle ≤ most
  whole before cycle sum most e le = omega arith

-- the same cycle, or one before the other
in_turn : (j k : ℕ) → (j ≡ k) ⊎ ((j < k) ⊎ (k < j))
in_turn j k = by_order (cases_lt j k) (cases_lt k j) where
  by_order : (j < k) ⊎ (k ≤ j) → (k < j) ⊎ (j ≤ k) → (j ≡ k) ⊎ ((j < k) ⊎ (k < j))
  by_order (inl before) other = inr (inl before)
  by_order (inr le) (inl behind) = inr (inr behind)
  by_order (inr le) (inr ge) = inl (omega arith)

some_phase : (ring : ℕ) (o : Option Phase) → in_ring ring o ≡ true → (phase : Phase) × (o ≡ Some phase) × (phase.ring ≡ ring)
some_phase ring None is = absurd (false≢true is)
some_phase ring (Some phase) is = (phase, refl, sym (of_ring ring (Some phase) phase refl is))

some_split : (o : Option Split) → is_coordinated o ≡ true → (split : Split) × (o ≡ Some split) × (split.coord ≡ true)
some_split None is = absurd (false≢true is)
some_split (Some split) is = (split, refl, is)

or_later : (a b : Bool) → b ≡ true → (a || b) ≡ true
or_later true b is = refl
or_later false b is = is

-- a member that passes a test which some member passes
found : (T : ℕ → Bool) (ns : List ℕ) → list_any T ns ≡ true → (p : ℕ) × (is_in p ns ≡ true) × (T p ≡ true)
found T [] some = absurd (false≢true some)
found T (n ∷ ns) some = by_place (or_cases (T n) (list_any T ns) some) (found T ns) where
  by_place : (T n ≡ true) ⊎ (list_any T ns ≡ true) → (list_any T ns ≡ true → (p : ℕ) × (is_in p ns ≡ true) × (T p ≡ true)) → (p : ℕ) × (is_in p (n ∷ ns) ≡ true) × (T p ≡ true)
  by_place (inl here) later = (n, ap (λ b. b || is_in n ns) (eq-eqb n n refl), here)
  by_place (inr there) later = let rest = later there in (rest.0, or_later (eqb n rest.0) (is_in rest.0 ns) rest.1, rest.2)

-- a phase that is among those of the set
among_phases : (set : Rows) (p : ℕ) → is_in p (phases set) ≡ true → IsInRange 1 PHASES p × (is_some (phase_at set p) ≡ true)
among_phases set p among =
    let parts : (is_some (phase_at set p) ≡ true) × (is_in p phase_numbers ≡ true) = and_parts (is_some (phase_at set p)) (is_in p phase_numbers) (sym (is_filtered (λ q. is_some (phase_at set q)) phase_numbers p) ∙ among) in
    let bounds : (leb 1 p ≡ true) × (ltb p (1 + PHASES) ≡ true) = and_parts (leb 1 p) (ltb p (1 + PHASES)) (sym (is_number PHASES 1 p) ∙ parts.1) in
    ((leb-true 1 p bounds.0, within p PHASES (ltb-true p (1 + PHASES) bounds.1)), parts.0) where
      within : (p last : ℕ) → p < 1 + last → p ≤ last
      within p last lt = omega arith

module _ (set : Rows) (clean : IsClean set) (n : ℕ) (pattern : Pattern) (has : HasPattern set n pattern) where
  pub known : OnlyPhasesOfTheSetTime set pattern
  known ring p second range t = some_phase ring (phase_at set p) (timing_owned set clean n pattern has ring p second range t)

  pub served : (p : ℕ) (phase : Phase) → HasPhase set p phase → IsServedUnlessOmitted set pattern p phase
  served p phase of_p split row = (by_omitted, by_time (cases_lt 0 split.time)) where
    own : TimesOnce set pattern p phase
    own = stretch set clean n pattern has p phase of_p

    same : own.split ≡ split
    same = let both : Some own.split ≡ Some split = sym own.row ∙ row in cc

    none : (split.time ≡ 0) ↔ (split.mode ≡ PhaseOmitted)
    none = subst (λ (s : Split). (s.time ≡ 0) ↔ (s.mode ≡ PhaseOmitted)) same own.omitted

    times : (second : ℕ) → IsTiming set pattern p second ↔ ((own.begin ≤ second) × (second < own.begin + split.time))
    times = subst (λ (s : Split). (second : ℕ) → IsTiming set pattern p second ↔ ((own.begin ≤ second) × (second < own.begin + s.time))) same own.times

    by_omitted : IsServed set pattern p → split.mode ≢ PhaseOmitted
    by_omitted there omitted = never _ _ _ (none.1 omitted) ((times there.0).0 there.1).0 ((times there.0).0 there.1).1 where
      never : (begin second time : ℕ) → time ≡ 0 → begin ≤ second → second < begin + time → ⊥
      never begin second time e le lt = omega arith

    by_time : (0 < split.time) ⊎ (split.time ≤ 0) → split.mode ≢ PhaseOmitted → IsServed set pattern p
    by_time (inl time) some = (own.begin, (times own.begin).1 (least own.begin, first own.begin split.time time)) where
      least : (begin : ℕ) → begin ≤ begin
      least begin = omega arith

      first : (begin time : ℕ) → 0 < time → begin < begin + time
      first begin time lt = omega arith
    by_time (inr zero) some = absurd (some (none.0 (is_zero split.time zero))) where
      is_zero : (time : ℕ) → time ≤ 0 → time ≡ 0
      is_zero time le = omega arith

  pub coordinated : IsCoordinated set pattern
  coordinated =
      let marked = found (λ p. is_coordinated (split_at set pattern.split p)) (phases set) (test_holds (has_coordinated set pattern.split) _ (rules set clean n pattern has).4) in
      let here : IsInRange 1 PHASES marked.0 × (is_some (phase_at set marked.0) ≡ true) = among_phases set marked.0 marked.1 in
      let phase : (phase : Phase) × (phase_at set marked.0 ≡ Some phase) = some_value (phase_at set marked.0) here.1 in
      let split : (split : Split) × (split_at set pattern.split marked.0 ≡ Some split) × (split.coord ≡ true) = some_split (split_at set pattern.split marked.0) marked.2 in
      let right : fits_phase split.0 phase.0 ≡ true = split_rule set clean pattern.split marked.0 split.0 phase.0 (split_number pattern.split has.0.split) (phase_number marked.0 here.0) split.1 phase.1 in
      record {
        offset = ltb-true pattern.offset pattern.cycle (test_holds (offset_is_right pattern) _ (rules set clean n pattern has).3);
        p = marked.0;
        phase = phase.0;
        split = split.0;
        number = here.0;
        in_set = phase.1;
        row = split.1;
        marked = split.2;
        served = λ of_p. (served marked.0 phase.0 of_p split.0 split.1).1 (coordinated_times split.0 phase.0 right split.2);
      }

  in_cycle : (ring p second : ℕ) → IsInRange 1 RINGS ring → IsInRange 1 PHASES p → TimesIn set pattern ring p second → second < pattern.cycle
  in_cycle ring p second range number t =
      before_end _ _ _ (times_within (split_time set pattern) (order set pattern ring) p second t) (full set clean n pattern has ring p range number (timing_owned set clean n pattern has ring p second range t)) where
        before_end : (second sum cycle : ℕ) → second < sum → sum ≡ cycle → second < cycle
        before_end second sum cycle lt e = omega arith

  module _ (p : ℕ) (phase : Phase) (of_p : HasPhase set p phase) where
    pub conflicts_cleared : ConflictsAreCleared set pattern p phase
    conflicts_cleared split begin q second row begins apart conflict t after = by_turn (in_turn begins.cycles t.cycles) where
      start : (phase.ring ≡ phase.ring) × (begins.in_cycle ≡ begin_at (split_time set pattern) (order set pattern phase.ring) p)
      start = begins_there set clean n pattern has p phase of_p phase.ring begins.in_cycle of_p.0.ring begins.so

      inside : t.in_cycle < pattern.cycle
      inside = in_cycle t.so.ring q t.in_cycle t.so.ring_number t.so.number t.so.times

      by_turn : (begins.cycles ≡ t.cycles) ⊎ ((begins.cycles < t.cycles) ⊎ (t.cycles < begins.cycles)) → begin + split.time ≤ second
      by_turn (inl same) =
          let one : begins.cycles * pattern.cycle ≡ t.cycles * pattern.cycle = ap (λ k. k * pattern.cycle) same in
          shifted _ _ _ _ _ _ _ begins.counted t.counted one
          (cleared_in_cycle set clean n pattern has p phase of_p split begins.in_cycle q t.in_cycle row begins.so apart conflict t.so (within _ _ _ _ _ _ begins.counted t.counted one after)) where
            within : (begin second a b whole other : ℕ) → begin ≡ whole + a → second ≡ other + b → whole ≡ other → begin ≤ second → a ≤ b
            within begin second a b whole other e f g le = omega arith

            shifted : (begin second a b whole other time : ℕ) → begin ≡ whole + a → second ≡ other + b → whole ≡ other → a + time ≤ b → begin + time ≤ second
            shifted begin second a b whole other time e f g le = omega arith
      by_turn (inr (inl before)) =
          over _ _ _ _ _ _ _ _ _ begins.counted t.counted start.1 (ends_in_cycle set clean n pattern has p phase of_p split row) (later_cycle begins.cycles t.cycles pattern.cycle before) where
            over : (begin second a b at time cycle whole other : ℕ) → begin ≡ whole + a → second ≡ other + b → a ≡ at → at + time ≤ cycle → whole + cycle ≤ other → begin + time ≤ second
            over begin second a b at time cycle whole other e f g h le = omega arith
      by_turn (inr (inr behind)) = absurd (never _ _ _ _ _ _ _ begins.counted t.counted inside after (later_cycle t.cycles begins.cycles pattern.cycle behind)) where
        never : (begin second a b cycle whole other : ℕ) → begin ≡ whole + a → second ≡ other + b → b < cycle → begin ≤ second → other + cycle ≤ whole → ⊥
        never begin second a b cycle whole other e f g h le = omega arith

    pub barriers_crossed : BarriersAreCrossedTogether set pattern p phase
    barriers_crossed ring q second range number starts apart conflict t =
        (there.0, record { cycles = starts.cycles; in_cycle = starts.in_cycle; counted = starts.counted; so = (subst (λ s. BeginsIn set pattern ring there.0 s) (by_turn (in_turn starts.cycles t.cycles)) there.1.begins, there.1) }) where
          inside : starts.in_cycle < pattern.cycle
          inside = in_cycle phase.ring p starts.in_cycle of_p.0.ring of_p.0.number starts.so.1

          inside_before : t.in_cycle < pattern.cycle
          inside_before = in_cycle ring q t.in_cycle range number t.so

          -- what the ring times at that second
          there : (next : ℕ) × TimesIn set pattern ring next starts.in_cycle
          there = filled_at (split_time set pattern) (order set pattern ring) starts.in_cycle (in_sum _ _ _ (full set clean n pattern has ring q range number (timing_owned set clean n pattern has ring q t.in_cycle range t.so)) inside) where
            in_sum : (second sum cycle : ℕ) → sum ≡ cycle → second < cycle → second < sum
            in_sum second sum cycle e lt = omega arith

          -- within a cycle it is another phase than the second before
          not_before : starts.in_cycle ≡ 1 + t.in_cycle → there.1.begin < starts.in_cycle → ⊥
          not_before after lt =
              let still : TimesIn set pattern ring there.0 t.in_cycle = record { begin = there.1.begin; begins = there.1.begins; begun = had_begun _ _ _ after lt; unended = not_ended _ _ _ after there.1.unended } in
              let same : there.0 ≡ q = alone_at (split_time set pattern) (order set pattern ring) there.0 q t.in_cycle still t.so in
              let other : TimesIn set pattern ring q starts.in_cycle = subst (λ r. TimesIn set pattern ring r starts.in_cycle) same there.1 in
              let p_times : IsTiming set pattern p starts.in_cycle = record { number = of_p.0.number; ring = phase.ring; ring_number = of_p.0.ring; times = starts.so.1 } in
              let q_times : IsTiming set pattern q starts.in_cycle = record { number = number; ring = ring; ring_number = range; times = other } in
              conflict (concurrent set clean n pattern has p q starts.in_cycle apart p_times q_times) where
                had_begun : (at before begin : ℕ) → at ≡ 1 + before → begin < at → begin ≤ before
                had_begun at before begin e lt = omega arith

                not_ended : (at before end : ℕ) → at ≡ 1 + before → at < end → before < end
                not_ended at before end e lt = omega arith

          by_turn : (starts.cycles ≡ t.cycles) ⊎ ((starts.cycles < t.cycles) ⊎ (t.cycles < starts.cycles)) → there.1.begin ≡ starts.in_cycle
          by_turn (inl same) = by_place (cases_lt there.1.begin starts.in_cycle) where
            after : starts.in_cycle ≡ 1 + t.in_cycle
            after = next_second _ _ _ _ _ starts.counted t.counted (ap (λ k. k * pattern.cycle) same) where
              next_second : (second a b whole other : ℕ) → 1 + second ≡ whole + a → second ≡ other + b → whole ≡ other → a ≡ 1 + b
              next_second second a b whole other e f g = omega arith

            by_place : (there.1.begin < starts.in_cycle) ⊎ (starts.in_cycle ≤ there.1.begin) → there.1.begin ≡ starts.in_cycle
            by_place (inl lt) = absurd (not_before after lt)
            by_place (inr le) = both _ _ there.1.begun le where
              both : (a b : ℕ) → a ≤ b → b ≤ a → a ≡ b
              both a b le ge = omega arith
          by_turn (inr (inl before)) = absurd (never _ _ _ _ _ _ starts.counted t.counted inside (later_cycle starts.cycles t.cycles pattern.cycle before)) where
            never : (second a b cycle whole other : ℕ) → 1 + second ≡ whole + a → second ≡ other + b → a < cycle → whole + cycle ≤ other → ⊥
            never second a b cycle whole other e f g le = omega arith
          by_turn (inr (inr behind)) = first _ _ _ _ _ _ _ starts.counted t.counted inside_before there.1.begun (later_cycle t.cycles starts.cycles pattern.cycle behind) where
            first : (second a b begin cycle whole other : ℕ) → 1 + second ≡ whole + a → second ≡ other + b → b < cycle → begin ≤ a → other + cycle ≤ whole → begin ≡ a
            first second a b begin cycle whole other e f g h le = omega arith
