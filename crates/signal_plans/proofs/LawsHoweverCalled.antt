-- A timing set without violations and without warnings keeps the laws however its walks are called.
use Rattle.std.proofs.Common.{◌≡◌, ℕ, ◌+◌, ◌*◌, ◌<◌, ◌≤◌, true, false, not, ◌&&◌, eqb, ltb, [], Option, Some, None, is_some, refl, sym, ap, subst, ◌∙◌, arith}
use Rattle.std.proofs.lemmas.Bool.{ltb-false}
use Rattle.std.proofs.lemmas.Bool.Decides.{nat_tests}
use Rattle.signal_records.specs.declared.record.Pattern.{Pattern}
use Rattle.signal_records.specs.declared.record.Ped.{Ped}
use Rattle.signal_records.specs.declared.record.Phase.{Phase}
use Rattle.signal_records.specs.declared.record.Split.{Split}
use Rattle.signal_records.specs.declared.record.SplitMode.{SplitMode}
use Rattle.signal_records.specs.declared.record.SplitMode.TheVariants.{NoRecall, MinimumVehicleRecall, MaximumVehicleRecall, PedestrianRecall, MaximumVehicleAndPedestrianRecall, PhaseOmitted}
use Rattle.signal_records.specs.Need.{lead_time, need_of}
use Rattle.signal_records.specs.TimingSet.{Rows}
use Rattle.signal_rules.specs.SplitRule.{is_omitted}
use Rattle.signal_rules.specs.declared.violation.Subject.TheVariants as subject
use Rattle.signal_rules.specs.Violations.{violations_of}
use Rattle.signal_plans.specs.Timing.{HasPhase, HasPattern}
use Rattle.signal_plans.specs.Intervals.{HasRoom, FitsSplit}
use Rattle.signal_plans.specs.StreetLaws.{WalkLiesWithin, WalkersHaveTheStreet}
use Rattle.signal_plans.specs.HoweverCalled.{ServesPhase, CrossingHasRoom, HasGreen, CoordinatedHasGreen, LawsHoweverCalled}
use Rattle.signal_plans.proofs.Clean.{IsClean, is_clean}
use Rattle.signal_plans.proofs.Laws.{where_some}
use Rattle.signal_plans.proofs.Patterns.{phase_number, split_number}
use Rattle.signal_plans.proofs.Stretches.{right_split, walk_within, walkers}
use Rattle.signal_plans.proofs.Within.{fits_phase, enough, room, room_for, coordinated_times}
use Rattle.signal_plans.specs.declared.warning.Scope.TheVariants as scope
use Rattle.signal_plans.specs.PhaseWarnings.{crossing_warnings}
use Rattle.signal_plans.specs.SplitWarnings.{recalls_walk}
use Rattle.signal_plans.specs.Warnings.{told_cases, warnings_of}
use Rattle.signal_plans.proofs.Quiet.{IsQuiet, is_quiet, phase_quiet, measured, button_quiet}

-- a split fits however its walk is called, where its mode calls it or a button does
fits_called : (phase : Phase) (ped : Ped) (split : Split) → phase.ped ≡ Some ped → fits_phase split phase ≡ true → (is_some phase.ped && not (recalls_walk split.mode) && not (is_omitted split.mode) && ltb (10 * split.time) (need_of phase PedestrianRecall)) ≡ false → ServesPhase split.mode → need_of phase PedestrianRecall ≤ 10 * split.time
fits_called phase ped split is right quiet serves = by_mode split.mode (enough split phase right serves) (ap (λ o. is_some o && not (recalls_walk split.mode) && not (is_omitted split.mode) && ltb (10 * split.time) (need_of phase PedestrianRecall)) (sym is) ∙ quiet) serves where
  by_mode : (mode : SplitMode) → need_of phase mode ≤ 10 * split.time → (is_some (Some ped) && not (recalls_walk mode) && not (is_omitted mode) && ltb (10 * split.time) (need_of phase PedestrianRecall)) ≡ false → ServesPhase mode → need_of phase PedestrianRecall ≤ 10 * split.time
  by_mode NoRecall fits quiet serves = ltb-false (10 * split.time) (need_of phase PedestrianRecall) quiet
  by_mode MinimumVehicleRecall fits quiet serves = ltb-false (10 * split.time) (need_of phase PedestrianRecall) quiet
  by_mode MaximumVehicleRecall fits quiet serves = ltb-false (10 * split.time) (need_of phase PedestrianRecall) quiet
  by_mode PedestrianRecall fits quiet serves = fits
  by_mode MaximumVehicleAndPedestrianRecall fits quiet serves = fits
  by_mode PhaseOmitted fits quiet serves = absurd (serves refl)

one_or_more : (n : ℕ) → eqb n 0 ≡ false → 0 < n
one_or_more n some = grind (arith, nat_tests)

-- green of a phase that has no lead, and of one that has
green_alone : (green end : ℕ) → 0 < green → 10 * green ≤ end → 10 * (0 + 1) ≤ end
green_alone green end some fits = omega arith

green_after : (lead green end : ℕ) → 0 < green → 10 * (lead + green) ≤ end → 10 * (lead + 1) ≤ end
green_after lead green end some fits = omega arith

module _ (set : Rows) (clean : IsClean set) (quiet : IsQuiet set) where
  is_measured : (p : ℕ) (phase : Phase) → HasPhase set p phase → (ped : Ped) → phase.ped ≡ Some ped → 0 < ped.width
  is_measured p phase of_p ped is =
      let s = scope.Subject (subject.Phase p) in
      one_or_more ped.width (measured s ped (ap (λ o. told_cases s (crossing_warnings o)) (sym is) ∙ (phase_quiet set quiet p phase (phase_number p of_p.0.number) of_p.1).1))

  module _ (n : ℕ) (pattern : Pattern) (has : HasPattern set n pattern) (p : ℕ) (phase : Phase) (of_p : HasPhase set p phase) where
    has_room : (ped : Ped) → phase.ped ≡ Some ped → CrossingHasRoom set pattern p phase ped
    has_room ped is split row serves =
        let right = right_split set clean n pattern has p phase of_p split row in
        room_for phase split ped is
        (fits_called phase ped split is right (button_quiet set quiet pattern.split p split phase (split_number pattern.split has.0.split) (phase_number p of_p.0.number) row of_p.1) serves)

    has_green : CoordinatedHasGreen set pattern p phase
    has_green split row coord =
        let right = right_split set clean n pattern has p phase of_p split row in
        let serves = coordinated_times split phase right coord in
        let some = one_or_more phase.min_green (phase_quiet set quiet p phase (phase_number p of_p.0.number) of_p.1).0 in
        by_ped phase.ped refl (room split phase right serves) (λ ped is. has_room ped is split row serves) some where
          by_ped : (o : Option Ped) → phase.ped ≡ o → FitsSplit phase split → ((ped : Ped) → phase.ped ≡ Some ped → HasRoom phase split ped) → 0 < phase.min_green → HasGreen phase split
          by_ped None is fits has some = record {
            green_end = fits.green_end;
            cleared = fits.cleared;
            green = subst (λ o. 10 * (lead_time o + 1) ≤ fits.green_end) (sym is) (green_alone phase.min_green fits.green_end some fits.green);
          }
          by_ped (Some ped) is fits has some =
              let fit = has ped is in
              record {
                green_end = fit.green_end;
                cleared = fit.cleared;
                green = subst (λ o. 10 * (lead_time o + 1) ≤ fit.green_end) (sym is) (green_after ped.lead phase.min_green fit.green_end some fit.crossing.lead_and_green);
              }

-- the laws of a set without violations and without warnings
pub laws_however_called : (set : Rows) → violations_of set ≡ [] → warnings_of set ≡ [] → LawsHoweverCalled set
laws_however_called set none unwarned =
    let clean = is_clean set none in
    let quiet = is_quiet set unwarned in
    record {
      measured = λ p phase of_p. where_some phase.ped (λ ped. 0 < ped.width) (is_measured set clean quiet p phase of_p);
      room = λ n pattern has p phase of_p. where_some phase.ped (CrossingHasRoom set pattern p phase) (has_room set clean quiet n pattern has p phase of_p);
      walks = λ n pattern has. record {
        within = λ p phase of_p. where_some phase.ped (WalkLiesWithin ServesPhase set pattern p phase) (λ ped is. walk_within set clean n pattern has p phase of_p ServesPhase ped is (has_room set clean quiet n pattern has p phase of_p ped is));
        walkers = λ p phase of_p. where_some phase.ped (WalkersHaveTheStreet ServesPhase set pattern p phase) (λ ped is. walkers set clean n pattern has p phase of_p ServesPhase ped is (has_room set clean quiet n pattern has p phase of_p ped is));
      };
      green = λ n pattern has p phase of_p. has_green set clean quiet n pattern has p phase of_p;
    }
