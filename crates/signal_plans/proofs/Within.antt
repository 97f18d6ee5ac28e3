-- What a split has room for, and how long a walker crosses.
use Rattle.std.proofs.Common.{◌≡◌, ◌≢◌, ◌↔◌, ℕ, ◌+◌, ◌-◌, ◌*◌, ◌<◌, ◌≤◌, max, Bool, true, false, not, ◌&&◌, eqb, ltb, [], ◌∷◌, Option, Some, None, IfSome, inl, inr, refl, sym, ap, subst, ◌∙◌, arith}
use Rattle.std.proofs.lemmas.Bool.{false≢true, eq-eqb, eqb-true, leb-true, ltb-false}
use Rattle.signal_records.specs.{declared.record.Ped.Ped, declared.record.Phase.Phase, declared.record.Split.Split, declared.record.SplitMode.SplitMode, declared.record.SplitMode.TheVariants.PhaseOmitted, declared.record.SplitMode.TheVariants.PedestrianRecall, Need.called}
use Rattle.signal_records.specs.Need.{lead_time, walk_time, need_of}
use Rattle.signal_rules.specs.Cases.{holds}
use Rattle.signal_rules.specs.PhaseRules.{clearance, clears_crossing, crossing_cases, clears_setback, setback_cases, of_ped}
use Rattle.signal_rules.specs.SplitRule.{is_omitted, split_cases}
use Rattle.signal_rules.proofs.Cases.{test_holds}
use Rattle.signal_plans.specs.Intervals.{CallsPedestrian, FitsCrossing, HasRoom, FitsSplit, clear_end, CrossesInTime, CrossesFromSetback}

-- V8 of the row of a phase
abbrev pub fits_phase : Split → Phase → Bool
fits_phase split phase = holds (split_cases 0 (Some phase) split)

-- none of four reasons is true
none_of_four : {A : Type 0} (a b c d : Bool) (w x y z : A) → holds ((a, w) ∷ (b, x) ∷ (c, y) ∷ (d, z) ∷ []) ≡ true → (a ≡ false) × (b ≡ false) × (c ≡ false) × (d ≡ false)
none_of_four false false false false w x y z h = (refl, refl, refl, refl)
none_of_four _ _ _ _ w x y z h = absurd (false≢true h)

abbrev is_long : Split → Phase → Bool
is_long split phase = ltb (10 * split.time) (need_of phase split.mode)

split_parts : (split : Split) (phase : Phase) → fits_phase split phase ≡ true
    → ((is_omitted split.mode && not (eqb split.time 0)) ≡ false) × ((is_omitted split.mode && split.coord) ≡ false) × ((not (is_omitted split.mode) && eqb split.time 0) ≡ false)
    × ((not (eqb split.time 0) && is_long split phase) ≡ false)
split_parts split phase right = none_of_four (is_omitted split.mode && not (eqb split.time 0)) (is_omitted split.mode && split.coord) (not (is_omitted split.mode) && eqb split.time 0) (not (eqb split.time 0) && is_long split phase) _ _ _ _ right

same_tests : (o t : Bool) → (o && not t) ≡ false → (not o && t) ≡ false → t ≡ o
same_tests true true g h = refl
same_tests true false g h = absurd (false≢true (sym g))
same_tests false true g h = absurd (false≢true (sym h))
same_tests false false g h = refl

omitted_is : (mode : SplitMode) → is_omitted mode ≡ true → mode ≡ PhaseOmitted
omitted_is PhaseOmitted h = refl
omitted_is _ h = absurd (false≢true h)

-- a split has no time exactly where the phase is omitted
pub none_where_omitted : (split : Split) (phase : Phase) → fits_phase split phase ≡ true → (split.time ≡ 0) ↔ (split.mode ≡ PhaseOmitted)
none_where_omitted split phase right =
    let parts = split_parts split phase right in
    let fits : eqb split.time 0 ≡ is_omitted split.mode = same_tests (is_omitted split.mode) (eqb split.time 0) parts.0 parts.2 in
    ((λ none. omitted_is split.mode (sym fits ∙ eq-eqb split.time 0 none)), (λ omitted. eqb-true split.time 0 (fits ∙ ap is_omitted omitted)))

-- a mode that calls the walk takes the pedestrian part into the need
called_is : (ped : Option Ped) (mode : SplitMode) → CallsPedestrian mode → called ped mode ≡ ped
called_is ped mode (inl e) = ap (called ped) e
called_is ped mode (inr e) = ap (called ped) e

pub not_omitted : (mode : SplitMode) → CallsPedestrian mode → mode ≢ PhaseOmitted
not_omitted mode (inl e) omitted = absurd (cc)
not_omitted mode (inr e) omitted = absurd (cc)

-- a coordinated phase is not omitted
pub coordinated_times : (split : Split) (phase : Phase) → fits_phase split phase ≡ true → split.coord ≡ true → split.mode ≢ PhaseOmitted
coordinated_times split phase right coord omitted =
    let broken : true ≡ false = sym (ap (λ m. is_omitted m && split.coord) omitted ∙ coord) ∙ (split_parts split phase right).1 in
    absurd (false≢true (sym broken))

pub both_needs : (a b c t : ℕ) → max a b + c ≤ t → (a + c ≤ t) × (b + c ≤ t)
both_needs a b c t h = (omega arith, omega arith)

pub enough : (split : Split) (phase : Phase) → fits_phase split phase ≡ true → split.mode ≢ PhaseOmitted → need_of phase split.mode ≤ 10 * split.time
enough split phase right some = by_time (eqb split.time 0) refl (split_parts split phase right).3 where
  by_time : (t : Bool) → eqb split.time 0 ≡ t → (not t && is_long split phase) ≡ false → need_of phase split.mode ≤ 10 * split.time
  by_time true e h = absurd (some ((none_where_omitted split phase right).0 (eqb-true split.time 0 e)))
  by_time false e h = ltb-false (10 * split.time) (need_of phase split.mode) h

crossing_fits : (lead green walk clear clearance time l w : ℕ) → l ≡ lead → w ≡ walk + clear → 10 * (l + green) + clearance ≤ time → 10 * w + clearance ≤ time → (10 * (lead + green) ≤ time - clearance) × (10 * (walk + clear) ≤ time - clearance)
crossing_fits lead green walk clear clearance time l w e f g h = (omega arith, omega arith)

-- a split that is as long as a phase needs whose walk is called has room for its crossing
pub room_for : (phase : Phase) (split : Split) (ped : Ped) → phase.ped ≡ Some ped → need_of phase PedestrianRecall ≤ 10 * split.time → HasRoom phase split ped
room_for phase split ped is fits =
    let bounds = both_needs (10 * (lead_time phase.ped + phase.min_green)) (10 * walk_time phase.ped) (phase.yellow + phase.red) (10 * split.time) fits in
    let fit = crossing_fits ped.lead phase.min_green ped.walk ped.clear (phase.yellow + phase.red) (10 * split.time) (lead_time phase.ped) (walk_time phase.ped) (ap lead_time is) (ap walk_time is) bounds.0 bounds.1 in
    record {
      green_end = 10 * split.time - (phase.yellow + phase.red);
      cleared = ends _ _ _ _ _ bounds.0;
      crossing = record { lead_and_green = fit.0; walk_and_clearance = fit.1 };
    } where
      ends : (l g y r t : ℕ) → 10 * (l + g) + (y + r) ≤ t → t - (y + r) + y + r ≡ t
      ends l g y r t h = omega arith

-- a mode that calls the walk needs as much as one in which a button calls it
called_needs : (phase : Phase) (mode : SplitMode) → CallsPedestrian mode → need_of phase mode ≡ need_of phase PedestrianRecall
called_needs phase mode (inl e) = ap (need_of phase) e
called_needs phase mode (inr e) = ap (need_of phase) e

-- a split that calls the walk has room for it
pub called_room : (phase : Phase) (split : Split) (ped : Ped) → phase.ped ≡ Some ped → fits_phase split phase ≡ true → CallsPedestrian split.mode → HasRoom phase split ped
called_room phase split ped is right calls =
    room_for phase split ped is (subst (λ need. need ≤ 10 * split.time) (called_needs phase split.mode calls) (enough split phase right (not_omitted split.mode calls)))

-- a split that is not omitted has room for all that the phase shows
pub room : (split : Split) (phase : Phase) → fits_phase split phase ≡ true → split.mode ≢ PhaseOmitted → FitsSplit phase split
room split phase right some =
    record {
      green_end = 10 * split.time - (phase.yellow + phase.red);
      cleared = ends _ _ _ _ _ bounds.0;
      green = shown _ _ _ _ bounds.0;
      crossing = λ calls. where_ped phase.ped refl calls;
    } where
      bounds : (10 * (lead_time (called phase.ped split.mode) + phase.min_green) + (phase.yellow + phase.red) ≤ 10 * split.time) × (10 * walk_time (called phase.ped split.mode) + (phase.yellow + phase.red) ≤ 10 * split.time)
      bounds = both_needs (10 * (lead_time (called phase.ped split.mode) + phase.min_green)) (10 * walk_time (called phase.ped split.mode)) (phase.yellow + phase.red) (10 * split.time) (enough split phase right some)

      ends : (l g y r t : ℕ) → 10 * (l + g) + (y + r) ≤ t → t - (y + r) + y + r ≡ t
      ends l g y r t h = omega arith

      shown : (l g c t : ℕ) → 10 * (l + g) + c ≤ t → 10 * g ≤ t - c
      shown l g c t h = omega arith

      where_ped : (o : Option Ped) → phase.ped ≡ o → CallsPedestrian split.mode → IfSome o (λ ped. FitsCrossing phase ped (10 * split.time - (phase.yellow + phase.red)))
      where_ped None e calls = tt
      where_ped (Some ped) e calls =
          let is : called phase.ped split.mode ≡ Some ped = called_is phase.ped split.mode calls ∙ e in
          let fit = crossing_fits ped.lead phase.min_green ped.walk ped.clear (phase.yellow + phase.red) (10 * split.time) (lead_time (called phase.ped split.mode)) (walk_time (called phase.ped split.mode)) (ap lead_time is) (ap walk_time is) bounds.0 bounds.1 in
          record { lead_and_green = fit.0; walk_and_clearance = fit.1 }

-- walkers are across in time
across : (left now walk clear yellow red width : ℕ) → 2 * width ≤ 7 * (10 * clear + (yellow + red)) → left ≤ 10 * walk → left ≤ now → 7 * (now - left) < 2 * width → now < 10 * walk + 10 * clear + yellow + red
across left now walk clear yellow red width enough by gone not_yet = omega arith

pub crosses : (phase : Phase) (ped : Ped) → phase.ped ≡ Some ped → holds (of_ped phase.ped (crossing_cases phase)) ≡ true → CrossesInTime phase ped
crosses phase ped is clears left now by crossing =
    let enough : 2 * ped.width ≤ 7 * clearance phase ped = leb-true (2 * ped.width) (7 * clearance phase ped) (test_holds (clears_crossing phase ped) _ (ap (λ o. holds (of_ped o (crossing_cases phase))) (sym is) ∙ clears)) in
    across left now ped.walk ped.clear phase.yellow phase.red ped.width enough by crossing.0 crossing.1

from_behind : (now walk clear yellow red width setback : ℕ) → width + setback ≤ 3 * (10 * walk + (10 * clear + (yellow + red))) → 3 * now < setback + width → now < 10 * walk + 10 * clear + yellow + red
from_behind now walk clear yellow red width setback enough not_yet = omega arith

pub crosses_from_setback : (phase : Phase) (ped : Ped) → phase.ped ≡ Some ped → holds (of_ped phase.ped (setback_cases phase)) ≡ true → CrossesFromSetback phase ped
crosses_from_setback phase ped is clears now on_the_way =
    let enough : ped.width + ped.setback ≤ 3 * (10 * ped.walk + clearance phase ped) = leb-true (ped.width + ped.setback) (3 * (10 * ped.walk + clearance phase ped)) (test_holds (clears_setback phase ped) _ (ap (λ o. holds (of_ped o (setback_cases phase))) (sym is) ∙ clears)) in
    from_behind now ped.walk ped.clear phase.yellow phase.red ped.width ped.setback enough on_the_way

-- red is over before the split is, where it has room for the crossing
pub within_split : (phase : Phase) (ped : Ped) (split : Split) (now : ℕ) → HasRoom phase split ped → now < clear_end phase ped → now < 10 * split.time
within_split phase ped split now fits before =
    ended _ _ _ _ _ _ _ fits.crossing.walk_and_clearance fits.cleared before where
      ended : (now walk clear green yellow red time : ℕ) → 10 * (walk + clear) ≤ green → green + yellow + red ≡ time → now < 10 * walk + 10 * clear + yellow + red → now < time
      ended now walk clear green yellow red time f g h = omega arith
