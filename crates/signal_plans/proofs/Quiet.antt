-- A set without warnings has none of any subject.
use Rattle.std.proofs.Common.{◌≡◌, ℕ, Bool, true, false, if◌then◌else◌, eqb, [], ◌∷◌, map, filter, Some, is_some, refl, sym, ap, ◌∙◌}
use Rattle.std.specs.List.{flat_map}
use Rattle.signal_records.specs.declared.record.Ped.{Ped}
use Rattle.signal_records.specs.declared.record.Phase.{Phase}
use Rattle.signal_records.specs.declared.record.Split.{Split}
use Rattle.signal_records.specs.TimingSet.{Rows}
use Rattle.signal_rules.specs.Cases.{Cases}
use Rattle.signal_rules.specs.Lookup.{phase_at, split_at, pattern_at, phases, has_sequence, is_in, phase_numbers, sequence_numbers, split_numbers, pattern_numbers}
use Rattle.signal_rules.specs.Violations.{subjects, split_rows, split_subjects}
use Rattle.signal_rules.specs.declared.violation.Subject.TheVariants as subject
use Rattle.signal_rules.proofs.Kept.{nil_parts}
use Rattle.signal_plans.proofs.Clean.{made_at, joined_at, four_parts}
use Rattle.signal_plans.specs.declared.warning.Advice.{Advice}
use Rattle.signal_plans.specs.declared.warning.Scope.{Scope}
use Rattle.signal_plans.specs.declared.warning.Scope.TheVariants as scope
use Rattle.signal_plans.specs.PhaseWarnings.{maximum_case, minimum_case, concurrency_case, service_case, passage_case, red_case, phase_cases, clearance_case, width_case, narrow_case, wide_case, crossing_warnings}
use Rattle.signal_plans.specs.SplitWarnings.{split_warnings, button_case, recall_case, green_case}
use Rattle.signal_plans.specs.PlanWarnings.{plan_cases}
use Rattle.signal_plans.specs.Warnings.{told_cases, phase_warnings, row_warnings, warnings_at, warnings_of}

-- no phase and no split row has a warning
pub record IsQuiet (set : Rows) : Type 0 where
  pub of_phases : flat_map (warnings_at set) (map (λ p. subject.Phase p) (phases set)) ≡ []
  pub of_splits : flat_map (warnings_at set) (flat_map (split_rows set) split_numbers) ≡ []

pub is_quiet : (set : Rows) → warnings_of set ≡ [] → IsQuiet set
unfolding warnings_of
is_quiet set none =
    let of_subjects = nil_parts (flat_map (warnings_at set) (subjects set)) (told_cases scope.Plan (plan_cases set)) none in
    let parts = four_parts (warnings_at set) (map (λ p. subject.Phase p) (phases set)) (map (λ n. subject.Seq n) (filter (has_sequence set) sequence_numbers)) (split_subjects set) (map (λ n. subject.Pattern n) (filter (λ n. is_some (pattern_at set n)) pattern_numbers)) of_subjects.0 in
    record { of_phases = parts.0; of_splits = parts.2 }

-- of some cases of which none is told, the first is not so, and none of the others is told
untold : (s : Scope) (c : Bool × Advice) (cs : Cases Advice) → told_cases s (c ∷ cs) ≡ [] → (c.0 ≡ false) × (told_cases s cs ≡ [])
untold s c cs none = by_test c.0 none where
  by_test : (b : Bool) → (if b then record { subject = s; advice = c.1 } ∷ told_cases s cs else told_cases s cs) ≡ [] → (b ≡ false) × (told_cases s cs ≡ [])
  by_test false none = (refl, none)
  by_test true none = absurd (cc)

-- a crossing is measured
pub measured : (s : Scope) (ped : Ped) → told_cases s (crossing_warnings (Some ped)) ≡ [] → eqb ped.width 0 ≡ false
measured s ped none =
    let rest = narrow_case ped ∷ wide_case ped ∷ [] in
    (untold s (width_case ped) rest (untold s (clearance_case ped) (width_case ped ∷ rest) none).1).0

module _ (set : Rows) (quiet : IsQuiet set) where
  -- a phase has a minimum green, and a crossing that it has is measured
  pub phase_quiet : (p : ℕ) (phase : Phase) → is_in p phase_numbers ≡ true → phase_at set p ≡ Some phase
      → (eqb phase.min_green 0 ≡ false) × (told_cases (scope.Subject (subject.Phase p)) (crossing_warnings phase.ped) ≡ [])
  phase_quiet p phase among is =
      let own : warnings_at set (subject.Phase p) ≡ [] = made_at (warnings_at set) (λ p. subject.Phase p) (λ p. is_some (phase_at set p)) phase_numbers p quiet.of_phases among (ap is_some is) in
      let found : phase_warnings set p (Some phase) ≡ [] = ap (phase_warnings set p) (sym is) ∙ own in
      let s = scope.Subject (subject.Phase p) in
      let parts = nil_parts (told_cases s (phase_cases set p phase)) (told_cases s (crossing_warnings phase.ped)) found in
      let rest = concurrency_case set phase ∷ service_case set p ∷ passage_case phase ∷ red_case phase ∷ [] in
      let maximum = untold s (maximum_case phase) (minimum_case phase ∷ rest) parts.0 in
      ((untold s (minimum_case phase) rest maximum.1).0, parts.1)

  -- a split row of a phase has room if a button calls the walk
  pub button_quiet : (n p : ℕ) (split : Split) (phase : Phase) → is_in n split_numbers ≡ true → is_in p phase_numbers ≡ true → split_at set n p ≡ Some split → phase_at set p ≡ Some phase
      → (button_case phase split).0 ≡ false
  button_quiet n p split phase number among has is =
      let rows : flat_map (warnings_at set) (split_rows set n) ≡ [] = joined_at (warnings_at set) (split_rows set) split_numbers n quiet.of_splits number in
      let own : warnings_at set (subject.Split n p) ≡ [] = made_at (warnings_at set) (λ p. subject.Split n p) (λ p. is_some (split_at set n p)) phase_numbers p rows among (ap is_some has) in
      let row : row_warnings set n p (Some split) ≡ [] = ap (row_warnings set n p) (sym has) ∙ own in
      let s = scope.Subject (subject.Split n p) in
      (untold s (button_case phase split) (recall_case phase split ∷ green_case phase split ∷ []) (ap (λ o. told_cases s (split_warnings o split)) (sym is) ∙ row)).0
