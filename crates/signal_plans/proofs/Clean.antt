-- A set without violations keeps each rule on each of its subjects.
use Rattle.std.proofs.Common.{◌≡◌, ℕ, Bool, true, false, ◌&&◌, eqb, if◌then◌else◌, List, [], ◌∷◌, ◌++◌, map, filter, Option, is_some, Some, None, ◌⊎◌, inl, inr, refl, sym, ap, ◌∙◌}
use Rattle.std.proofs.lemmas.Bool.{false≢true, and_parts, or_cases, eqb-true}
use Rattle.std.specs.List.{flat_map, list_all}
use Rattle.signal_records.specs.{declared.record.Pattern.Pattern, declared.record.Phase.Phase, declared.record.Split.Split, TimingSet.Rows}
use Rattle.signal_rules.specs.declared.{reason.Reason.Reason, violation.Rule.Rule, violation.Subject.Subject}
use Rattle.signal_rules.specs.Lookup.{phase_at, split_at, pattern_at, phases, has_sequence, is_in, phase_numbers, sequence_numbers, split_numbers, pattern_numbers}
use Rattle.signal_rules.specs.Cases.{Cases, first_true, holds}
use Rattle.signal_rules.specs.PhaseRules.{yellow_cases, red_cases, walk_cases, crossing_cases, setback_cases, lead_cases, of_ped, mates_cases}
use Rattle.signal_rules.specs.SequenceRule.{sequence_cases}
use Rattle.signal_rules.specs.SplitRule.{split_cases}
use Rattle.signal_rules.specs.PatternRules.{rows_cases, has_rows, offset_cases, coordination_cases, sum_cases, lanes_fill_cycle, lanes_agree, conflict_cases}
use Rattle.signal_rules.specs.Lanes.{used_rings}
use Rattle.signal_rules.specs.Slots.{spans_of, conflicts_in}
use Rattle.signal_rules.specs.Violations.{Findings, with_reason, broken, violations_in, phase_findings, pattern_findings, for_phase, for_sequence, for_split, for_pattern, violations_at, violations_of, split_rows, split_subjects}
use Rattle.signal_rules.specs.declared.violation.Rule.TheVariants as rule
use Rattle.signal_rules.specs.declared.violation.Subject.TheVariants as subject
use Rattle.signal_rules.proofs.{Kept.nil_append, Kept.nil_parts, Among.in_filter, Slots.conflicts_of_slots}

-- subjects that were joined or made in a list without violations
mapped_at : {S B : Type 0} (V : S → List B) (make : ℕ → S) (ns : List ℕ) (t : ℕ) → flat_map V (map make ns) ≡ [] → is_in t ns ≡ true → V (make t) ≡ []
mapped_at V make [] t none among = absurd (false≢true among)
mapped_at V make (n ∷ ns) t none among =
    let parts = nil_parts (V (make n)) (flat_map V (map make ns)) none in
    by_place (or_cases (eqb n t) (is_in t ns) among) parts.0 (mapped_at V make ns t parts.1) where
      by_place : (eqb n t ≡ true) ⊎ (is_in t ns ≡ true) → V (make n) ≡ [] → (is_in t ns ≡ true → V (make t) ≡ []) → V (make t) ≡ []
      by_place (inl e) here later = ap (λ k. V (make k)) (sym (eqb-true n t e)) ∙ here
      by_place (inr e) here later = later e

pub made_at : {S B : Type 0} (V : S → List B) (make : ℕ → S) (P : ℕ → Bool) (ns : List ℕ) (t : ℕ) → flat_map V (map make (filter P ns)) ≡ [] → is_in t ns ≡ true → P t ≡ true → V (make t) ≡ []
made_at V make P ns t none among is = mapped_at V make (filter P ns) t none (in_filter P ns t is among)

pub joined_at : {S B : Type 0} (V : S → List B) (f : ℕ → List S) (ns : List ℕ) (t : ℕ) → flat_map V (flat_map f ns) ≡ [] → is_in t ns ≡ true → flat_map V (f t) ≡ []
joined_at V f [] t none among = absurd (false≢true among)
joined_at V f (n ∷ ns) t none among =
    let parts = nil_append V (f n) (flat_map f ns) none in
    by_place (or_cases (eqb n t) (is_in t ns) among) parts.0 (joined_at V f ns t parts.1) where
      by_place : (eqb n t ≡ true) ⊎ (is_in t ns ≡ true) → flat_map V (f n) ≡ [] → (is_in t ns ≡ true → flat_map V (f t) ≡ []) → flat_map V (f t) ≡ []
      by_place (inl e) here later = ap (λ k. flat_map V (f k)) (sym (eqb-true n t e)) ∙ here
      by_place (inr e) here later = later e

pub four_parts : {A B : Type 0} (V : A → List B) (a b c d : List A) → flat_map V (a ++ (b ++ (c ++ d))) ≡ [] → (flat_map V a ≡ []) × (flat_map V b ≡ []) × (flat_map V c ≡ []) × (flat_map V d ≡ [])
four_parts V a b c d none =
    let one = nil_append V a (b ++ (c ++ d)) none in
    let two = nil_append V b (c ++ d) one.1 in
    let three = nil_append V c d two.1 in
    (one.0, two.0, three.0, three.1)

-- no subject of any kind has a violation
pub record IsClean (set : Rows) : Type 0 where
  pub of_phases : flat_map (violations_at set) (map (λ p. subject.Phase p) (phases set)) ≡ []
  pub of_sequences : flat_map (violations_at set) (map (λ n. subject.Seq n) (filter (has_sequence set) sequence_numbers)) ≡ []
  pub of_splits : flat_map (violations_at set) (flat_map (split_rows set) split_numbers) ≡ []
  pub of_patterns : flat_map (violations_at set) (map (λ n. subject.Pattern n) (filter (λ n. is_some (pattern_at set n)) pattern_numbers)) ≡ []

pub is_clean : (set : Rows) → violations_of set ≡ [] → IsClean set
unfolding violations_of
is_clean set none =
    let parts = four_parts (violations_at set) (map (λ p. subject.Phase p) (phases set)) (map (λ n. subject.Seq n) (filter (has_sequence set) sequence_numbers)) (split_subjects set) (map (λ n. subject.Pattern n) (filter (λ n. is_some (pattern_at set n)) pattern_numbers)) none in
    record { of_phases = parts.0; of_sequences = parts.1; of_splits = parts.2; of_patterns = parts.3 }

-- findings that break nothing hold
abbrev all_hold : Findings → Bool
all_hold fs = list_all (λ (f : Rule × Cases Reason). holds f.1) fs

none_broken : (s : Subject) (fs : Findings) → violations_in (broken s fs) ≡ [] → all_hold fs ≡ true
none_broken s [] none = refl
none_broken s ((r, cs) ∷ fs) none = by_reason (first_true cs) refl (none_broken s fs) none where
  by_reason : (o : Option Reason) → first_true cs ≡ o → (violations_in (broken s fs) ≡ [] → all_hold fs ≡ true) → violations_in (with_reason s r o (broken s fs)) ≡ [] → (holds cs && all_hold fs) ≡ true
  by_reason None e later none = rw e (later none)
  by_reason (Some why) e later none = absurd (cc)

only : (b : Bool) → (b && true) ≡ true → b ≡ true
only true h = refl
only false h = absurd (false≢true h)

phase_holds : (a b c d e f g : Bool) → (a && (b && (c && (d && (e && (f && (g && true))))))) ≡ true → (d ≡ true) × (e ≡ true)
phase_holds true true true true true f g h = (refl, refl)
phase_holds _ _ _ _ _ _ _ h = absurd (false≢true h)

-- V13, whose reasons are listed only where its test fails
agreement : {A : Type 0} (b : Bool) (cs : Cases A) → holds cs ≡ b → holds (if b then [] else cs) ≡ true → b ≡ true
agreement true cs e h = refl
agreement false cs e h = absurd (false≢true (sym e ∙ h))

abbrev compared : Cases Reason → Bool → Findings
compared g fill = if fill then (rule.V13, g) ∷ [] else []

abbrev on_lanes : Cases Reason → Cases Reason → Bool → Findings
on_lanes f g rows = if rows then (rule.V12, f) ∷ compared g (holds f) else []

pattern_holds : (r o c f g : Cases Reason) → all_hold ((rule.V9, r) ∷ (rule.V10, o) ∷ (rule.V11, c) ∷ on_lanes f g (holds r)) ≡ true → (holds r ≡ true) × (holds f ≡ true) × (holds g ≡ true) × (holds o ≡ true) × (holds c ≡ true)
pattern_holds r o c f g h =
    let one = and_parts (holds r) (holds o && (holds c && all_hold (on_lanes f g (holds r)))) h in
    let two = and_parts (holds o) (holds c && all_hold (on_lanes f g (holds r))) one.1 in
    let three = and_parts (holds c) (all_hold (on_lanes f g (holds r))) two.1 in
    let four = and_parts (holds f) (all_hold (compared g (holds f))) (ap (λ b. all_hold (on_lanes f g b)) (sym one.0) ∙ three.1) in
    (one.0, four.0, only (holds g) (ap (λ b. all_hold (compared g b)) (sym four.0) ∙ four.1), two.0, three.0)

module _ (set : Rows) (clean : IsClean set) where
  -- V4 and V5 of a phase
  pub phase_rules : (p : ℕ) (phase : Phase) → is_in p phase_numbers ≡ true → phase_at set p ≡ Some phase → (holds (of_ped phase.ped (crossing_cases phase)) ≡ true) × (holds (of_ped phase.ped (setback_cases phase)) ≡ true)
  phase_rules p phase among is =
      let own : violations_at set (subject.Phase p) ≡ [] = made_at (violations_at set) (λ p. subject.Phase p) (λ p. is_some (phase_at set p)) phase_numbers p clean.of_phases among (ap is_some is) in
      let found : violations_in (broken (subject.Phase p) (phase_findings set p phase)) ≡ [] = ap (λ o. violations_in (broken (subject.Phase p) (for_phase set p o))) (sym is) ∙ own in
      phase_holds (holds (yellow_cases phase)) (holds (red_cases phase)) (holds (of_ped phase.ped walk_cases)) (holds (of_ped phase.ped (crossing_cases phase))) (holds (of_ped phase.ped (setback_cases phase))) (holds (mates_cases set p phase)) (holds (of_ped phase.ped lead_cases))
      (none_broken (subject.Phase p) (phase_findings set p phase) found)

  -- V7 of a sequence
  pub sequence_rule : (n : ℕ) → is_in n sequence_numbers ≡ true → has_sequence set n ≡ true → holds (sequence_cases set n) ≡ true
  sequence_rule n among has =
      let own : violations_at set (subject.Seq n) ≡ [] = made_at (violations_at set) (λ n. subject.Seq n) (has_sequence set) sequence_numbers n clean.of_sequences among has in
      only (holds (sequence_cases set n)) (none_broken (subject.Seq n) (for_sequence set n true) (ap (λ b. violations_in (broken (subject.Seq n) (for_sequence set n b))) (sym has) ∙ own))

  -- V8 of a split row
  pub split_rule : (n p : ℕ) (split : Split) (phase : Phase) → is_in n split_numbers ≡ true → is_in p phase_numbers ≡ true → split_at set n p ≡ Some split → phase_at set p ≡ Some phase → holds (split_cases p (Some phase) split) ≡ true
  split_rule n p split phase number among has is =
      let rows : flat_map (violations_at set) (split_rows set n) ≡ [] = joined_at (violations_at set) (split_rows set) split_numbers n clean.of_splits number in
      let own : violations_at set (subject.Split n p) ≡ [] = made_at (violations_at set) (λ p. subject.Split n p) (λ p. is_some (split_at set n p)) phase_numbers p rows among (ap is_some has) in
      ap (λ o. holds (split_cases p o split)) (sym is)
      ∙ only (holds (split_cases p (phase_at set p) split)) (none_broken (subject.Split n p) (for_split set p (Some split)) (ap (λ o. violations_in (broken (subject.Split n p) (for_split set p o))) (sym has) ∙ own))

  -- V9, V12, V13, V10 and V11 of a pattern
  pub pattern_rules : (n : ℕ) (pattern : Pattern) → is_in n pattern_numbers ≡ true → pattern_at set n ≡ Some pattern → (has_rows set pattern ≡ true) × (lanes_fill_cycle set pattern ≡ true) × (lanes_agree set pattern ≡ true)
      × (holds (offset_cases pattern) ≡ true) × (holds (coordination_cases set pattern) ≡ true)
  pattern_rules n pattern among is =
      let own : violations_at set (subject.Pattern n) ≡ [] = made_at (violations_at set) (λ n. subject.Pattern n) (λ n. is_some (pattern_at set n)) pattern_numbers n clean.of_patterns among (ap is_some is) in
      let found : violations_in (broken (subject.Pattern n) (pattern_findings set pattern)) ≡ [] = ap (λ o. violations_in (broken (subject.Pattern n) (for_pattern set o))) (sym is) ∙ own in
      let rules = pattern_holds (rows_cases set pattern) (offset_cases pattern) (coordination_cases set pattern) (sum_cases set pattern) (conflict_cases set pattern) (none_broken (subject.Pattern n) (pattern_findings set pattern) found) in
      let spans = spans_of set pattern (used_rings set) in
      let agree : lanes_agree set pattern ≡ true = agreement (lanes_agree set pattern) (conflicts_in pattern.cycle spans) (conflicts_of_slots set pattern (used_rings set) spans refl refl rules.1) rules.2 in
      (rules.0, rules.1, agree, rules.3, rules.4)
