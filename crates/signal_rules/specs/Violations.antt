-- The violations of a timing set and their reasons: which subjects there are, and which rules each of them breaks.
use Rattle.std.specs.Prelude.{◌≡◌, ℕ, Bool, true, false, if◌then◌else◌, List, [], ◌∷◌, ◌++◌, map, filter, Contains, Option, Some, None, is_some}
use Rattle.std.specs.List.{flat_map}
use Rattle.signal_records.specs.declared.record.Phase.{Phase}
use Rattle.signal_records.specs.declared.record.Pattern.{Pattern}
use Rattle.signal_records.specs.declared.record.Split.{Split}
use Rattle.signal_records.specs.TimingSet.{Rows}
use Rattle.signal_rules.specs.declared.reason.{Reason.Reason, Explained.Explained}
use Rattle.signal_rules.specs.declared.violation.Rule.{Rule}
use Rattle.signal_rules.specs.declared.violation.Rule.TheVariants as rule
use Rattle.signal_rules.specs.declared.violation.Subject.{Subject}
use Rattle.signal_rules.specs.declared.violation.Subject.TheVariants as subject
use Rattle.signal_rules.specs.declared.violation.Violation.{Violation}
use Rattle.signal_rules.specs.Lookup.{phase_at, split_at, pattern_at, phases, phase_numbers, sequence_numbers, split_numbers, pattern_numbers, has_sequence}
use Rattle.signal_rules.specs.Cases.{Cases, first_true, further, IsTrueIn}
use Rattle.signal_rules.specs.PhaseRules.{yellow_cases, red_cases, walk_cases, crossing_cases, setback_cases, lead_cases, of_ped, mates_cases}
use Rattle.signal_rules.specs.SequenceRule.{sequence_cases}
use Rattle.signal_rules.specs.SplitRule.{split_cases}
use Rattle.signal_rules.specs.PatternRules.{rows_cases, has_rows, offset_cases, coordination_cases, sum_cases, lanes_fill_cycle, conflict_cases}

-- the rules on a subject, ascending, each with the reasons that break it
abbrev pub Findings : Type 0
Findings = List (Rule × Cases Reason)

-- the rules of a phase with the reasons that break each
abbrev pub phase_findings : Rows → ℕ → Phase → Findings
phase_findings set p phase =
    (rule.V1, yellow_cases phase)
    ∷ (rule.V2, red_cases phase)
    ∷ (rule.V3, of_ped phase.ped walk_cases)
    ∷ (rule.V4, of_ped phase.ped (crossing_cases phase))
    ∷ (rule.V5, of_ped phase.ped (setback_cases phase))
    ∷ (rule.V6, mates_cases set p phase)
    ∷ (rule.V14, of_ped phase.ped lead_cases)
    ∷ []

-- V12 of a pattern, and V13 where V12 holds, with the reasons that break each
abbrev pub lane_findings : Rows → Pattern → Findings
lane_findings set pattern =
    (rule.V12, sum_cases set pattern)
    ∷ (if lanes_fill_cycle set pattern then (rule.V13, conflict_cases set pattern) ∷ [] else [])

-- V9 to V11 of a pattern, and V12 and V13 where V9 holds, with the reasons that break each; V13 only if V12 holds too
abbrev pub pattern_findings : Rows → Pattern → Findings
pattern_findings set pattern =
    (rule.V9, rows_cases set pattern)
    ∷ (rule.V10, offset_cases pattern)
    ∷ (rule.V11, coordination_cases set pattern)
    ∷ (if has_rows set pattern then lane_findings set pattern else [])

-- the rules of a phase; none if the set does not have it
abbrev pub for_phase : Rows → ℕ → Option Phase → Findings
for_phase set p None = []
for_phase set p (Some phase) = phase_findings set p phase

-- the rule of a sequence; none if it has no row
abbrev pub for_sequence : Rows → ℕ → Bool → Findings
for_sequence set n false = []
for_sequence set n true = (rule.V7, sequence_cases set n) ∷ []

-- the rule of a split row; none if the set does not have it
abbrev pub for_split : Rows → ℕ → Option Split → Findings
for_split set p None = []
for_split set p (Some split) = (rule.V8, split_cases p (phase_at set p) split) ∷ []

-- the rules of a pattern; none if the set does not have it
abbrev pub for_pattern : Rows → Option Pattern → Findings
for_pattern set None = []
for_pattern set (Some pattern) = pattern_findings set pattern

-- the rules of a subject; none if the set does not have it
abbrev pub findings : Rows → Subject → Findings
findings set (subject.Phase p) = for_phase set p (phase_at set p)
findings set (subject.Seq n) = for_sequence set n (has_sequence set n)
findings set (subject.Split n p) = for_split set p (split_at set n p)
findings set (subject.Pattern n) = for_pattern set (pattern_at set n)

-- the violation of a rule by a subject with its reason, if there is one, before others
abbrev pub with_reason : Subject → Rule → Option Reason → List Explained → List Explained
with_reason s r None others = others
with_reason s r (Some why) others = record { violation = record { subject = s; rule = r }; reason = why } ∷ others

-- the rules that do not hold, each once and with the first of its reasons
abbrev pub broken : Subject → Findings → List Explained
broken s [] = []
broken s (f ∷ fs) = with_reason s f.0 (first_true f.1) (broken s fs)

-- the rules that a subject breaks, each with the first of its reasons
abbrev pub explained_at : Rows → Subject → List Explained
explained_at set s = broken s (findings set s)

-- V12 of a pattern, with the reason for one of its rings
abbrev pub broken_sum : ℕ → Reason → Explained
broken_sum n why = record { violation = record { subject = subject.Pattern n; rule = rule.V12 }; reason = why }

-- V12 of a pattern with each ring that does not fill the cycle, without the first of these; nothing unless V9 holds
abbrev pub further_sums : Rows → ℕ → Option Pattern → List Explained
further_sums set n None = []
further_sums set n (Some pattern) =
    if has_rows set pattern then map (broken_sum n) (further (sum_cases set pattern)) else []

-- the rules that a subject breaks, each with the first of its reasons, and then V12 with each further ring that does
-- not fill the cycle
abbrev pub reasons_at : Rows → Subject → List Explained
reasons_at set (subject.Pattern n) =
    explained_at set (subject.Pattern n) ++ further_sums set n (pattern_at set n)
reasons_at set s = explained_at set s

-- the violations that were found, without their reasons
abbrev pub violations_in : List Explained → List Violation
violations_in found = map (λ e. e.violation) found

-- the violations of a subject; none if the set does not have it
abbrev pub violations_at : Rows → Subject → List Violation
violations_at set s = violations_in (explained_at set s)

-- the split rows of a split number, by phase
abbrev pub split_rows : Rows → ℕ → List Subject
split_rows set n = map (λ p. subject.Split n p) (filter (λ p. is_some (split_at set n p)) phase_numbers)

-- the split rows, by split number and then phase
abbrev pub split_subjects : Rows → List Subject
split_subjects set = flat_map (split_rows set) split_numbers

-- the subjects of a set: phases, sequences that have a row, split rows, patterns, each ascending
abbrev pub subjects : Rows → List Subject
subjects set =
    map (λ p. subject.Phase p) (phases set)
    ++ (map (λ n. subject.Seq n) (filter (has_sequence set) sequence_numbers)
    ++ (split_subjects set
    ++ map (λ n. subject.Pattern n) (filter (λ n. is_some (pattern_at set n)) pattern_numbers)))

-- the violations of a set: those of its subjects, in order
unfoldable pub violations_of : Rows → List Violation
violations_of set = flat_map (violations_at set) (subjects set)

-- the violations of a set with their reasons: those of its subjects, in order
unfoldable pub reasons_of : Rows → List Explained
reasons_of set = flat_map (reasons_at set) (subjects set)

-- what was found is all violations of a set with their reasons, in order
abbrev pub AreReasons : Rows → List Explained → Type 0
AreReasons set found = found ≡ reasons_of set

-- a reason is true of a rule on a subject, whether it is the first or not
pub record IsReason (set : Rows) (s : Subject) (r : Rule) (why : Reason) : Type 0 where
  pub cases : Cases Reason
  pub of_rule : Contains (findings set s) (r, cases)
  pub is_true : IsTrueIn cases why
