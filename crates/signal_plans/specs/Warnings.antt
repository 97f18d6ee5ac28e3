-- The warnings of a plan: what an engineer is told besides the rules. A warning refuses nothing.
use Rattle.std.specs.Prelude.{ℕ, if◌then◌else◌, List, [], ◌∷◌, ◌++◌, Option, Some, None}
use Rattle.std.specs.List.{flat_map}
use Rattle.signal_records.specs.declared.record.Phase.{Phase}
use Rattle.signal_records.specs.declared.record.Pattern.{Pattern}
use Rattle.signal_records.specs.declared.record.Split.{Split}
use Rattle.signal_records.specs.TimingSet.{Rows}
use Rattle.signal_rules.specs.declared.violation.Subject.{Subject}
use Rattle.signal_rules.specs.declared.violation.Subject.TheVariants as subject
use Rattle.signal_rules.specs.Cases.{Cases}
use Rattle.signal_rules.specs.Lookup.{phase_at, split_at, pattern_at}
use Rattle.signal_rules.specs.Violations.{subjects, split_rows}
use Rattle.signal_plans.specs.declared.warning.Advice.{Advice}
use Rattle.signal_plans.specs.declared.warning.Scope.{Scope}
use Rattle.signal_plans.specs.declared.warning.Scope.TheVariants as scope
use Rattle.signal_plans.specs.declared.warning.Warning.{Warning}
use Rattle.signal_plans.specs.PhaseWarnings.{phase_cases, crossing_warnings}
use Rattle.signal_plans.specs.SplitWarnings.{split_warnings}
use Rattle.signal_plans.specs.PatternWarnings.{coordination_advice, crowding_advice}
use Rattle.signal_plans.specs.PlanWarnings.{plan_cases}

-- the warning of a subject with a piece of advice, if there is one
abbrev pub warning_of : Scope → Option Advice → List Warning
warning_of s None = []
warning_of s (Some advice) = record { subject = s; advice = advice } ∷ []

-- a warning for each of some cases that holds, in their order
abbrev pub told_cases : Scope → Cases Advice → List Warning
told_cases s [] = []
told_cases s (c ∷ cs) = if c.0 then record { subject = s; advice = c.1 } ∷ told_cases s cs else told_cases s cs

-- the warnings of a phase, if there is one: those of the phase itself, and then those of its crossing
abbrev pub phase_warnings : Rows → ℕ → Option Phase → List Warning
phase_warnings set p None = []
phase_warnings set p (Some phase) =
    told_cases (scope.Subject (subject.Phase p)) (phase_cases set p phase)
    ++ told_cases (scope.Subject (subject.Phase p)) (crossing_warnings phase.ped)

-- the warnings of a split row, if there is one
abbrev pub row_warnings : Rows → ℕ → ℕ → Option Split → List Warning
row_warnings set n p None = []
row_warnings set n p (Some split) =
    told_cases (scope.Subject (subject.Split n p)) (split_warnings (phase_at set p) split)

-- the warnings of a pattern itself, without those of its split rows, if there is one
abbrev pub pattern_warnings : Rows → ℕ → Option Pattern → List Warning
pattern_warnings set n None = []
pattern_warnings set n (Some pattern) =
    warning_of (scope.Subject (subject.Pattern n)) (coordination_advice set pattern)
    ++ warning_of (scope.Subject (subject.Pattern n)) (crowding_advice set pattern)

-- the warnings of a subject; a sequence has none
abbrev pub warnings_at : Rows → Subject → List Warning
warnings_at set (subject.Phase p) = phase_warnings set p (phase_at set p)
warnings_at set (subject.Seq n) = []
warnings_at set (subject.Split n p) = row_warnings set n p (split_at set n p)
warnings_at set (subject.Pattern n) = pattern_warnings set n (pattern_at set n)

-- the warnings of a set: those of its phases, then of its split rows and of its patterns, each ascending, and then those of the
-- plan as a whole
unfoldable pub warnings_of : Rows → List Warning
warnings_of set = flat_map (warnings_at set) (subjects set) ++ told_cases scope.Plan (plan_cases set)

-- the subjects that a pattern runs by, if there is one: the rows of its split number (patternSplitNumber) and the pattern itself
abbrev pub pattern_subjects : Rows → ℕ → Option Pattern → List Subject
pattern_subjects set n None = []
pattern_subjects set n (Some pattern) = split_rows set pattern.split ++ subject.Pattern n ∷ []

-- the warnings of a pattern: those of the subjects that it runs by, the split rows by ascending phase and then the pattern itself
unfoldable pub warnings_of_pattern : Rows → ℕ → List Warning
warnings_of_pattern set n = flat_map (warnings_at set) (pattern_subjects set n (pattern_at set n))
