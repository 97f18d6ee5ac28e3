-- The rules of version 1 of the tables, which had no leading pedestrian interval: today's without V14, with leads of
-- 0.
use Rattle.std.specs.Prelude.{◌≡◌, ℕ, Bool, true, false, not, List, [], ◌∷◌, filter, Option, Some, None, IfSome, option_map}
use Rattle.std.specs.List.{flat_map}
use Rattle.signal_records.specs.declared.record.Ped.{Ped}
use Rattle.signal_records.specs.declared.record.Phase.{Phase}
use Rattle.signal_records.specs.declared.record.Split.{Split}
use Rattle.signal_records.specs.TimingSet.{Rows}
use Rattle.signal_rules.specs.declared.violation.Rule.{Rule}
use Rattle.signal_rules.specs.declared.violation.Rule.TheVariants as rule
use Rattle.signal_rules.specs.declared.violation.Subject.{Subject}
use Rattle.signal_rules.specs.declared.violation.Subject.TheVariants as subject
use Rattle.signal_rules.specs.declared.violation.Violation.{Violation}
use Rattle.signal_rules.specs.Lookup.{phase_at, split_at}
use Rattle.signal_rules.specs.SplitRule.{split_cases}
use Rattle.signal_rules.specs.Violations.{Findings, broken, findings, subjects, violations_in}

-- a phase, if there is one, has no lead
abbrev pub HasNoLead : Option Phase → Type 0
HasNoLead phase = IfSome phase (λ (p : Phase). IfSome p.ped (λ ped. ped.lead ≡ 0))

-- a rule is about the lead: only V14 is
abbrev pub is_of_lead : Rule → Bool
is_of_lead rule.V14 = true
is_of_lead _ = false

-- a pedestrian part with a lead of 0
abbrev pub no_lead : Ped → Ped
no_lead ped = record { walk = ped.walk; clear = ped.clear; width = ped.width; setback = ped.setback; short = ped.short; lead = 0 }

-- a phase whose pedestrian part, if it has one, has a lead of 0
abbrev pub without_lead : Phase → Phase
without_lead p = record { ring = p.ring; min_green = p.min_green; passage = p.passage; max1 = p.max1; yellow = p.yellow; red = p.red; mates = p.mates; ped = option_map no_lead p.ped }

-- V8 of a split row, if there is one, with what its phase needs without a lead
abbrev pub for_split_before : Rows → ℕ → Option Split → Findings
for_split_before set p None = []
for_split_before set p (Some split) = (rule.V8, split_cases p (option_map without_lead (phase_at set p)) split) ∷ []

-- the rules on a subject in version 1: for a phase today's without V14, for a split row V8 with the need without a
-- lead, for a sequence or a pattern today's
abbrev pub findings_before : Rows → Subject → Findings
findings_before set (subject.Phase p) = filter (λ f. not (is_of_lead f.0)) (findings set (subject.Phase p))
findings_before set (subject.Split n p) = for_split_before set p (split_at set n p)
findings_before set s = findings set s

-- the violations of one subject in version 1
abbrev pub violations_before_at : Rows → Subject → List Violation
violations_before_at set s = violations_in (broken s (findings_before set s))

-- the violations of a set in version 1: those of its subjects, in the order of today's violations
unfoldable pub violations_before_lead : Rows → List Violation
violations_before_lead set = flat_map (violations_before_at set) (subjects set)
