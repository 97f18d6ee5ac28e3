-- How violations are written.
use Rattle.std.specs.Prelude.{ℕ, List, ◌++◌, codes}
use Rattle.std.specs.Fmt.{decimal}
use Rattle.signal_rules.specs.declared.violation.Rule.{Rule}
use Rattle.signal_rules.specs.declared.violation.Rule.TheVariants as rule
use Rattle.signal_rules.specs.declared.violation.Subject.{Subject}
use Rattle.signal_rules.specs.declared.violation.Subject.TheVariants as subject
use Rattle.signal_rules.specs.declared.violation.Violation.{Violation}

-- the number of a rule: 1 to 14
abbrev pub number_of : Rule → ℕ
number_of rule.V1 = 1
number_of rule.V2 = 2
number_of rule.V3 = 3
number_of rule.V4 = 4
number_of rule.V5 = 5
number_of rule.V6 = 6
number_of rule.V7 = 7
number_of rule.V8 = 8
number_of rule.V9 = 9
number_of rule.V10 = 10
number_of rule.V11 = 11
number_of rule.V12 = 12
number_of rule.V13 = 13
number_of rule.V14 = 14

-- the name of a rule, as `V13`
abbrev pub rule_text : Rule → List ℕ
rule_text r = codes "V" ++ decimal (number_of r)

-- the kind and the numbers of a subject: `phase 2`, `sequence 1`, `split 1 8`, `pattern 1`
abbrev pub subject_text : Subject → List ℕ
subject_text (subject.Phase p) = codes "phase " ++ decimal p
subject_text (subject.Seq n) = codes "sequence " ++ decimal n
subject_text (subject.Split n p) = codes "split " ++ decimal n ++ codes " " ++ decimal p
subject_text (subject.Pattern n) = codes "pattern " ++ decimal n

-- a subject and the rule that it breaks, as `pattern 1 V13`
abbrev pub violation_text : Violation → List ℕ
violation_text v = subject_text v.subject ++ codes " " ++ rule_text v.rule
