-- The violations of a timing set as a text.
use Rattle.std.specs.Prelude.{ℕ, List, [], ◌∷◌, ◌++◌, flat_map, codes}
use Rattle.signal_rules.specs.declared.violation.Violation.{Violation}
use Rattle.signal_rules.specs.Texts.{violation_text}

-- the line of a violation: `pattern 1 V13` and a line feed
abbrev pub violation_line : Violation → List ℕ
violation_line violation = violation_text violation ++ codes "\n"

-- a line for each violation, or the one line `no violations`
abbrev pub violations_text : List Violation → List ℕ
violations_text [] = codes "no violations\n"
violations_text (first ∷ others) = flat_map violation_line (first ∷ others)
