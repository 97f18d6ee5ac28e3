use Rattle.std.proofs.Common.{◌≡◌, string_bytes, take, flat_map}
use Rattle.office_files.specs.Violations.{violation_line}
use Rattle.office_files.proofs.violations.violation_text.Given as goal

-- the lines so far
abbrev pub invariant-loop-violation : goal.invariant-loop-violation
invariant-loop-violation l =
    string_bytes l.text ≡ flat_map violation_line (take l.violation-index l.violations)
