use Rattle.std.proofs.Common.{◌≡◌, ◌++◌, codes, string_bytes, take, flat_map}
use Rattle.office_files.specs.Sheet.{pattern_line}
use Rattle.office_files.proofs.sheet.push_patterns.Given as goal

abbrev pub invariant-loop-row : goal.invariant-loop-row
invariant-loop-row l = string_bytes l.text ≡ string_bytes l.fn.text ++ (codes "Patterns\n    No Cycle  Offs Split   Seq\n" ++ flat_map pattern_line (take l.row-index l.rows))
