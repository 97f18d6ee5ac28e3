use Rattle.std.proofs.Common.{◌≡◌, ◌++◌, codes, string_bytes, take, flat_map}
use Rattle.office_files.specs.Sheet.{split_line}
use Rattle.office_files.proofs.sheet.push_splits.Given as goal

abbrev pub invariant-loop-row : goal.invariant-loop-row
invariant-loop-row l = string_bytes l.text ≡ string_bytes l.fn.text ++ (codes "Splits\n    No Phase  Time  Mode Coord\n" ++ flat_map split_line (take l.row-index l.rows))
