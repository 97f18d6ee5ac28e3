use Rattle.std.proofs.Common.{◌≡◌, ◌++◌, codes, string_bytes, take, flat_map}
use Rattle.office_files.specs.Sheet.{sequence_line}
use Rattle.office_files.proofs.sheet.push_sequences.Given as goal

abbrev pub invariant-loop-row : goal.invariant-loop-row
invariant-loop-row l = string_bytes l.text ≡ string_bytes l.fn.text ++ (codes "Sequences\n    No  Ring Phases\n" ++ flat_map sequence_line (take l.row-index l.rows))
