use Rattle.std.proofs.Common.{◌≡◌, ◌++◌, codes, string_bytes, take, flat_map}
use Rattle.office_files.specs.Sheet.{phase_line}
use Rattle.office_files.proofs.sheet.push_phases.Given as goal

abbrev pub invariant-loop-row : goal.invariant-loop-row
invariant-loop-row l = string_bytes l.text ≡ string_bytes l.fn.text ++ (codes "Phases\n    No  Ring   Min  Pass   Max   Yel   Red  Walk Clear Width Setbk Short  Lead Mates\n" ++ flat_map phase_line (take l.row-index l.rows))
