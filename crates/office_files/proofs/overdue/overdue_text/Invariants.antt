use Rattle.std.proofs.Common.{◌≡◌, ◌++◌, codes, string_bytes, take, flat_map}
use Rattle.cabinet_core.specs.Day.{day_text}
use Rattle.office_files.specs.Overdue.{overdue_line}
use Rattle.office_files.proofs.overdue.overdue_text.Given as goal

abbrev pub invariant-loop-row : goal.invariant-loop-row
invariant-loop-row l =
    string_bytes l.text ≡ codes "Overdue on " ++ day_text l.fn.day ++ codes "\n" ++ flat_map overdue_line (take l.row-index l.rows)
