-- The report of the intersections whose inspection is overdue.
use Rattle.std.specs.Prelude.{ℕ, List, ◌++◌, length, flat_map, codes, decimal, Option, Some, None}
use Rattle.cabinet_core.specs.Day.{day_text}
use Rattle.cabinet_core.specs.declared.overdue_inspections.OverdueRow.{OverdueRow}
use Rattle.office_files.specs.Cells.{right_aligned}

-- the day on which an inspection fell due, as `YYYY-MM-DD`, or `never` and five spaces if there never was one: ten
-- bytes
abbrev pub due_written : Option ℕ → List ℕ
due_written None = codes "never     "
due_written (Some due) = day_text due

-- the line of an overdue intersection: `  12  2027-03-01  Main St`
abbrev pub overdue_line : OverdueRow → List ℕ
overdue_line row =
    right_aligned 4 (decimal row.id) ++ codes "  " ++ due_written row.due ++ codes "  " ++ row.name ++ codes "\n"

-- the report of a day: the heading with the day, a line for each overdue intersection, in order, and their count
abbrev pub overdue_report : ℕ → List OverdueRow → List ℕ
overdue_report day rows =
    codes "Overdue on " ++ day_text day ++ codes "\n" ++ flat_map overdue_line rows
    ++ codes "Count " ++ decimal (length rows) ++ codes "\n"
