-- The intersections that are overdue on a day, as the tables hold them.
use Rattle.std.specs.Prelude.{◌≡◌, ◌⊎◌, ℕ, ◌==◌, List, map, take, Option}
use Rattle.std.specs.{List.AllByRecursion, Map.lookup}
use Rattle.cabinet_core.specs.{Overdue.latest_day, Overdue.listed_of, Overdue.overdue_list, Within.IsInspectionWithin, declared.overdue_inspections.OverdueRow.OverdueRow, declared.overdue_inspections.Seen.Seen, declared.record.Inspection.Inspection}
use Rattle.office_tables_shelf.specs.{CabinetReads.HasAnyDamagedInspection, CabinetReads.ListsInspections, Content.Content, Damage.HasAnyDamagedIntersection, Shelf.ListsIntersections, declared.rows.IntersectionRow.IntersectionRow}

-- each row of the intersection's inspections is an inspection within its limits, and this is the latest day of them, if there are any
pub record ReadsLast (tables : Content) (id : ℕ) (last : Option ℕ) : Type 0 where
  pub inspections : List Inspection
  pub lists : ListsInspections tables id inspections
  pub within : AllByRecursion IsInspectionWithin inspections
  pub latest : last ≡ latest_day inspections

-- the day that a list has for an intersection
abbrev pub last_day_in : List (ℕ × ℕ) → ℕ → Option ℕ
last_day_in days id = lookup (λ n. n == id) days

-- ---- what is seen

-- what is known of an intersection with this row, that was last inspected on this day
abbrev pub seen_row : ℕ → IntersectionRow → Option ℕ → Seen
seen_row id row last = record { id = id; name = row.name; interval = row.interval; last = last }

-- what is known of an intersection with this number and row, that was last inspected on the day that a list has for it
abbrev pub seen_on : List (ℕ × ℕ) → ℕ × IntersectionRow → Seen
seen_on days e = seen_row e.0 e.1 (last_day_in days e.0)

-- ---- the list

-- The rows are the first so many of the intersections that are overdue on a day, of all that the tables hold, each
-- last inspected on the latest day of the inspections that they hold of it.
pub record ListsOverdue (tables : Content) (day most : ℕ) (found : List OverdueRow) : Type 0 where
  pub rows : List (ℕ × IntersectionRow)
  pub days : List (ℕ × ℕ)
  pub lists : ListsIntersections tables rows
  pub last : (id : ℕ) → ReadsLast tables id (last_day_in days id)
  pub first : map listed_of found ≡ take most (overdue_list day (map (seen_on days) rows))

-- ---- damage

-- a row of the intersection table or of the inspection table is no record
abbrev pub HasOverdueDamage : Content → Type 0
HasOverdueDamage tables = HasAnyDamagedIntersection tables ⊎ HasAnyDamagedInspection tables
