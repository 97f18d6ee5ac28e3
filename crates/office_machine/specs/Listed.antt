-- The list of all intersections.
use Rattle.std.specs.Prelude.{ℕ, List, map}
use Rattle.std.specs.{Option.option_map, FinMap.entries, FinMap.len}
use Rattle.draft_core.specs.Transaction.{holder_of}
use Rattle.office_machine.specs.{declared.intersections.ListedIntersection.ListedIntersection, Office.Office, Office.Intersection}

-- what the list of all intersections shows of an intersection, given with its number
abbrev pub intersection_listed : ℕ × Intersection → ListedIntersection
intersection_listed e = record {
  id = e.0;
  name = e.1.name;
  interval = e.1.interval;
  revision = e.1.timing.revision;
  holder = option_map holder_of e.1.timing.draft;
  rows = len e.1.timing.committed;
}

-- the list of all intersections of an office, in ascending order of their numbers
abbrev pub intersections_of : Office → List ListedIntersection
intersections_of office = map intersection_listed (entries office.intersections)
