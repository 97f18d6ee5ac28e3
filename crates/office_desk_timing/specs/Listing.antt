-- What is listed of the intersections that the tables hold.
use Rattle.std.specs.Prelude.{◌≡◌, ℕ, List, length, map}
use Rattle.office_tables_shelf.specs.{Content.Content, Shelf.ListsIntersections, Shelf.rows_of, declared.rows.IntersectionRow.IntersectionRow}
use Rattle.office_machine.specs.declared.intersections.ListedIntersection.{ListedIntersection}

-- what is listed of the intersection with this number and row, with how many committed rows the tables hold of it
abbrev pub listed_in : Content → ℕ × IntersectionRow → ListedIntersection
listed_in tables e = record {
  id = e.0;
  name = e.1.name;
  interval = e.1.interval;
  revision = e.1.revision;
  holder = e.1.holder;
  rows = length (rows_of e.0 tables.timing);
}

-- the list has one element for each row of the table of intersections, in the order of their numbers
pub record ListsEachIntersection (tables : Content) (found : List ListedIntersection) : Type 0 where
  pub rows : List (ℕ × IntersectionRow)
  pub lists : ListsIntersections tables rows
  pub found_is : found ≡ map (listed_in tables) rows
