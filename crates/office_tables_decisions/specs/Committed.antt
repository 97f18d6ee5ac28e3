-- The committed set of an intersection, as its rows spell it.
use Rattle.std.specs.Prelude.{◌≡◌, ℕ, List}
use Rattle.std.specs.List.{AllByRecursion}
use Rattle.signal_records.specs.{TimingSet.Rows, TimingSet.set_of_rows, Within.IsRowWithin, Within.current_limits, declared.record.Row.Row}
use Rattle.office_tables_shelf.specs.{Content.Content, Shelf.ListsTiming}

-- the set is made of the committed rows that the tables have of an intersection; each of them is
-- within today's limits
pub record IsCommittedSet (tables : Content) (id : ℕ) (set : Rows) : Type 0 where
  pub rows : List Row
  pub lists : ListsTiming tables id rows
  pub within : AllByRecursion (IsRowWithin current_limits) rows
  pub made : set ≡ set_of_rows rows
