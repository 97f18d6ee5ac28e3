-- Which office the tables stand for.
use Rattle.std.specs.Prelude.{◌≡◌, ℕ, List, Option, Some, None}
use Rattle.std.specs.{Option.option_map, FinMap.entries, FinMap.get}
use Rattle.signal_records.specs.{Row.key_of, Within.IsRowWithin, Within.IsKeyWithin, Within.current_limits, declared.key.Key.Key, declared.limits.Limits.Limits}
use Rattle.draft_core.specs.Transaction.{TimingSide, holder_of}
use Rattle.draft_core.specs.DraftRows.{Said, silent, leaves, removes, RowStands}
use Rattle.office_tables_shelf.specs.{Cells.Cell, Cells.TableRows, Cells.tree_rows, Content.Content, declared.rows.IntersectionRow.IntersectionRow, RegisterStands.RegisterStands}
use Rattle.office_tables_shelf.specs.Rows.{intersection_key, intersection_columns, timing_key, timing_columns_in, left_columns_in}
use Rattle.office_machine.specs.Office.{Office, Intersection, Version, IsSoundIn, side_at, today}

-- what the row of an intersection holds: its name, its interval, its revision, and the owner and the stage of its draft, if it has one
abbrev pub row_of : Intersection → IntersectionRow
row_of i = record { name = i.name; interval = i.interval; revision = i.timing.revision; holder = option_map holder_of i.timing.draft }

-- the cells of an intersection's row beside its key
abbrev pub columns_of : Intersection → List Cell
columns_of i = intersection_columns (row_of i)

-- the cells are the key of a timing row or a draft row of some intersection
abbrev pub IsTimingKey : List Cell → Type 0
IsTimingKey cells = (id : ℕ) × (key : Key) × (cells ≡ timing_key id key)

-- every row of the table stands under the key of a timing row or a draft row of some intersection
abbrev pub HasTimingKeys : TableRows → Type 0
HasTimingKeys rows = (cells columns : List Cell) → get rows cells ≡ Some columns → IsTimingKey cells

-- a draft row keeps a row within its limits, under its own key, or the removal of a key
abbrev pub IsSaidIn : Version → Key → Said → Type 0
IsSaidIn v key silent = Unit {0}
IsSaidIn v key (leaves row) = IsRowWithin v.limits row × (key_of row ≡ key)
IsSaidIn v key removes = IsKeyWithin v.limits key

-- what a draft row says of a key is within the limits of today
abbrev pub IsSaid : Key → Said → Type 0
IsSaid = IsSaidIn today

-- the cells of a draft row beside its key, as a version spells it; none where no draft row stands
abbrev pub said_columns_in : Limits → Said → Option (List Cell)
said_columns_in limits silent = None
said_columns_in limits (leaves row) = Some (left_columns_in limits (Some row))
said_columns_in limits removes = Some (left_columns_in limits None)

-- the cells of a draft row beside its key, as today spells it; none where no draft row stands
abbrev pub said_columns : Said → Option (List Cell)
said_columns = said_columns_in current_limits

-- the draft table has at a key of an intersection what the draft of its timing side says of it, as a version spells it
pub record DraftRowStandsIn (v : Version) (tables : Content) (side : TimingSide) (id : ℕ) (key : Key) : Type 0 where
  pub said : Said
  pub stored : get tables.draft (timing_key id key) ≡ said_columns_in v.limits said
  pub stands : RowStands (get side.committed key) said side.draft key
  pub within : IsSaidIn v key said

-- the draft table has at a key of an intersection what the draft of its timing side says of it, as today spells it
abbrev pub DraftRowStands : Content → TimingSide → ℕ → Key → Type 0
DraftRowStands = DraftRowStandsIn today

-- the tables hold the rows of the office as a version writes them, and no others
pub record StandForIn (v : Version) (tables : Content) (office : Office) : Type 0 where
  pub intersection : tables.intersection ≡ tree_rows intersection_key columns_of (entries office.intersections)
  pub timing : (id : ℕ) (key : Key) → get tables.timing (timing_key id key) ≡ option_map (timing_columns_in v.limits) (get (side_at office id).committed key)
  pub timing_keys : HasTimingKeys tables.timing
  pub draft : (id : ℕ) (key : Key) → DraftRowStandsIn v tables (side_at office id) id key
  pub draft_keys : HasTimingKeys tables.draft
  pub register : RegisterStands tables office.register

-- the tables represent an office, as today spells its rows
abbrev pub StandFor : Content → Office → Type 0
StandFor = StandForIn today

-- the tables of a version stand for an office that is sound in it
pub record StandForSoundIn (v : Version) (tables : Content) (office : Office) : Type 0 where
  pub stand : StandForIn v tables office
  pub sound : IsSoundIn v office

-- the tables represent an office that is sound by the rules of today
abbrev pub StandForSound : Content → Office → Type 0
StandForSound = StandForSoundIn today
