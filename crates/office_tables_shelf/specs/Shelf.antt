-- What the contracts of a shelf say: what a call that reads keeps, and which intersections and rows of plans it gives.
use Rattle.std.specs.Prelude.{◌≡◌, ℕ, List, map, length, Option, IsSome, Result, Ok, Err, IfOk, Vec, ⊤}
use Rattle.std.specs.{List.AllByRecursion, Option.option_map, FinMap.get, FinMap.entries, FinMap.Entries.where_key}
use Rattle.signal_records.specs.{Row.key_of, declared.record.Row.Row, declared.record.Change.Change}
use Rattle.office_tables_shelf.specs.{Cells.Cell, Cells.TableRows, Cells.cells_cmp, Content.Content, declared.rows.IntersectionRow.IntersectionRow, declared.counts.WriteCounts.WriteCounts, declared.shelf.ShelfFault.ShelfFault, declared.shelf.ShelfFault.TheVariants.Damaged}
pub use Rattle.office_tables_shelf.specs.Content.{is_of}
use Rattle.office_tables_shelf.specs.Rows.{intersection_key, intersection_columns, timing_key, timing_columns, draft_key, draft_columns}

-- A call that only reads: the disk is no more honest than it was, and the tables, the counts and what a crash may leave stay.
-- What a crash may leave stays also where a failure shut the database.
pub record IsKept {S : Type 0} (is_honest : S → Type 0) (content : S → Content) (written : S → WriteCounts) (may_leave : S → Content → Type 0) (old new : S) : Type 0 where
  pub honest_before : is_honest new → is_honest old
  pub same_content : is_honest new → content new ≡ content old
  pub same_counts : written new ≡ written old
  pub same_outcomes : (tables : Content) → may_leave new tables → may_leave old tables

-- the call answered, or told that a stored row is no record
abbrev pub IsTold : {A : Type 0} → Result A ShelfFault → Type 0
IsTold (Ok found) = ⊤
IsTold (Err why) = why ≡ Damaged

-- A call reads and writes nothing. Nothing makes a disk clean again. What answers, or tells a damaged row, was open and stays so; one that a failure has shut
-- refuses each later read.
pub record Looks {S A : Type 0} (is_clean is_honest : S → Type 0) (content : S → Content) (written : S → WriteCounts) (may_leave : S → Content → Type 0)
    (result : Result A ShelfFault) (old new : S) : Type 0 where
  pub kept : IsKept is_honest content written may_leave old new
  pub clean_before : is_clean new → is_clean old
  pub told : is_clean new → IsTold result → is_honest new

-- A read of an open database gives a list of which this is true, each item of it within its limits; or it reports a damaged row, which is one that it reads.
pub record GivesList {X A : Type 0} (is_honest : Type 0) (Says : List X → Type 0) (Within : X → Type 0) (damage : Type 0) (result : Result (Vec X A) ShelfFault) : Type 0 where
  pub rows : IfOk result (λ found. is_honest → Says found.items)
  pub within : IfOk result (λ found. is_honest → AllByRecursion Within found.items)
  pub damaged : result ≡ Err Damaged → is_honest → damage

-- the cells that stand under an intersection's number are those of the row; where there is no row, none stand there
abbrev pub ReadsIntersection : Content → ℕ → Option IntersectionRow → Type 0
ReadsIntersection tables id row = get tables.intersection (intersection_key id) ≡ option_map intersection_columns row

-- the rows of an intersection in a table, in the order of their keys: the key cells of each, and its other cells
abbrev pub rows_of : ℕ → TableRows → List (List Cell × List Cell)
rows_of id rows = where_key cells_cmp (is_of id) (entries rows)

-- a row of an intersection stands under the number, be it a record or not
abbrev pub IsThere : Content → ℕ → Type 0
IsThere tables id = IsSome (get tables.intersection (intersection_key id))

-- the rows of all intersections, in the order of their numbers, are those of the list
abbrev pub ListsIntersections : Content → List (ℕ × IntersectionRow) → Type 0
ListsIntersections tables rows = map (λ e. (intersection_key e.0, intersection_columns e.1)) rows ≡ entries tables.intersection

-- the committed rows of the intersection, in the order of their keys, are those of the list
abbrev pub ListsTiming : Content → ℕ → List Row → Type 0
ListsTiming tables id rows = map (λ row. (timing_key id (key_of row), timing_columns row)) rows ≡ rows_of id tables.timing

-- the count is that of the committed rows of the intersection
abbrev pub CountsTiming : Content → ℕ → ℕ → Type 0
CountsTiming tables id count = count ≡ length (rows_of id tables.timing)

-- the draft rows of the intersection, in the order of their keys, are those of the list
abbrev pub ListsDraft : Content → ℕ → List Change → Type 0
ListsDraft tables id changes = map (λ change. (draft_key id change, draft_columns change)) changes ≡ rows_of id tables.draft
