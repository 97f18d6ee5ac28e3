-- The rows of version 1 in the cells of `timing` and `draft`, and what is put in their place.
use Rattle.std.specs.Prelude.{◌≡◌, ℕ, Bool, false, List, ◌++◌, filter, map, length, None, is_some}
use Rattle.std.specs.List.{AllByRecursion}
use Rattle.sqlite.specs.Order.{Row as SqlRow}
use Rattle.sqlite_rules.specs.Lists.{Has}
use Rattle.signal_records.specs.{Within.IsChangeWithin, Within.version_1_limits, declared.record.Change.Change, declared.record.Change.TheVariants.Put, declared.record.Change.TheVariants.Remove, ChangedRows.left_by}
use Rattle.office_tables_shelf.specs.{CabinetReads.IsOfOne, Cells.Cell, Content.Content, Reads.HasDamagedRow, Reads.IsNoRow, Rows.draft_key, Rows.left_columns_in, declared.rows.RowChange.RowChange, declared.rows.RowChange.TheVariants.PutTiming, declared.rows.RowChange.TheVariants.PutDraft, declared.rows.Table.Table}
use Rattle.office_tables_statements.specs.Tables.{columns_shown, key_shown, stored_for, width_of}
use Rattle.office_tables.specs.declared.rewritten.Spelled.{Spelled, TheVariants.Timing, TheVariants.Draft}
use Rattle.signal_records.specs.declared.record.Row.TheVariants as row
use Rattle.office_tables_shelf.specs.declared.rows.Table.TheVariants as table

-- a row or a removal of an intersection, as `timing` or `draft` keeps it
abbrev pub KeptRow : Type 0
KeptRow = ℕ × Change

-- the table whose rows are spelled anew
abbrev pub spelled_table : Spelled → Table
spelled_table Timing = table.Timing
spelled_table Draft = table.Draft

-- the key cells of a row or a removal that a table keeps under an intersection
abbrev pub kept_key : KeptRow → List Cell
kept_key kept = draft_key kept.0 kept.1

-- its cells beside the key in version 1
abbrev pub former_columns : KeptRow → List Cell
former_columns kept = left_columns_in version_1_limits (left_by kept.1)

-- a row or a removal that a table could keep in version 1; `timing` kept no removals
abbrev pub IsFormerChange : Spelled → Change → Type 0
IsFormerChange Timing (Remove key) = ⊥
IsFormerChange _ change = IsChangeWithin version_1_limits change

-- it could be kept of an intersection
abbrev pub IsFormer : Spelled → KeptRow → Type 0
IsFormer t = IsOfOne (IsFormerChange t)

-- version 1 kept these rows and removals in these cells of the table
pub record AreKept (t : Spelled) (cells : List (List Cell × List Cell)) (kept : List KeptRow) : Type 0 where
  pub stored : map (stored_for kept_key former_columns) kept ≡ cells
  pub within : AllByRecursion (IsFormer t) kept

-- cells stand in the table in which version 1 kept no row and no removal
abbrev pub HasFormerDamage : Spelled → Content → Type 0
HasFormerDamage t tables = HasDamagedRow (spelled_table t) (IsFormer t) kept_key former_columns tables None

-- if the shown rows are as wide as the table, one of them has cells in which version 1 kept nothing
abbrev pub ShowsDamage : Spelled → List SqlRow → Type 0
ShowsDamage t rows =
    (row : SqlRow) × Has rows row
    × (length row ≡ width_of (spelled_table t) → IsNoRow (IsFormer t) kept_key former_columns (key_shown (spelled_table t) row) (columns_shown (spelled_table t) row))

-- the change puts the row of a phase with a pedestrian part: no other row is spelled otherwise
-- today than in version 1
abbrev pub has_ped : Change → Bool
has_ped (Put (row.Phase p phase)) = is_some phase.ped
has_ped _ = false

-- the change that puts a row that version 1 kept in a table there again
abbrev pub put_again : Spelled → KeptRow → RowChange
put_again Timing (id, Put r) = PutTiming id r
put_again _ (id, change) = PutDraft id change

-- what a migration writes for the rows and removals of a table, in their order: those rows that are spelled otherwise
-- today
abbrev pub puts : Spelled → List KeptRow → List RowChange
puts t kept = map (put_again t) (filter (λ k. has_ped k.1) kept)

-- the changes that put the rows in these cells again were appended
pub record Puts (t : Spelled) (cells : List (List Cell × List Cell)) (old new : List RowChange) : Type 0 where
  pub kept : List KeptRow
  pub are : AreKept t cells kept
  pub appended : new ≡ old ++ puts t kept
