-- How the rows of the tables are stored, cell by cell, and which of them are records.
use Rattle.std.specs.Prelude.{ℕ, ◌≤◌, pos, List, [], ◌∷◌, Option, Some, None, IfSome}
use Rattle.std.specs.List.{join_with_byte}
use Rattle.signal_records.specs.{Key.kind_of, Key.first_of, Key.second_of, Spelling.spelling, Within.current_limits, declared.key.Key.Key, declared.limits.Limits.Limits, declared.record.Row.Row, declared.record.Change.Change, declared.state.Stage.Stage, declared.state.Stage.TheVariants.Transaction, declared.state.Stage.TheVariants.Verify, declared.state.Stage.TheVariants.Done, declared.state.Holder.Holder, declared.revision.TheConstants.LAST_REVISION, ChangedRows.changed_key, ChangedRows.left_by}
use Rattle.signal_values.specs.Words.{AreWords}
use Rattle.office_tables_shelf.specs.Cells.{Cell, null, number, text}
use Rattle.office_tables_shelf.specs.declared.rows.IntersectionRow.{IntersectionRow}

-- the number of a stage in the column `state`: 1 Transaction, 2 Verify, 3 Done
abbrev pub stage_number : Stage → ℕ
stage_number Transaction = 1
stage_number Verify = 2
stage_number Done = 3

-- the number of a state in the intersection table: 0 Normal, 1 Transaction, 2 Verify, 3 Done
abbrev pub state_number : Option Holder → ℕ
state_number None = 0
state_number (Some holder) = stage_number holder.stage

-- the cell of the column `owner`: the name of the clerk who holds a draft, null in state Normal
abbrev pub owner_cell : Option Holder → Cell
owner_cell None = null
owner_cell (Some holder) = text holder.owner

-- the key cells of an intersection's row: its number
abbrev pub intersection_key : ℕ → List Cell
intersection_key id = number (pos id) ∷ []

-- the other cells of an intersection's row: its name, its interval in days, its revision, the number of its state, and the owner of its draft
abbrev pub intersection_columns : IntersectionRow → List Cell
intersection_columns row =
    text row.name ∷ number (pos row.interval) ∷ number (pos row.revision) ∷ number (pos (state_number row.holder)) ∷ owner_cell row.holder ∷ []

-- ---- timing and draft rows: intersection, kind, the numbers of the key

-- the key cells of a row of a plan: its intersection, kind and two numbers
abbrev pub timing_key : ℕ → Key → List Cell
timing_key id key = number (pos id) ∷ number (pos (kind_of key)) ∷ number (pos (first_of key)) ∷ number (pos (second_of key)) ∷ []

-- the fields of a row, as the version with these limits spells them, with a comma between
unfoldable pub body_in : Limits → Row → List ℕ
body_in limits row = join_with_byte 44 (spelling limits row)

-- the fields of a row, as today's version spells them, with a comma between
abbrev pub body_of : Row → List ℕ
body_of row = body_in current_limits row

-- the cells of a committed row beside its key, as the version with these limits spells it
abbrev pub timing_columns_in : Limits → Row → List Cell
timing_columns_in limits row = text (body_in limits row) ∷ []

-- the cells of a committed row beside its key, as today's version spells it
abbrev pub timing_columns : Row → List Cell
timing_columns = timing_columns_in current_limits

-- the cells of a draft row beside its key, by the row that it leaves there, as the version with these limits spells it; null is a removal
abbrev pub left_columns_in : Limits → Option Row → List Cell
left_columns_in limits None = null ∷ []
left_columns_in limits (Some row) = timing_columns_in limits row

-- the cells of a draft row beside its key, as today's version spells what it leaves
abbrev pub left_columns : Option Row → List Cell
left_columns = left_columns_in current_limits

-- the key cells of a draft row, by its change
abbrev pub draft_key : ℕ → Change → List Cell
draft_key id change = timing_key id (changed_key change)

-- the cells of a draft row beside its key, by its change
abbrev pub draft_columns : Change → List Cell
draft_columns change = left_columns (left_by change)

-- ---- limits

-- the row of an intersection is within its limits: name to 120 bytes, interval 1 to 3650 days, revision to 999,999, owner to 40 bytes
pub record IsIntersectionRow (row : IntersectionRow) : Type 0 where
  pub name : AreWords 120 row.name
  pub interval_low : 1 ≤ row.interval
  pub interval_high : row.interval ≤ 3650
  pub revision : row.revision ≤ LAST_REVISION
  pub owner : IfSome row.holder (λ holder. AreWords 40 holder.owner)
