-- When a stored row of an intersection or of its timing is no record.
use Rattle.std.specs.Prelude.{◌≡◌, ◌≢◌, ℕ, List, None, Some}
use Rattle.std.specs.FinMap.{get}
use Rattle.signal_records.specs.{Row.key_of, Within.IsRowWithin, Within.IsChangeWithin, Within.current_limits}
use Rattle.office_tables_shelf.specs.{Cells.Cell, Content.Content, Reads.HasDamagedRow, CabinetReads.IsOfOne, declared.rows.IntersectionRow.IntersectionRow}
use Rattle.office_tables_shelf.specs.Rows.{intersection_key, intersection_columns, timing_key, timing_columns, draft_key, draft_columns, IsIntersectionRow}
use Rattle.office_tables_shelf.specs.declared.rows.Table.TheVariants as table

-- the row of the intersection with this number is damaged: its cells are those of no row within its limits
pub record HasDamagedIntersection (tables : Content) (id : ℕ) : Type 0 where
  pub columns : List Cell
  pub stored : get tables.intersection (intersection_key id) ≡ Some columns
  pub no_row : (row : IntersectionRow) → IsIntersectionRow row → columns ≢ intersection_columns row

-- a row of the intersection table is damaged: its cells are those of no number and row within their limits
abbrev pub HasAnyDamagedIntersection : Content → Type 0
HasAnyDamagedIntersection tables =
    HasDamagedRow table.Intersection (IsOfOne IsIntersectionRow) (λ e. intersection_key e.0)
    (λ e. intersection_columns e.1) tables None

-- a row of the intersection in the timing table is no timing row within its limits, or stands under a key that is not its own
abbrev pub HasDamagedTiming : Content → ℕ → Type 0
HasDamagedTiming tables id =
    HasDamagedRow table.Timing (IsRowWithin current_limits) (λ row. timing_key id (key_of row))
    timing_columns tables (Some id)

-- a row of the intersection in the draft table is no draft row within its limits, or stands under a key that is not its own
abbrev pub HasDamagedDraft : Content → ℕ → Type 0
HasDamagedDraft tables id =
    HasDamagedRow table.Draft (IsChangeWithin current_limits) (draft_key id) draft_columns tables
    (Some id)
