-- How a table keeps records of one kind, and what is gathered of them.
use Rattle.std.specs.Prelude.{ℕ, List, Option}
use Rattle.std.specs.List.{AllByRecursion}
use Rattle.office_tables_shelf.specs.{Cells.Cell, Content.Content, declared.rows.Table.Table}
use Rattle.office_tables_statements.specs.Tables.{HasDamagedRow, ListsRows}

-- the table; the intersection whose records a list shows, or none where it shows all; the key cells of a record, its other cells, and its limits
pub record Kept (Of X : Type 0) : Type 1 where
  pub table : Table
  pub whose : Of → Option ℕ
  pub key : Of → X → List Cell
  pub columns : X → List Cell
  pub is_within : X → Type 0

-- a table with these
abbrev pub keep : {Of X : Type 0} → Table → (Of → Option ℕ) → (Of → X → List Cell) → (X → List Cell) → (X → Type 0) → Kept Of X
keep table whose key columns is_within = record { table = table; whose = whose; key = key; columns = columns; is_within = is_within }

-- a row that a list shows is no record
abbrev pub HasStoredDamage : {Of X : Type 0} → Kept Of X → Of → Content → Type 0
HasStoredDamage kept of tables = HasDamagedRow kept.table kept.is_within (kept.key of) kept.columns tables (kept.whose of)

-- the rows of a list, in the order of their keys, are those of records, each within its limits, and what was gathered holds what is to be known of these
pub record Gathers {Of X G : Type 0} (holds : G → List X → Type 0) (kept : Kept Of X) (of : Of) (tables : Content) (found : G) : Type 0 where
  pub records : List X
  pub held : holds found records
  pub within : AllByRecursion kept.is_within records
  pub lists : ListsRows kept.table (kept.key of) kept.columns tables (kept.whose of) records
