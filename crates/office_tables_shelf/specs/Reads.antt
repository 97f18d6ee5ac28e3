-- What is read of a table, and when a stored row is no record, of whichever kind its records are.
use Rattle.std.specs.Prelude.{◌≡◌, ◌≢◌, ℕ, Bool, true, List, Option, None, Some, IfSome}
use Rattle.std.specs.{Option.option_map, FinMap.get}
use Rattle.office_tables_shelf.specs.{Cells.Cell, Content.Content, Content.is_of, Content.rows_at, declared.rows.Table.Table}

-- ---- the rows of a list: those of an intersection, or all of a table

-- a key is of one intersection, or of any where none is given
abbrev pub is_among : Option ℕ → List Cell → Bool
is_among None key = true
is_among (Some id) key = is_of id key

-- ---- records, by the cells of their keys, their other cells and their limits

-- no record within its limits has these key cells and these other cells
abbrev pub IsNoRow : {X : Type 0} → (X → Type 0) → (key_of columns_of : X → List Cell) → (key columns : List Cell) → Type 0
IsNoRow {X} is_within key_of columns_of key columns = (x : X) → is_within x → key ≡ key_of x → columns ≢ columns_of x

-- what is stored under the key is the row that is found, if one is
pub record ReadsRow {X : Type 0} (t : Table) (key_of columns_of : X → List Cell) (tables : Content) (key : List Cell) (found : Option X) : Type 0 where
  pub stored : get (rows_at tables t) key ≡ option_map columns_of found
  pub keyed : IfSome found (λ x. key_of x ≡ key)

-- a row stands under the key that is no record within its limits
pub record HasDamagedUnder {X : Type 0} (t : Table) (is_within : X → Type 0) (key_of columns_of : X → List Cell) (tables : Content) (key : List Cell) : Type 0 where
  pub columns : List Cell
  pub stored : get (rows_at tables t) key ≡ Some columns
  pub no_row : IsNoRow is_within key_of columns_of key columns

-- a row of the table, of one intersection or of any where none is given, is no record within its limits
pub record HasDamagedRow {X : Type 0} (t : Table) (is_within : X → Type 0) (key_of columns_of : X → List Cell) (tables : Content) (whose : Option ℕ) : Type 0 where
  pub key : List Cell
  pub columns : List Cell
  pub of : is_among whose key ≡ true
  pub stored : get (rows_at tables t) key ≡ Some columns
  pub no_row : IsNoRow is_within key_of columns_of key columns
