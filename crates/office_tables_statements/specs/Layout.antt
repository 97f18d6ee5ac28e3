-- Where each table keeps its key and its other columns.
use Rattle.std.specs.Prelude.{ℕ, suc, Bool, List, [], ◌∷◌, drop, length, map}
use Rattle.sqlite.specs.Order.{Row, column}
use Rattle.sqlite_schema.specs.{Rules.agree, declared.schema.Table.Table as SqlTable}
use Rattle.sqlite_value.specs.Keys.{plain}
use Rattle.office_tables_shelf.specs.declared.rows.Table.{Table}
use Rattle.office_tables_statements.specs.Schema.{table_in_place, version_table}
use Rattle.office_tables_shelf.specs.declared.rows.Table.TheVariants as table

-- where a table keeps its rows: its tree, the places of its key and of its other columns in a stored row, whose
-- rowid is at place 0, and the places of the cells of a key that stands by itself
pub record Layout : Type 0 where
  pub tree : ℕ
  pub keys : List ℕ
  pub places : List ℕ
  pub columns : List ℕ

-- as many places as the list has members, one after another from this one on
abbrev pub places_from : {X : Type 0} → ℕ → List X → List ℕ
places_from n [] = []
places_from n (x ∷ xs) = n ∷ places_from (suc n) xs

-- Where a table keeps its key and its other columns. The columns of the key are the first ones, and column n is at
-- place n + 1; a key that is the rowid is at place 0.
abbrev pub layout_of : SqlTable → Layout
layout_of t = record {
  tree = t.tree;
  keys = t.primary;
  places = places_from 0 t.primary;
  columns = places_from (suc (length t.primary)) (drop (length t.primary) t.columns);
}

-- the table of the schema for one of the eight
abbrev pub schema_at : Table → SqlTable
schema_at table.Intersection = table_in_place 0
schema_at table.Timing = table_in_place 1
schema_at table.Draft = table_in_place 2
schema_at table.Inspection = table_in_place 3
schema_at table.WorkOrder = table_in_place 4
schema_at table.Part = table_in_place 5
schema_at table.Delivery = table_in_place 6
schema_at table.UsedPart = table_in_place 7

-- the layout of a table
abbrev pub layout_at : Table → Layout
layout_at t = layout_of (schema_at t)

-- where the table `office_version` has its key and its column of the version
abbrev pub office_version : Layout
office_version = layout_of version_table

-- the values of a row at some places
abbrev pub values_at : List ℕ → Row → Row
values_at places row = map (column row) places

-- the row has this key in a table, as SQL's = compares
abbrev pub has_key : Layout → Row → Row → Bool
has_key t key row = agree plain t.keys row t.places key
