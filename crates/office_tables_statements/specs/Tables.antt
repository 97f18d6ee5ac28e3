-- The eight tables by their names: where each keeps its rows, and what its statements mean.
use Rattle.std.specs.Prelude.{◌≡◌, ℕ, suc, pos, negsuc, Bool, true, false, ◌&&◌, cond, List, [], ◌∷◌, ◌++◌, map, length, Option, Some, None, IfSome, is_none, slice_get, unwrap_or, codes}
use Rattle.std.specs.{List.list_all, Option.option_map, FinMap.get, FinMap.entries}
use Rattle.sqlite.specs.Command.TheVariants.{Select, Insert, Update, Delete}
use Rattle.sqlite.specs.{Kind.Kind, declared.types.Value.Value, declared.types.Value.TheVariants.Null, declared.types.Value.TheVariants.Int, declared.types.Value.TheVariants.Text, Order.Row, Query.Query, Query.inner, Query.end, Source.Source, Source.TheVariants.Values, Collation.TheVariants.Binary}
use Rattle.sqlite.specs.Term.{Term, lit, col, op2}
use Rattle.sqlite_schema.specs.declared.schema.Column.{Column}
use Rattle.sqlite_sql.specs.{Group.Grouping, declared.aggregate.AggregateOp.TheVariants.CountRows, declared.ops.BinaryOp.TheVariants.Compare, declared.ops.CompareOp.TheVariants.Eq}
use Rattle.sqlite_value.specs.{Keys.ascending, declared.keys.Key.Key as SqlKey}
use Rattle.signal_records.specs.{Key.kind_of, Key.first_of, Key.second_of, declared.key.Key.Key}
use Rattle.office_tables_shelf.specs.Cells.{Cell, TableRows, null, number, text, odd}
use Rattle.office_tables_shelf.specs.{Content.Content, Shelf.rows_of, declared.rows.Table.Table}
pub use Rattle.office_tables_shelf.specs.Content.{rows_at, place_at, with_rows, put_in, remove_in, drop_in}
pub use Rattle.office_tables_shelf.specs.Reads.{is_among, IsNoRow, HasDamagedRow, ReadsRow, HasDamagedUnder}
use Rattle.office_tables_statements.specs.{Calls.Means, Layout.Layout, Layout.places_from, Stored.cells_at, Stored.are_sound, Stored.is_sound}
pub use Rattle.office_tables_statements.specs.Layout.{schema_at, layout_at}
use Rattle.sqlite.specs.Kind.TheVariants as kind

-- ---- where each table is

-- the names of a table's columns
abbrev pub names_of : Table → List (List ℕ)
names_of t = map (λ (c : Column). c.name) (schema_at t).columns

-- the table has a PRIMARY KEY of its own, and does not keep its key as the rowid
abbrev pub is_keyed : Table → Bool
is_keyed t = is_none (schema_at t).key

-- the filter of the rows whose columns at these places are the parameters at those places
abbrev pub of_key : List ℕ → List ℕ → List Term
of_key [] at = []
of_key (p ∷ ps) [] = []
of_key (p ∷ ps) (q ∷ qs) = op2 (Compare Eq Binary) (col 1 p) (col 0 q) ∷ of_key ps qs

-- ---- the rows of a list: those of an intersection, or all

-- the filter of the rows whose first key column is the parameter
abbrev pub of_first : Table → List Term
of_first t = of_key (layout_at t).keys (0 ∷ [])

-- the filter of a list: the rows of one intersection, which is the parameter, or all
abbrev pub filter_of : Table → Option ℕ → List Term
filter_of t None = []
filter_of t (Some id) = of_first t

-- the parameters of a list: the number of the intersection, or none
abbrev pub params_of : Option ℕ → Row
params_of None = []
params_of (Some id) = Int (pos id) ∷ []

-- the rows of a table that a list has, in the order of their keys: those of one intersection, or all
abbrev pub rows_among : Option ℕ → TableRows → List (List Cell × List Cell)
rows_among None rows = entries rows
rows_among (Some id) rows = rows_of id rows

-- ---- a row as a list shows it: the columns of the key, and then the others

-- the places in a stored row that a query of all columns shows: those of the key, and then the others
abbrev pub places_of : Table → List ℕ
places_of t = (layout_at t).keys ++ (layout_at t).columns

-- how many columns a query of all columns shows of a table
abbrev pub width_of : Table → ℕ
width_of t = length (places_of t)

-- the key cells of a row that a query shows
abbrev pub key_shown : Table → Row → List Cell
key_shown t = cells_at (places_from 0 (layout_at t).keys)

-- the cells of a row that a query shows, beside its key
abbrev pub columns_shown : Table → Row → List Cell
columns_shown t = cells_at (places_from (length (layout_at t).keys) (layout_at t).columns)

-- a row that a query shows: its key cells and its other cells
abbrev pub row_shown : Table → Row → List Cell × List Cell
row_shown t row = (key_shown t row, columns_shown t row)

-- ---- what the contracts of a table's rows say

-- what is stored for a record: the cells of its key, and its other cells
abbrev pub stored_for : {X : Type 0} → (X → List Cell) → (X → List Cell) → X → List Cell × List Cell
stored_for key columns x = (key x, columns x)

-- the records are those that a table stores of one intersection, or all, in the order of their keys
abbrev pub ListsRows : {X : Type 0} → Table → (X → List Cell) → (X → List Cell) → Content → Option ℕ → List X → Type 0
ListsRows t key columns tables whose xs =
    map (stored_for key columns) xs ≡ rows_among whose (rows_at tables t)

-- the row that was found shows what stands under the key of a table; none was found where nothing does
pub record IsUnder (t : Table) (tables : Content) (key : List Cell) (found : Option Row) : Type 0 where
  pub stored : option_map (columns_shown t) found ≡ get (rows_at tables t) key
  pub keyed : IfSome found (λ row. key_shown t row ≡ key)
  pub wide : IfSome found (λ row. length row ≡ width_of t)

-- ---- the statements

-- the query that shows these terms of the rows that pass the filter, grouped and ordered so
abbrev query_of : Layout → List Term → Option Grouping → List Term → List (Term × SqlKey) → Query
query_of t filter group shown order = record {
  from = inner t.tree end;
  filter = filter;
  group = group;
  project = shown;
  distinct = false;
  collations = [];
  order = order;
  limit = lit (Int (negsuc 0));
  offset = lit (Int (pos 0));
}

-- the query that lists a table's rows in the order of their keys, by a filter
abbrev pub listed_by : Layout → List Term → Query
listed_by t filter = query_of t filter None (map (col 1) (t.keys ++ t.columns)) (map (λ p. (col 1 p, ascending Binary)) t.keys)

-- the text lists the rows of a table, of one intersection or all, in the order of their keys
abbrev pub IsListText : Table → Option ℕ → List ℕ → Type 0
IsListText t whose sql = Means sql (Select (record { lets = []; body = listed_by (layout_at t) (filter_of t whose) }) (names_of t))

-- the grouping that counts the rows that pass a filter
abbrev pub count_grouping : Grouping
count_grouping = record { keys = []; collations = []; aggregates = record { op = CountRows; distinct = false; collation = Binary; argument = lit Null } ∷ []; having = [] }

-- the query that counts a table's rows, by a filter
abbrev pub counted_by : Layout → List Term → Query
counted_by t filter = query_of t filter (Some count_grouping) (col 1 0 ∷ []) []

-- the text counts the rows of one intersection, which is its parameter, in a table
abbrev pub IsCountText : Table → List ℕ → Type 0
IsCountText t sql = Means sql (Select (record { lets = []; body = counted_by (layout_at t) (of_first t) }) (codes "count(*)" ∷ []))

-- the query that shows these terms of the rows that pass the filter
abbrev pub picked_where : Layout → List Term → List Term → Query
picked_where t filter shown = query_of t filter None shown []

-- the query that shows these terms of the rows whose key columns are the parameters
abbrev pub picked_by : Layout → List Term → Query
picked_by t = picked_where t (of_key t.keys t.places)

-- the query that shows these columns of the row whose key columns are the parameters
abbrev pub found_by : Layout → List ℕ → Query
found_by t shown = picked_by t (map (col 1) shown)

-- the text shows the row whose key is the parameters, with the columns of the key first
abbrev pub IsFindText : Table → List ℕ → Type 0
IsFindText t sql = Means sql (Select (record { lets = []; body = found_by (layout_at t) (places_of t) }) (names_of t))

-- the values are parameters for the columns of a key, each an integer or a text
abbrev pub IsKeyOf : Table → Row → Type 0
IsKeyOf t values = are_sound (layout_at t).places values ≡ true

-- the key cells that parameters give
abbrev pub key_given : Table → Row → List Cell
key_given t = cells_at (layout_at t).places

-- What a stored row has between its rowid and its other columns: its key, or, where the rowid is the key, nothing in the key's own column.
abbrev pub beside_rowid : {X : Type 0} → Table → X → List X → List X
beside_rowid t nothing key = cond (is_keyed t) key (nothing ∷ [])

-- the terms of the parameters that follow those of the key, one for each other column
abbrev pub others_given : Table → List Term
others_given t = map (col 0) (places_from (length (layout_at t).keys) (layout_at t).columns)

-- the source of a new row, by the parameters: its rowid is the key of an intersection, and to be chosen in other
-- tables
abbrev pub source_at : Table → Source
source_at t = Values (cond (is_keyed t) (lit Null) (col 0 0) ∷ (beside_rowid t (lit Null) (map (col 0) (layout_at t).places) ++ others_given t)) (suc (length (schema_at t).columns))

-- the terms of a changed row: as it stands, but for the columns beside the key, which the parameters give
abbrev pub renewed_at : Table → List Term
renewed_at t = col 1 0 ∷ col 1 0 ∷ (beside_rowid t (lit Null) (map (col 1) (layout_at t).keys) ++ others_given t)

-- the text changes the row whose key is the first parameters: its other columns take the parameters that follow
abbrev pub IsUpdateText : Table → List ℕ → Type 0
IsUpdateText t sql = Means sql (Update (place_at t) (record { lets = []; body = picked_by (layout_at t) (renewed_at t) }))

-- the text adds a row whose key and other columns are the parameters
abbrev pub IsInsertText : Table → List ℕ → Type 0
IsInsertText t sql = Means sql (Insert (place_at t) (source_at t))

-- the text removes the row whose key is the parameters
abbrev pub IsRemoveText : Table → List ℕ → Type 0
IsRemoveText t sql = Means sql (Delete (place_at t) (record { lets = []; body = found_by (layout_at t) (0 ∷ []) }))

-- the text removes all rows of one intersection, which is its parameter
abbrev pub IsDropText : Table → List ℕ → Type 0
IsDropText t sql = Means sql (Delete (place_at t) (record { lets = []; body = picked_where (layout_at t) (of_first t) (col 1 0 ∷ []) }))

-- ---- what is bound for cells

-- a cell as a value of SQL; an odd one, which no statement binds, as NULL
abbrev pub value_of : Cell → Value
value_of null = Null
value_of (number n) = Int n
value_of (text t) = Text t
value_of odd = Null

-- cells as values of SQL
abbrev pub values_of : List Cell → Row
values_of = map value_of

-- a column of this kind takes the cell as it is
abbrev pub suits_kind : Kind → Cell → Bool
suits_kind kind.Integer null = true
suits_kind kind.Integer (number n) = true
suits_kind kind.Text null = true
suits_kind kind.Text (text t) = true
suits_kind _ c = false

-- columns take cells as they are, as far as both lists go
abbrev pub suit : List Column → List Cell → Bool
suit [] cells = true
suit (c ∷ cs) [] = true
suit (c ∷ cs) (x ∷ xs) = suits_kind c.kind x && suit cs xs

-- the rowid that is given for a row: its key, or none
abbrev pub id_given : Table → List Cell → Cell
id_given t key = cond (is_keyed t) null (unwrap_or (slice_get key 0) null)

-- the lists are of one length
abbrev pub are_as_many : {X Y : Type 0} → List X → List Y → Bool
are_as_many [] [] = true
are_as_many (x ∷ xs) (y ∷ ys) = are_as_many xs ys
are_as_many _ _ = false

-- the table takes a row with these cells as they are: those of its key are numbers and texts, and all suit its columns
abbrev pub takes : Table → List Cell → List Cell → Bool
takes t key columns =
    (are_as_many (layout_at t).keys key && are_as_many (layout_at t).columns columns)
    && (list_all (λ cell. is_sound (value_of cell)) key
    && (suits_kind kind.Integer (id_given t key) && suit (schema_at t).columns (beside_rowid t null key ++ columns)))
