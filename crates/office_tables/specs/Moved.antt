-- Rows that are read from tables by the names of these, and put into the office's tables again.
use Rattle.std.specs.Prelude.{List, [], ◌∷◌, ◌++◌, map, if◌then◌else◌, ℕ}
use Rattle.sqlite_schema.specs.{Names.same_name, declared.schema.Table.Table as SqlTable}
use Rattle.sqlite.specs.{Order.Row, Tree.Trees}
use Rattle.office_tables_shelf.specs.{Content.Content, Content.no_content, Content.with_rows, declared.rows.Table.Table}
use Rattle.office_tables_statements.specs.{Stored.cells_at, Stored.rows_in, Tables.layout_at, Tables.schema_at, Tables.put_in}
use Rattle.office_tables.specs.declared.gather.TheConstants.{CHILDREN_FIRST}

-- the rows of each table, by the table's name
abbrev pub Named : Type 0
Named = List ℕ → List Row

-- the rows of the first table with the name, as SQL compares names; none where it is missing
abbrev pub rows_named : List SqlTable → Trees → Named
rows_named [] trees name = []
rows_named (t ∷ ts) trees name = if same_name t.name name then trees t.tree else rows_named ts trees name

-- what these tables hold, each the rows that stand under its name; one that is missing holds nothing, as do all others
abbrev pub content_of_named : Named → List Table → Content
content_of_named rows [] = no_content
content_of_named rows (t ∷ ts) = with_rows (content_of_named rows ts) t (rows_in (layout_at t) (rows (schema_at t).name))

-- what the eight tables hold, whatever their order and their numbers
abbrev pub content_by : Named → Content
content_by rows = content_of_named rows CHILDREN_FIRST

-- ---- rows on the way from old tables to new ones

-- the rows that stand under the names of these tables, in their order, each with its table
abbrev pub moved_from : List Table → Named → List (Table × Row)
moved_from [] rows = []
moved_from (t ∷ ts) rows = map (λ row. (t, row)) (rows (schema_at t).name) ++ moved_from ts rows

-- what the tables hold after a stored row was put into one of them
abbrev pub row_put : Content → Table × Row → Content
row_put tables moved = put_in tables moved.0 (cells_at (layout_at moved.0).keys moved.1) (cells_at (layout_at moved.0).columns moved.1)

-- what the tables hold after stored rows were put into them, the last row first
abbrev pub all_put : Content → List (Table × Row) → Content
all_put tables [] = tables
all_put tables (moved ∷ more) = row_put (all_put tables more) moved
