-- What trees hold of an office whatever the layout of its tables: in another order, without STRICT, or with some of them missing.
use Rattle.std.specs.Prelude.{◌≡◌, ◌≢◌, ◌⊎◌, ℕ, ℤ, pos, List, [], ◌∷◌, map, Option, None, Some, true}
use Rattle.std.specs.List.{AllByRecursion}
use Rattle.sqlite.specs.{Order.Row, Tree.Trees}
use Rattle.sqlite_catalog.specs.Listing.{AreListed}
use Rattle.sqlite_schema.specs.{Names.same_name, declared.schema.Column.Column, declared.schema.Schema.Schema, declared.schema.Table.Table as SqlTable}
use Rattle.sqlite_trees.specs.Objects.{catalog_tree}
use Rattle.office_tables_statements.specs.{Schema.IsNameAmong, Schema.IsOffices, Schema.office_schema, Stored.content_of}
use Rattle.office_tables_shelf.specs.{Cells.number, Content.Content, declared.rows.Table.Table}
use Rattle.office_tables.specs.{Moved.content_by, Moved.moved_from, Moved.rows_named, declared.open.OpenFault.OpenFault, declared.foreign.TheConstants.KEEPER, declared.foreign.TheConstants.COLUMNS, declared.gather.TheConstants.CHILDREN_FIRST}
use Rattle.office_tables_sql.specs.Version.{AreToday, version_in, version_of, current_version}
use Rattle.office_tables.specs.declared.open.OpenFault.TheVariants as fault

-- the name is that of one of the office's nine tables
abbrev pub IsOurs : List ℕ → Type 0
IsOurs name = IsNameAmong name (map (λ t. t.name) office_schema.tables)

-- the table has two columns: the number `one`, which is its rowid, and `version`
pub record IsVersionKeeper (table : SqlTable) : Type 0 where
  pub rowid : table.key ≡ Some 0
  pub columns : map (λ (c : Column). c.name) table.columns ≡ map (λ text. text.now) COLUMNS

-- each table whose name is `office_version`, as SQL compares names, has the columns of a table that keeps a version
abbrev pub KeepVersion : List SqlTable → Type 0
KeepVersion = AllByRecursion (λ t. same_name t.name KEEPER.now ≡ true → IsVersionKeeper t)

-- ---- what is told of tables, by the rows of `office_version` and those of the eight others

-- What is true of tables of which this is told. Nothing: they may be made anew, since each is the office's but for its
-- number and today's version is stored, or since no version is stored and there is no row. Version: a number other than
-- 2, which is today's, is stored. Damaged: there are rows, and no version is stored.
abbrev pub Tell : Option OpenFault → List SqlTable → List Row → List (Table × Row) → Type 0
Tell None tables keeper eight =
    (AllByRecursion IsOffices tables × (version_of keeper ≡ Some current_version))
    ⊎ ((version_of keeper ≡ None) × (eight ≡ []))
Tell (Some fault.Version) tables keeper eight = KeepVersion tables × (version : ℤ) × (version_of keeper ≡ Some (number version ∷ [])) × (version ≢ pos 2)
Tell (Some fault.Damaged) tables keeper eight = (version_of keeper ≡ None) × (eight ≢ [])
Tell (Some _) tables keeper eight = Unit {0}

-- it is true of the tables that a file lists, by the rows that stand under their names
abbrev pub TellIn : Option OpenFault → Trees → Type 0
TellIn told trees =
    (schema : Schema) × AreListed (trees catalog_tree) schema
    × Tell told schema.tables (rows_named schema.tables trees KEEPER.now) (moved_from CHILDREN_FIRST (rows_named schema.tables trees))

-- a file stores another version than that of today
abbrev pub HasOtherVersion : Trees → Type 0
HasOtherVersion = TellIn (Some fault.Version)

-- a file has rows in the eight tables and stores no version
abbrev pub HasRowsAlone : Trees → Type 0
HasRowsAlone = TellIn (Some fault.Damaged)

-- what a fault tells of a file
abbrev pub TellsOfTables : OpenFault → Trees → Type 0
TellsOfTables fault.Version trees = HasOtherVersion trees
TellsOfTables fault.Damaged trees = HasRowsAlone trees
TellsOfTables _ trees = Unit {0}

-- the tables of a file may be made anew
abbrev pub MayBeMade : Trees → Type 0
MayBeMade = TellIn None

-- the trees hold this content in the tables of the office's names; one that is missing holds nothing
abbrev pub Hold : Trees → Content → Type 0
Hold trees tables = (schema : Schema) × AreListed (trees catalog_tree) schema × (tables ≡ content_by (rows_named schema.tables trees))

-- the new trees are the office's tables with today's version, and hold what the old tables held, which had that
-- version too or might be made anew
pub record TakesOver (old new : Trees) : Type 0 where
  pub taken : (version_in old ≡ Some current_version) ⊎ MayBeMade old
  pub kept : Hold old (content_of new)
  pub today : AreToday new
