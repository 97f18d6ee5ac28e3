-- What the descriptions of the tables ask of a schema.
use Rattle.std.specs.Prelude.{◌≡◌, ℕ, suc, Bool, true, false, List, [], ◌∷◌, map, Option, None, Some, slice_get}
use Rattle.std.specs.Borrow.{Bor}
use Rattle.sqlite_value.specs.{declared.keys.Collation.TheVariants.Binary, declared.keys.Order.Order, declared.value.Value.TheVariants.Null, declared.value.Value.TheVariants.Int, Keys.plain}
use Rattle.sqlite_sql.specs.Term.{Term, lit, col, op2}
use Rattle.sqlite_sql.specs.declared.ops.BinaryOp.TheVariants.{Compare}
use Rattle.sqlite_schema.specs.declared.{code.Op.Op, schema.Action.TheVariants.NoAction, schema.Column.Column, schema.Index.Index, schema.Kind.Kind, schema.Reference.Reference, schema.Table.Table}
use Rattle.office_tables_statements.specs.declared.parts.WantedCheck.{WantedCheck}
use Rattle.sqlite_schema.specs.declared.code.Op.TheVariants as op

-- the node at this place is the comparison of a column with a number that a check wants
abbrev pub ComparesAt : List Op → ℕ → WantedCheck → Type 0
ComparesAt nodes root want =
    (left : ℕ) × (right : ℕ) × (slice_get nodes root ≡ Some (op.Binary (Compare want.0 Binary) left right))
    × (slice_get nodes left ≡ Some (op.Column 1 want.1)) × (slice_get nodes right ≡ Some (op.Literal (Int want.2)))

-- the check that is wanted, if one is
abbrev pub checks_wanted : Option WantedCheck → List Term
checks_wanted None = []
checks_wanted (Some want) = op2 (Compare want.0 Binary) (col 1 want.1) (lit (Int want.2)) ∷ []

-- the index of this name that keeps the PRIMARY KEY of a table, under the next number
abbrev pub index_wanted : List ℕ → ℕ → List ℕ → Index
index_wanted name table places = record { name = name; tree = suc table; table = table; columns = places; order = plain; is_unique = true }

-- the descriptions of src/parts.rt, whose references are of another type in a constant than in a call
module _ (Ref : Type 0 → Type 0) where
  abbrev pub WantedColumn : Type 0
  WantedColumn = Ref (List ℕ) × Kind × Bool

  abbrev pub WantedReference : Type 0
  WantedReference = Ref (List ℕ) × Ref (List ℕ)

  abbrev pub WantedKey : Type 0
  WantedKey = Ref (List ℕ) × Option (Ref (List ℕ))

  abbrev pub WantedTable : Type 0
  WantedTable = Ref (List ℕ) × ℕ × WantedKey × Ref (List WantedColumn) × Option WantedCheck × Ref (List WantedReference)

-- what they ask for; `now` reads a reference
module _ (Ref : Type 0 → Type 0) (now : (X : Type 0) → Ref X → X) where
  -- a column of a STRICT table
  abbrev pub column_of : WantedColumn Ref → Column
  column_of want = record { name = now _ want.0; kind = want.1; is_strict = true; not_null = want.2; default = Null; collation = Binary }

  -- a reference to the primary key of another table
  abbrev pub reference_of : WantedReference Ref → Reference
  reference_of want = record { columns = now _ want.1; parent = now _ want.0; parent_columns = []; on_delete = NoAction; on_update = NoAction; is_deferred = false }

  -- the column that is the rowid, where no index keeps the key; the places of which no two rows have equal values, and
  -- their order, where one does
  abbrev pub key_parts : WantedKey Ref → Option ℕ × List (List ℕ) × List Order
  key_parts (places, None) = (Some 0, [], [])
  key_parts (places, Some index) = (None, now _ places ∷ [], plain ∷ [])

  abbrev pub table_of : WantedTable Ref → Table
  table_of want = record {
    name = now _ want.0;
    tree = want.1;
    columns = map column_of (now _ want.3);
    key = (key_parts want.2).0;
    primary = now _ want.2.0;
    uniques = (key_parts want.2).1;
    orders = (key_parts want.2).2;
    checks = checks_wanted want.4;
    references = map reference_of (now _ want.5);
    computed = [];
    stamps = record { places = []; terms = []; formats = [] };
    is_counted = false;
  }

  -- the index of a key, before others
  abbrev pub index_before : ℕ → WantedKey Ref → List Index → List Index
  index_before table (places, None) more = more
  index_before table (places, Some name) more = index_wanted (now _ name) table (now _ places) ∷ more

  -- the indexes of the keys that are no rowid, in the order of the tables
  abbrev pub indexes_of : List (WantedTable Ref) → List Index
  indexes_of [] = []
  indexes_of (want ∷ wanted) = index_before want.1 want.2 (indexes_of wanted)

-- what a reference of a call lends
abbrev read_reference : (X : Type 0) → Bor X → X
read_reference X it = it.now

-- the column that a description asks for
abbrev pub column_wanted : WantedColumn Bor → Column
column_wanted = column_of Bor read_reference

-- the reference that it asks for
abbrev pub reference_wanted : WantedReference Bor → Reference
reference_wanted = reference_of Bor read_reference

-- the table that it asks for
abbrev pub table_wanted : WantedTable Bor → Table
table_wanted = table_of Bor read_reference

-- the indexes that descriptions ask for
abbrev pub indexes_wanted : List (WantedTable Bor) → List Index
indexes_wanted = indexes_of Bor read_reference
