-- What rows tell of the version.
use Rattle.std.proofs.Common.{◌≡◌, ◌≢◌, ◌==◌, length, true, cond, List, [], ◌∷◌, None, Some, Result, Ok, Err, Vec, ℤ, pos, ap, ◌∙◌}
use Rattle.std.proofs.lemmas.{Bool.eqb-true, Bool.false_from_ne_true, List.nil_from_length}
use Rattle.std.specs.{FinMap.get-empty, FinMap.get-insert, Ordering.is_eq, declared.alloc.Global.Global}
use Rattle.sqlite.specs.{Order.Row, Order.column, declared.types.Value.TheVariants.Int, declared.types.Value.Value, Tree.Trees}
use Rattle.office_tables_shelf.specs.{Cells.Cell, Cells.number, Cells.cells_cmp, Content.no_content, declared.rows.Table.Table}
use Rattle.office_tables_shelf.proofs.CellLemmas.{cells_exact, cells_total, tied}
use Rattle.office_tables_statements.specs.Stored.{cell_of, cells_at, rows_in}
use Rattle.office_tables_statements.proofs.ContentLemmas.{tie_self}
use Rattle.office_tables_sql.specs.Version.{version_of}
use Rattle.sqlite_catalog.specs.Listing.{AreListed}
use Rattle.sqlite_schema.specs.declared.schema.Schema.{Schema}
use Rattle.sqlite_trees.specs.Objects.{catalog_tree}
use Rattle.office_tables.specs.{Moved.all_put, Moved.rows_named, Opening.FindsTables, Opening.FindsIn, declared.open.OpenFault.OpenFault}
use Rattle.office_tables.proofs.MovedLemmas.{moved_whole}
use Rattle.office_tables_statements.specs.Layout as layout
use Rattle.office_tables.specs.declared.open.OpenFault.TheVariants as fault

-- ---- the number under 1, which the first row has or a later one

abbrev one : List Cell
one = number (pos 1) ∷ []

first_or : (row : Row) (rows : List Row) → version_of (row ∷ rows) ≡ cond (is_eq (cells_cmp one (cell_of (column row 0) ∷ []))) (Some (cell_of (column row 2) ∷ [])) (version_of rows)
first_or row rows = get-insert cells_total (rows_in layout.office_version rows) (cells_at layout.office_version.keys row) (cells_at layout.office_version.columns row) one

pub version_first : (row : Row) (rows : List Row) (n : ℤ) → column row 0 ≡ Int (pos 1) → column row 2 ≡ Int n → version_of (row ∷ rows) ≡ Some (number n ∷ [])
version_first row rows n key is = first_or row rows ∙ (λ i. cond (is_eq (cells_cmp one (cell_of (key i) ∷ []))) (Some (cell_of (is i) ∷ [])) (version_of rows))
    ∙ ap (λ b. cond b (Some (number n ∷ [])) (version_of rows)) (tie_self one)

number_back : (v : Value) → cell_of v ≡ number (pos 1) → v ≡ Int (pos 1)
number_back (Int n) e = let same : n ≡ pos 1 = cc in ap Int same
number_back _ e = absurd (cc)

pub version_later : (row : Row) (rows : List Row) → column row 0 ≢ Int (pos 1) → version_of (row ∷ rows) ≡ version_of rows
version_later row rows other = first_or row rows ∙ ap (λ b. cond b (Some (cell_of (column row 2) ∷ [])) (version_of rows))
    (false_from_ne_true _ (λ tie. other (number_back (column row 0) (let e : one ≡ cell_of (column row 0) ∷ [] = cells_exact one (cell_of (column row 0) ∷ []) (tied _ tie) in cc))))

pub none_of : {X : Type 0} (xs : List X) → (length xs == 0) ≡ true → xs ≡ []
none_of xs none = nil_from_length xs (eqb-true _ 0 none)

pub no_version : (rows : List Row) → (length rows == 0) ≡ true → version_of rows ≡ None
no_version rows none = ap version_of (none_of rows none) ∙ get-empty cells_cmp one

-- ---- what is found by the rows of the tables that a file lists

pub finds : (trees : Trees) (schema : Schema) → AreListed (trees catalog_tree) schema → (found : Result (Vec (Table × Row) Global) OpenFault) → FindsIn schema.tables trees found → FindsTables found trees
finds trees schema listed (Ok rows) it = ((schema, listed, it.1), (schema, listed, ap (all_put no_content) it.0 ∙ moved_whole (rows_named schema.tables trees)))
finds trees schema listed (Err fault.Version) it = (schema, listed, it)
finds trees schema listed (Err fault.Damaged) it = (schema, listed, it)
finds trees schema listed (Err _) it = tt
