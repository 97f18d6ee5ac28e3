-- What rows hold that are told by the names of their tables, and that putting them into new tables comes to the same.
use Rattle.std.proofs.Common.{◌≡◌, ℕ, ◌+◌, cond, List, [], ◌∷◌, ◌++◌, append_assoc, map, None, Some, refl, sym, ap, ◌∙◌, arith}
use Rattle.std.specs.{FinMap.empty, FinMap.insert, List.AllZip}
use Rattle.sqlite.specs.{Order.Row, Tree.Trees}
use Rattle.sqlite_catalog.specs.Listing.{AreListed, IsTableRow}
use Rattle.sqlite_schema.specs.{Names.same_name, declared.schema.Schema.Schema, declared.schema.Table.Table as SqlTable}
use Rattle.sqlite_tied.specs.Compute.{everything}
use Rattle.sqlite_trees.specs.Objects.{catalog_tree, number_in}
use Rattle.sqlite_value.specs.Order.{bytes}
use Rattle.office_tables_shelf.specs.{Cells.TableRows, Cells.number, Content.Content, Content.no_content, declared.rows.Table.Table}
use Rattle.office_tables_statements.specs.{Schema.office_schema, Stored.cells_at, Stored.content_of, Stored.rows_in}
use Rattle.office_tables_statements.specs.Tables.{layout_at, rows_at, schema_at, with_rows}
use Rattle.office_tables_statements.proofs.TableLemmas.{each}
use Rattle.office_tables.specs.Moved.{Named, all_put, content_by, content_of_named, moved_from, row_put, rows_named}
use Rattle.office_tables.specs.{Foreign.HasOtherVersion, Foreign.HasRowsAlone, Foreign.Hold, declared.foreign.TheConstants.KEEPER, declared.gather.TheConstants.CHILDREN_FIRST}
use Rattle.office_tables_sql.specs.Version.{AreToday, version_of, current_version}

-- ---- rows that are put into a table without rows

pub own_rows : (t : Table) (c : Content) → with_rows c t (rows_at c t) ≡ c
own_rows t c = each (λ t. with_rows c t (rows_at c t) ≡ c) refl refl refl refl refl refl refl refl t

pub its_rows : (t : Table) (c : Content) (rows : TableRows) → rows_at (with_rows c t rows) t ≡ rows
its_rows t c rows = each (λ t. rows_at (with_rows c t rows) t ≡ rows) refl refl refl refl refl refl refl refl t

pub last_rows : (t : Table) (c : Content) (rows more : TableRows) → with_rows (with_rows c t rows) t more ≡ with_rows c t more
last_rows t c rows more = each (λ t. with_rows (with_rows c t rows) t more ≡ with_rows c t more) refl refl refl refl refl refl refl refl t

one_more : (t : Table) (rows : List Row) (more : List (Table × Row)) (c : Content) → all_put no_content more ≡ c → rows_at c t ≡ empty
    → all_put no_content (map (λ row. (t, row)) rows ++ more) ≡ with_rows c t (rows_in (layout_at t) rows)
one_more t [] more c is none = is ∙ sym (own_rows t c) ∙ ap (with_rows c t) none
one_more t (row ∷ rows) more c is none =
    let held = rows_in (layout_at t) rows in
    ap (λ x. row_put x (t, row)) (one_more t rows more c is none)
    ∙ ap (λ r. with_rows (with_rows c t held) t (insert r (cells_at (layout_at t).keys row) (cells_at (layout_at t).columns row))) (its_rows t c held)
    ∙ last_rows t c held _

-- no table is there twice
abbrev AreApart : Named → List Table → Type 0
AreApart rows [] = Unit {0}
AreApart rows (t ∷ ts) = (rows_at (content_of_named rows ts) t ≡ empty) × AreApart rows ts

all_moved : (rows : Named) (ts : List Table) → AreApart rows ts → all_put no_content (moved_from ts rows) ≡ content_of_named rows ts
all_moved rows [] apart = refl
all_moved rows (t ∷ ts) apart = one_more t (rows (schema_at t).name) (moved_from ts rows) _ (all_moved rows ts apart.1) apart.0

-- all tables, whose rows are put into new ones
pub moved_whole : (rows : Named) → all_put no_content (moved_from CHILDREN_FIRST rows) ≡ content_by rows
moved_whole rows = all_moved rows CHILDREN_FIRST (refl, (refl, (refl, (refl, (refl, (refl, (refl, (refl, tt))))))))

-- the rows of one more table
pub moved_more : (t : Table) (ts : List Table) (named : Named) (before mid last : List (Table × Row)) (rows : List Row) → rows ≡ named (schema_at t).name
    → mid ≡ before ++ map (λ row. (t, row)) rows → last ≡ mid ++ moved_from ts named → last ≡ before ++ moved_from (t ∷ ts) named
moved_more t ts named before mid last rows same step rest =
    rest ∙ ap (λ m. m ++ moved_from ts named) step ∙ append_assoc before (map (λ row. (t, row)) rows) (moved_from ts named)
    ∙ ap (λ (rs : List Row). before ++ (map (λ row. (t, row)) rs ++ moved_from ts named)) same

-- ---- whatever schema the trees list, they hold the same

listed_rows : (trees : Trees) (rows : List Row) (ts us : List SqlTable) → AllZip IsTableRow rows ts → AllZip IsTableRow rows us → (name : List ℕ) → rows_named ts trees name ≡ rows_named us trees name
listed_rows trees [] [] [] ours theirs name = refl
listed_rows trees (row ∷ rows) (t ∷ ts) (u ∷ us) ours theirs name =
    let numbers : t.tree + 1 ≡ u.tree + 1 = ap number_in (sym ours.0.described.id ∙ theirs.0.described.id) in
    let names : t.name ≡ u.name = ap bytes (sym ours.0.described.name_is ∙ theirs.0.described.name_is) in
    let number : t.tree ≡ u.tree = omega (arith, numbers) in
    let more = listed_rows trees rows ts us ours.1 theirs.1 name in
    λ i. cond (same_name (names i) name) (trees (number i)) (more i)
listed_rows trees _ _ _ ours theirs name = absurd (first_of (assumption ours, assumption theirs))

-- the office's own tables
pub office_content : (trees : Trees) → content_by (rows_named office_schema.tables trees) ≡ content_of trees
unfolding everything
office_content trees = refl

office_version : (trees : Trees) → rows_named office_schema.tables trees KEEPER.now ≡ trees 15
unfolding everything
office_version trees = refl

-- ---- what tables hold

pub hold_office : (trees : Trees) (tables : Content) → AreListed (trees catalog_tree) office_schema → Hold trees tables → tables ≡ content_of trees
hold_office trees tables listed held = held.2 ∙ (λ i. content_by (λ name. listed_rows trees _ held.0.tables office_schema.tables held.1.tables listed.tables name i)) ∙ office_content trees

pub office_hold : (trees : Trees) (tables : Content) → AreListed (trees catalog_tree) office_schema → tables ≡ content_of trees → Hold trees tables
office_hold trees tables listed is = (office_schema, listed, is ∙ sym (office_content trees))

-- whatever tables they list, these store the version of the office's
version_stored : (trees : Trees) → AreToday trees → (schema : Schema) → AreListed (trees catalog_tree) schema → version_of (rows_named schema.tables trees KEEPER.now) ≡ Some current_version
version_stored trees it schema listed =
    ap version_of (listed_rows trees _ schema.tables office_schema.tables listed.tables it.sound.lists.listed.tables KEEPER.now ∙ office_version trees) ∙ it.stored

-- an opening tells neither Version nor Damaged of an office's tables with today's version
pub today_version : (trees : Trees) → AreToday trees → HasOtherVersion trees → ⊥
today_version trees it (schema, listed, (keep, version, stored, other)) =
    let same : Some current_version ≡ Some (number version ∷ []) = sym (version_stored trees it schema listed) ∙ stored in
    other (let e = same in cc)

pub today_rows : (trees : Trees) → AreToday trees → HasRowsAlone trees → ⊥
today_rows trees it (schema, listed, (none, some)) =
    absurd (let e : Some current_version ≡ None = sym (version_stored trees it schema listed) ∙ none in cc)
