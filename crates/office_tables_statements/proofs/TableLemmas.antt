-- What is known of each table by computation on the schema.
use Rattle.std.proofs.Common.{◌≡◌, ◌≢◌, ◌⊎◌, inl, inr, ℕ, ◌+◌, ◌/◌, true, false, true≢false, cond, List, [], ◌∷◌, drop, pred, slice_get, unwrap_or, Option, None, Some, refl, sym, ap, subst, ◌∙◌, eq-eqb, pos}
use Rattle.std.proofs.lemmas.Bool.{cases_Bool, eqb-true, and_parts, and_from}
use Rattle.std.specs.{FinMap.entries, FinMap.Entries.where_key, List.AllByRecursion, List.list_all, Cmp.eq_by_cmp_equiv, Ordering.is_eq}
use Rattle.sqlite.specs.{Order.Row, Order.column, Term.Term, Term.holds, Tree.Trees, Program.overlay, declared.types.Value.TheVariants.Int}
use Rattle.sqlite_rules.specs.Lists.{Has}
use Rattle.sqlite_rules.proofs.ListLemmas.{all_has, has_got}
use Rattle.sqlite_schema.specs.{Rules.guards, declared.schema.Index.Index}
use Rattle.sqlite_value.specs.Keys.{plain, first_key}
use Rattle.office_tables_shelf.specs.{Cells.TableRows, Cells.number, Cells.cell_cmp, Cells.cells_cmp, Shelf.is_of, Content.Content, Content.is_same_table, declared.rows.Table.Table}
use Rattle.office_tables_statements.specs.{Schema.office_schema, Layout.office_version}
use Rattle.office_tables_statements.specs.Stored.{cells_at, rows_in, content_of, are_sound, cell_of}
use Rattle.office_tables_statements.specs.Tables.{rows_at, with_rows, layout_at, schema_at, place_at, key_shown, columns_shown, filter_of, of_first, params_of, rows_among, is_among, of_key}
use Rattle.office_tables_statements.proofs.{ListedLemmas.IsListing, QueryLemmas.ArePaired, SoundLemmas.has_key_at, WriteLemmas.IsIdle, StoredLemmas.agree_ties}
use Rattle.sqlite_value.proofs.OrderLemmas.{then-Equal}
use Rattle.office_tables_shelf.proofs.{CellLemmas.cell_total, ListLemmas.where_all}
use Rattle.office_tables_shelf.specs.declared.rows.Table.TheVariants as table

-- the first key column is the parameter where its cell is that number
first_is : (p id : ℕ) (rest : List ℕ) (row : Row) → are_sound (p ∷ rest) row ≡ true
    → list_all (holds ((Int (pos id) ∷ []) ∷ row ∷ [])) (of_key (p ∷ []) (0 ∷ []))
    ≡ is_of id (cells_at (p ∷ rest) row)
unfolding first_key
first_is p id rest row sound =
    let first = and_from _ _ (and_parts _ _ sound).0 refl in
    agree_ties (p ∷ []) (0 ∷ []) row (Int (pos id) ∷ []) first refl
    ∙ ap is_eq (then-Equal (cell_cmp (cell_of (column row p)) (number (pos id))))
    ∙ (eq_by_cmp_equiv cell_total).symm (cell_of (column row p)) (number (pos id))

-- what holds of each of the eight
pub each : (P : Table → Type 0) → P table.Intersection → P table.Timing → P table.Draft
    → P table.Inspection → P table.WorkOrder → P table.Part → P table.Delivery → P table.UsedPart
    → (t : Table) → P t
each P a b c d e f g h table.Intersection = a
each P a b c d e f g h table.Timing = b
each P a b c d e f g h table.Draft = c
each P a b c d e f g h table.Inspection = d
each P a b c d e f g h table.WorkOrder = e
each P a b c d e f g h table.Part = f
each P a b c d e f g h table.Delivery = g
each P a b c d e f g h table.UsedPart = h

-- ---- the schema

pub is_placed : (t : Table) → slice_get office_schema.tables (place_at t) ≡ Some (schema_at t)
is_placed =
    each (λ t. slice_get office_schema.tables (place_at t) ≡ Some (schema_at t)) refl refl refl refl refl refl refl refl

pub is_listed : (t : Table) → Has office_schema.tables (schema_at t)
is_listed t = has_got office_schema.tables (place_at t) (schema_at t) (is_placed t)

pub is_low : (t : Table) (trees : Trees) → overlay trees [] (layout_at t).tree ≡ trees (layout_at t).tree
is_low t trees =
    each (λ t. overlay trees [] (layout_at t).tree ≡ trees (layout_at t).tree) refl refl refl refl refl refl refl refl t

pub is_uncounted : (t : Table) → (schema_at t).is_counted ≡ false
is_uncounted = each (λ t. (schema_at t).is_counted ≡ false) refl refl refl refl refl refl refl refl

pub is_idle : (t : Table) → IsIdle office_schema (schema_at t)
is_idle table.Intersection = record { on_change = λ olds new. refl; on_delete = λ olds. refl }
is_idle _ = record { on_change = λ olds new. refl; on_delete = λ olds. refl }

-- none of the eight is that of the version
pub apart : (t : Table) → (schema_at t).tree ≢ office_version.tree
apart = each (λ t. (schema_at t).tree ≢ office_version.tree) (λ e. cc) (λ e. cc) (λ e. cc) (λ e. cc)
    (λ e. cc) (λ e. cc) (λ e. cc) (λ e. cc)

-- ---- keys

-- a PRIMARY KEY of its own
pub record OwnKey (t : Table) : Type 0 where
  pub keyless : (schema_at t).key ≡ None
  pub sound : list_all (has_key_at (schema_at t)) (layout_at t).keys ≡ true
  pub index : Index
  pub has : Has office_schema.indexes index
  pub guard : guards index (schema_at t) ≡ true
  pub order : index.order ≡ plain
  pub columns : index.columns ≡ (layout_at t).keys

pub record Facts (t : Table) : Type 0 where
  -- the rowid is the key, or there is an index for it
  pub key : ((layout_at t).keys ≡ 0 ∷ []) ⊎ OwnKey t
  pub paired : ArePaired (layout_at t).keys (layout_at t).places
  pub first : (id : ℕ) (row : Row) → are_sound (layout_at t).keys row ≡ true
      → list_all (holds ((Int (pos id) ∷ []) ∷ row ∷ [])) (of_first t)
      ≡ is_of id (cells_at (layout_at t).keys row)

pub facts : (t : Table) → Facts t
facts table.Intersection = record { key = inl refl; paired = tt; first = λ id. first_is 0 id [] }
facts t = record {
  key = inr (record {
    keyless = refl;
    sound = refl;
    index = _;
    has = has_got office_schema.indexes (pred (place_at t)) _ refl;
    guard = refl;
    order = refl;
    columns = refl;
  });
  paired = tt;
  first = λ id. first_is 1 id (drop 1 (layout_at t).keys);
}

-- ---- the rows of a list

-- its filter tests the key
pub passes : (t : Table) (whose : Option ℕ) (row : Row) → are_sound (layout_at t).keys row ≡ true
    → list_all (holds (params_of whose ∷ row ∷ [])) (filter_of t whose)
    ≡ is_among whose (cells_at (layout_at t).keys row)
passes t None row sound = refl
passes t (Some id) row sound = (facts t).first id row sound

-- and shows the entries whose keys pass
pub among : (whose : Option ℕ) (rows : TableRows)
    → where_key cells_cmp (is_among whose) (entries rows) ≡ rows_among whose rows
among None rows = where_all (entries rows)
among (Some id) rows = refl

-- ---- the table at a place

table_at : ℕ → Table
table_at n = unwrap_or (slice_get (table.Intersection ∷ table.Timing ∷ table.Draft ∷ table.Inspection ∷ table.WorkOrder ∷ table.Part ∷ table.Delivery ∷ table.UsedPart ∷ []) n) table.Intersection

at_place : (t : Table) → table_at (place_at t) ≡ t
unfolding table_at
at_place = each (λ t. table_at (place_at t) ≡ t) refl refl refl refl refl refl refl refl

same_table : (t other : Table) → is_same_table t other ≡ true → t ≡ other
same_table t other same = sym (at_place t) ∙ ap table_at (eqb-true (place_at t) (place_at other) same) ∙ at_place other

-- ---- what a query shows

-- whatever its filter
pub listing_of : (filter : List Term) (t : Table) → IsListing (layout_at t) filter (key_shown t) (columns_shown t)
listing_of filter table.Intersection = record { shows = λ params row. refl; orders = λ a b. refl; keys = λ row. refl; others = λ row. refl }
listing_of filter _ = record { shows = λ params row. refl; orders = λ a b. refl; keys = λ row. refl; others = λ row. refl }

-- ---- the content

pub in_tree : (t : Table) (trees : Trees) → rows_at (content_of trees) t ≡ rows_in (layout_at t) (trees (schema_at t).tree)
in_tree t trees = each (λ t. rows_at (content_of trees) t
    ≡ rows_in (layout_at t) (trees (schema_at t).tree)) refl refl refl refl refl refl refl refl t

-- what holds the same rows table by table is the same
pub same_content : (a b : Content) → ((t : Table) → rows_at a t ≡ rows_at b t) → a ≡ b
same_content a b same = λ i. record {
  intersection = same table.Intersection i;
  timing = same table.Timing i;
  draft = same table.Draft i;
  inspection = same table.Inspection i;
  work_order = same table.WorkOrder i;
  part = same table.Part i;
  delivery = same table.Delivery i;
  used_part = same table.UsedPart i;
}

rows_with : (tables : Content) (t : Table) (rows : TableRows) (other : Table) → rows_at (with_rows tables t rows) other ≡ cond (is_same_table t other) rows (rows_at tables other)
rows_with tables t rows = each (λ other. rows_at (with_rows tables t rows) other
    ≡ cond (is_same_table t other) rows (rows_at tables other)) refl refl refl refl refl refl refl refl

-- the place of a table from its number
placed : (t : Table) → ((schema_at t).tree + 1) / 2 ≡ place_at t
placed = each (λ t. ((schema_at t).tree + 1) / 2 ≡ place_at t) refl refl refl refl refl refl refl refl

-- the trees of the tables but the one with this number are as they were
module _ (old new : Trees) (tree : ℕ) (others : AllByRecursion (λ x. x.tree ≢ tree → new x.tree ≡ old x.tree) office_schema.tables) where
  stays : (t : Table) → (schema_at t).tree ≢ tree → rows_at (content_of new) t ≡ rows_at (content_of old) t
  stays t apart =
      let same = all_has (λ x. x.tree ≢ tree → new x.tree ≡ old x.tree) office_schema.tables (schema_at t) others (is_listed t) apart in
      in_tree t new ∙ ap (rows_in (layout_at t)) same ∙ sym (in_tree t old)

  -- it is none of the eight
  pub none_in : ((t : Table) → (schema_at t).tree ≢ tree) → content_of new ≡ content_of old
  none_in apart = same_content (content_of new) (content_of old) (λ t. stays t (apart t))

-- one table has these rows, and the others are as they were
pub only_in : (old new : Trees) (t : Table) (rows : TableRows) → AllByRecursion (λ x. x.tree ≢ (schema_at t).tree → new x.tree ≡ old x.tree) office_schema.tables → rows_in (layout_at t) (new (schema_at t).tree) ≡ rows
    → content_of new ≡ with_rows (content_of old) t rows
only_in old new t rows others is =
    same_content (content_of new) (with_rows (content_of old) t rows) (λ other. go other (cases_Bool (is_same_table t other)) ∙ sym (rows_with (content_of old) t rows other))
  where
    here : rows_at (content_of new) t ≡ rows
    here = in_tree t new ∙ is

    go : (other : Table) → (is_same_table t other ≡ true) ⊎ (is_same_table t other ≡ false) → rows_at (content_of new) other ≡ cond (is_same_table t other) rows (rows_at (content_of old) other)
    go other (inl same) = rw same (subst (λ u. rows_at (content_of new) u ≡ rows) (same_table t other same) here)
    go other (inr apart) = rw apart (stays old new (schema_at t).tree others other (λ e. true≢false (sym (eq-eqb _ _ (sym (placed t) ∙ ap (λ n. (n + 1) / 2) (sym e) ∙ placed other)) ∙ apart)))
