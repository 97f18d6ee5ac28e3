-- The stored version and its statements.
use Rattle.std.proofs.Common.{◌≡◌, ℕ, [], ◌∷◌, length, codes, refl, sym, ap, subst, ◌∙◌, cond, Option, None, Some, option_map, pos, ℤ, arith}
use Rattle.std.specs.{Option.option_to_list, FinMap.get, FinMap.insert, FinMap.get-insert}
use Rattle.sqlite.specs.{Command.TheVariants.Select, Command.TheVariants.Insert, Command.TheVariants.Delete, Effect.Database, Effect.IsDatabase, Order.Row, Order.column, Cast.cast_row, Source.Source, State.State, Source.TheVariants.Values, Term.lit, Term.col, View.IsShaped, declared.types.Value.TheVariants.Null, declared.types.Value.TheVariants.Int}
use Rattle.sqlite_tied.specs.Compute.{everything}
use Rattle.office_tables_shelf.specs.{Cells.number}
use Rattle.office_tables_statements.specs.{Stored.rows_in, Stored.cell_of, Stored.cells, Stored.rows_stored, Stored.content_now, Calls.Means, Calls.Reads, Calls.IsReady, Calls.Ran, Tables.found_by, Layout.office_version, Schema.office_schema, Schema.version_table}
use Rattle.office_tables_sql.specs.Version.{AreToday, version_in, current_version}
use Rattle.office_tables.specs.{Opening.IsMade, declared.version.TheConstants.FIND as FIND_VERSION, declared.version.TheConstants.DROP as DROP_VERSION, declared.version.TheConstants.PUT as PUT_VERSION}
use Rattle.office_tables_statements.proofs.{QueryLemmas.AreShaped, QueryLemmas.found_by_key, QueryLemmas.has_width, StoredLemmas.get_columns, StoredLemmas.sound_rowids, Casts.cast_int, Casts.cast_null, StoredLists.rowids_distinct, ContentLemmas.tie_self, ContentLemmas.put_at, TableLemmas.apart, TableLemmas.none_in}
use Rattle.office_tables_statements.proofs.WriteLemmas.{Added, adds, cut, IsIdle, wrote}
use Rattle.office_tables_shelf.proofs.CellLemmas.{cells_total}
use Rattle.office_tables_statements.specs.Layout as layout
use Rattle.sqlite_trees.specs.declared.store.Shape.TheVariants as shape

pub find_version_is : Means FIND_VERSION.now (Select (record { lets = []; body = found_by office_version office_version.columns }) (codes "version" ∷ []))
unfolding everything
find_version_is = refl

pub put_version_is : Means PUT_VERSION.now (Insert 8 (Values (col 0 0 ∷ lit Null ∷ col 0 1 ∷ []) 3))
unfolding everything
put_version_is = refl

pub drop_version_is : Means DROP_VERSION.now (Delete 8 (record { lets = []; body = found_by office_version (0 ∷ []) }))
unfolding everything
drop_version_is = refl

find_version : (db : Database) → AreShaped db.trees office_version → (row : Option Row) → Reads FIND_VERSION.now (Int (pos 1) ∷ []) db (option_to_list row) → option_map cells row ≡ version_in db.trees
find_version db shaped row reads =
    let rows = db.trees 15 in
    ap (option_map cells) (found_by_key office_version tt office_version.columns FIND_VERSION.now _
    find_version_is (Int (pos 1) ∷ []) db rows refl row reads)
    ∙ sym (get_columns office_version rows (Int (pos 1) ∷ [])
    (sound_rowids office_version refl rows shaped) refl)

one_cell : (row : Row) (n : ℤ) → length row ≡ 1 → column row 0 ≡ Int n → cells row ≡ number n ∷ []
one_cell [] n width is = absurd (omega arith)
one_cell (v ∷ []) n width is = ap (λ v. cell_of v ∷ []) is
one_cell (v ∷ w ∷ row) n width is = absurd (omega arith)

-- the row that shows the stored version, as its number
pub number_found : (db : Database) → AreShaped db.trees office_version → (row : Row) (n : ℤ) → Reads FIND_VERSION.now (Int (pos 1) ∷ []) db (row ∷ []) → column row 0 ≡ Int n → Some (number n ∷ []) ≡ version_in db.trees
number_found db shaped row n reads is =
    let width = has_width office_version tt office_version.columns FIND_VERSION.now _ find_version_is (Int (pos 1) ∷ []) db (db.trees 15) refl (Some row) reads in
    ap Some (sym (one_cell row n width is)) ∙ find_version db shaped (Some row) reads

pub none_found : (db : Database) → AreShaped db.trees office_version → Reads FIND_VERSION.now (Int (pos 1) ∷ []) db [] → None ≡ version_in db.trees
none_found db shaped reads = find_version db shaped None reads

-- the office's tables that store today's version
pub are_today : (s : State) → s.now.schema ≡ office_schema → IsDatabase s.now → version_in s.now.trees ≡ Some current_version → AreToday s.now.trees
are_today s is sound stored = record { sound = subst (λ schema. IsDatabase (record s.now { schema = schema })) is sound; stored = stored }

-- ---- what is stored

version_idle : IsIdle office_schema version_table
version_idle = record { on_change = λ olds new. refl; on_delete = λ olds. refl }

abbrev stored_version : Row
stored_version = Int (pos 1) ∷ Null ∷ Int (pos 2) ∷ []

abbrev version_source : Source
version_source = Values (col 0 0 ∷ lit Null ∷ col 0 1 ∷ []) 3

cast_version : cast_row version_table stored_version ≡ stored_version
cast_version = λ i. cast_int (pos 1) i ∷ cast_null i ∷ cast_int (pos 2) i ∷ []

put_version : (old new : State) (count : ℕ) → IsReady old → Ran PUT_VERSION.now (Int (pos 1) ∷ Int (pos 2) ∷ []) old new count
    → IsReady new × ((content_now new ≡ content_now old) × (version_in new.now.trees ≡ Some current_version))
put_version old new count ready did =
    let params = Int (pos 1) ∷ Int (pos 2) ∷ [] in
    let rows = old.now.trees 15 in
    let was : IsShaped shape.Table rows = ready.ordered.1.1.1.1.1.1.1.1.0 in
    let wrote_it = wrote PUT_VERSION.now _ put_version_is 8 version_table refl params old new count (record { runs = λ w. w; does = λ db out d. d }) ready did in
    let it = subst (Added version_table refl version_idle version_source params stored_version old.step_limit old.now.trees) (sym wrote_it.trees)
    (adds version_table refl version_idle version_source params stored_version old.step_limit old.now.trees (λ rows h. h.1) cast_version was wrote_it.written wrote_it.rows) in
    let at : rows_in layout.office_version (new.now.trees 15) ≡ insert (rows_stored layout.office_version old.now.trees) (number (pos 1) ∷ []) current_version =
    ap (rows_in layout.office_version) it.rows ∙ put_at layout.office_version rows stored_version it.fresh (rowids_distinct rows was) (rowids_distinct _ (subst (IsShaped shape.Table) it.rows it.shapes)) in
    let key = number (pos 1) ∷ [] in (
      wrote_it.goes_on it.others it.shapes,
      (
        none_in old.now.trees new.now.trees 15 it.others apart,
        ap (λ rows. get rows key) at ∙ get-insert cells_total (rows_stored layout.office_version old.now.trees) key current_version key ∙ ap (λ b. cond b (Some current_version) (version_in old.now.trees)) (tie_self key),
      ),
    )

drop_version : (old new : State) (count : ℕ) → IsReady old → Ran DROP_VERSION.now (Int (pos 1) ∷ []) old new count → IsReady new × (content_now new ≡ content_now old)
drop_version old new count ready did =
    let was : IsShaped shape.Table (old.now.trees 15) = ready.ordered.1.1.1.1.1.1.1.1.0 in
    let it = cut version_table 8 refl version_idle DROP_VERSION.now _ drop_version_is (Int (pos 1) ∷ []) old new count was ready did in
    (it.ready, none_in old.now.trees new.now.trees 15 it.others apart)

-- today's version in the place of the one that was stored
pub renewed : (old mid new : State) (dropped put : ℕ) → IsReady old → Ran DROP_VERSION.now (Int (pos 1) ∷ []) old mid dropped
    → Ran PUT_VERSION.now (Int (pos 1) ∷ Int (pos 2) ∷ []) mid new put → IsMade (content_now old) new
renewed old mid new dropped put ready first last =
    let without = drop_version old mid dropped ready first in
    let it = put_version mid new put without.0 last in
    record {
      ready = it.0;
      completes = record {
        content = it.1.0 ∙ without.1;
        today = are_today new it.0.schema it.0.sound it.1.1;
      };
    }
