-- What a write on one table did, in a transaction over the office's tables, and what it leaves: so an INSERT the rows that there were, and its row beside them.
use Rattle.std.proofs.Common.{◌≡◌, ◌≢◌, ◌⊎◌, inl, inr, ℕ, ℤ, ◌==◌, List, [], ◌∷◌, length, slice_get, unwrap_or, not, true, false, Option, None, Some, Result, Ok, Err, sym, ap, subst, ◌∙◌, true≢false, eq-eqb, Bool, cond, MatchBool}
use Rattle.std.proofs.lemmas.Bool.{cases_Bool, eqb-true, not-true, and_parts}
use Rattle.std.specs.List.{AllByRecursion}
use Rattle.sqlite.specs.{declared.types.Value.TheVariants.Null, Command.TheVariants.Delete, Edit.Edit, Edit.edited, Edit.left_by, Program.overlay, Query.Query, Query.IsAnswer, Rows.Edited, Rowids.TheVariants.Given, Command.Command, declared.error.Error.Error, Effect.Database, Order.Row, Does.Tally, Does.Does, Does.AtPlace, Does.OnRows, Does.WritesRows, Edit.without_all, Edit.edit_of, Edit.with_rowid, Edit.is_taken, Edit.are_fresh, Edit.put_all, Edit.have_rowids, Edit.taken_by, Listing.understood, Schema.Schema, Table.Table, View.IsShaped, View.is_int, Rows.Task, Rows.Written, Rows.Part, Rows.Gives, Rows.Inserts, Rows.CountsIn, Rows.Sourced, Rows.sequence, Rows.stamped, Rows.count_of, Rows.rowids_for, State.State, State.Runs, State.Writes, State.mode_of, Cast.cast_row, Tree.Trees, Tree.has_rowid, Tree.without_rowid, Tree.rowid, Tree.put_row, Rowids.TheVariants.Above, Rowids.TheVariants.Chosen, Source.Source}
use Rattle.sqlite_rules.specs.{Calls.ids_of, Action.works}
use Rattle.sqlite_schema.specs.declared.schema.Keys.TheVariants.{Enforced}
use Rattle.sqlite_trees.proofs.{ListLemmas.all_both, TreeLemmas.IsShaped-filter, TreeLemmas.IsShaped-put_row}
use Rattle.office_tables_statements.specs.Calls.{IsReady, Means, Ran, statement_of}
use Rattle.office_tables_statements.specs.Schema.{office_schema}
use Rattle.office_tables_statements.proofs.Meaning.{is_command}
use Rattle.sqlite.proofs.Callers.{one_step}
use Rattle.sqlite_trees.specs.declared.store.Shape.TheVariants as shape

-- no foreign key acts on what a table loses
pub record IsIdle (schema : Schema) (table : Table) : Type 0 where
  pub on_change : (olds : List Row) (new : Row) → works schema Enforced 0 table.tree olds (new ∷ []) ≡ []
  pub on_delete : (olds : List Row) → works schema Enforced 0 table.tree olds [] ≡ []

-- a part that gave a value did not stop on the way
pub went_on : {B E R : Type 0} {b : B} {Stops : E → Type 0} → ((stop : E) × Stops stop × (Ok b ≡ Err stop)) ⊎ R → R
went_on (inl stopped) = absurd (let e = stopped.2 in cc)
went_on (inr on) = on

pub same_value : {B E : Type 0} {a b : B} → ◌≡◌ {A = Result B E} (Ok a) (Ok b) → a ≡ b
same_value e = cc

-- ---- the order of rows

pub shaped_without : (ids : List ℤ) (rows : List Row) → IsShaped shape.Table rows → IsShaped shape.Table (without_all rows ids)
shaped_without [] rows h = h
shaped_without (id ∷ ids) rows h = shaped_without ids (without_rowid id rows) (IsShaped-filter shape.Table (λ r. not (has_rowid id r)) rows h)

-- one table is written, and those beside it are as they were
still_ordered : (tables : List Table) (tree : ℕ) (db next : Trees) → AllByRecursion (λ t. IsShaped shape.Table (db t.tree)) tables
    → AllByRecursion (λ t. t.tree ≢ tree → next t.tree ≡ db t.tree) tables → IsShaped shape.Table (next tree) → AllByRecursion (λ t. IsShaped shape.Table (next t.tree)) tables
still_ordered tables tree db next was others now = all_both _ _ _ (λ t old same. go t old same (cases_Bool (t.tree == tree))) tables was others
  where
    go : (t : Table) → IsShaped shape.Table (db t.tree) → (t.tree ≢ tree → next t.tree ≡ db t.tree) → ((t.tree == tree) ≡ true) ⊎ ((t.tree == tree) ≡ false) → IsShaped shape.Table (next t.tree)
    go t old same (inl is) = subst (λ n. IsShaped shape.Table (next n)) (sym (eqb-true t.tree tree is)) now
    go t old same (inr apart) = subst (IsShaped shape.Table) (sym (same (λ e. true≢false (sym (eq-eqb t.tree tree e) ∙ apart)))) old

-- ---- a write

module _ (sql : List ℕ) (command : Command) (means : Means sql command) (at : ℕ) (table : Table) (place : slice_get office_schema.tables at ≡ Some table) (params : Row) (old new : State) (count : ℕ) where
  abbrev text : List ℕ
  text = statement_of sql (understood office_schema sql)

  abbrev pub task : Table → Database → Task
  task x db = record { limit = old.step_limit; keys = Enforced; schema = db.schema; table = x; params = params }

  -- a write of rows of the table at that place
  pub record IsOnRows : Type 0 where
    pub runs : Runs old new None command text params count → Writes old new None command text params count
    pub does : (db : Database) (out : Result (Tally × Database) (Option Error))
        → Does old.step_limit (mode_of old) params db text None command out
        → AtPlace (λ x. OnRows (task x db) (mode_of old) None command db.trees) (slice_get db.schema.tables at) out

  pub record Wrote : Type 0 where
    -- it wrote those rows, and tells how many
    pub written : Written
    pub rows : WritesRows (task table (record { schema = office_schema; trees = old.now.trees })) old.now.trees command (Ok written)
    pub trees : new.now.trees ≡ written.trees
    pub counted : count ≡ length written.rows
    -- the transaction goes on, where the rows of the table are in order and the other tables as they were
    pub goes_on : AllByRecursion (λ x. x.tree ≢ table.tree → new.now.trees x.tree ≡ old.now.trees x.tree) office_schema.tables
        → IsShaped shape.Table (new.now.trees table.tree) → IsReady new

  pub wrote : IsOnRows → IsReady old → Ran sql params old new count → Wrote
  wrote on ready did =
      let writes = on.runs (subst (λ c. Runs old new None c text params count) (is_command sql command means) (did.runs ready.schema)) in
      let does = subst (λ s. Does old.step_limit (mode_of old) params (record old.now { schema = s }) text None command (Ok (writes.tally, new.now))) ready.schema writes.changed in
      let db : Database = record { schema = office_schema; trees = old.now.trees } in
      let went = went_on (subst (λ o. AtPlace (λ x. OnRows (task x db) (mode_of old) None command db.trees) o (Ok (writes.tally, new.now))) place (on.does db _ does)) in
      let told = same_value (went_on (went_on went.2).2).2 in
      record {
        written = went.0;
        rows = went.1;
        trees = ap (λ (p : Tally × Database). p.1.trees) told;
        counted = writes.counted ∙ ap (λ (p : Tally × Database). unwrap_or p.0.rows 0) told;
        goes_on = λ others shapes. record {
          inside = did.inside;
          schema = ap (λ (p : Tally × Database). p.1.schema) told;
          sound = writes.sound;
          ordered = still_ordered office_schema.tables table.tree old.now.trees new.now.trees ready.ordered others shapes;
        };
      }

-- ---- one step of it

put_shaped : (news rows : List Row) → have_rowids news ≡ true → IsShaped shape.Table rows → IsShaped shape.Table (put_all rows news)
put_shaped [] rows keyed was = was
put_shaped (new ∷ news) rows keyed was =
    let both = and_parts _ _ keyed in
    put_shaped news (put_row new rows) both.1 (IsShaped-put_row new rows both.0 was)

pub record Moved (edit : Edit) (db next : Trees) : Type 0 where
  pub shapes : IsShaped shape.Table (next edit.table.tree)
  pub rows : next edit.table.tree ≡ edited db edit
  pub fresh : are_fresh (left_by db edit) edit.news ≡ true
  pub others : AllByRecursion (λ x. x.tree ≢ edit.table.tree → next x.tree ≡ db x.tree) office_schema.tables

pub moved : (edit : Edit) (db next : Trees) → works office_schema Enforced 0 edit.table.tree (taken_by db edit) edit.news ≡ [] → IsShaped shape.Table (db edit.table.tree)
    → Edited office_schema Enforced db edit (Ok next) → Moved edit db next
moved edit db next idle was did =
    let it = one_step office_schema Enforced db next edit idle did in
    record {
      shapes = subst (IsShaped shape.Table) (sym it.rows) (put_shaped edit.news (left_by db edit) it.keyed (shaped_without edit.gone (db edit.table.tree) was));
      rows = it.rows;
      fresh = it.fresh;
      others = it.tables;
    }

-- ---- a DELETE

module _ (table : Table) (at : ℕ) (place : slice_get office_schema.tables at ≡ Some table) (idle : IsIdle office_schema table) (sql : List ℕ) (body : Query)
    (means : Means sql (Delete at (record { lets = []; body = body }))) (params : Row) (old new : State) (count : ℕ) where
  pub record Cut : Type 0 where
    pub ready : IsReady new
    pub found : List Row
    pub answer : IsAnswer body (overlay old.now.trees []) params found
    pub rows : new.now.trees table.tree ≡ without_all (old.now.trees table.tree) (ids_of found)
    pub others : AllByRecursion (λ x. x.tree ≢ table.tree → new.now.trees x.tree ≡ old.now.trees x.tree) office_schema.tables

  pub cut : IsShaped shape.Table (old.now.trees table.tree) → IsReady old → Ran sql params old new count → Cut
  cut was ready did =
      let it = wrote sql _ means at table place params old new count (record { runs = λ w. w; does = λ db out d. d }) ready did in
      let asked = went_on it.rows in
      let gone = went_on asked.2 in
      let edit = edit_of old.now.trees table (ids_of asked.0) Given 0 [] in
      let step = subst (Moved edit old.now.trees) (sym (it.trees ∙ ap (λ (w : Written). w.trees) (same_value gone.2)))
      (moved edit old.now.trees gone.0 (idle.on_delete (taken_by old.now.trees edit)) was gone.1) in
      record { ready = it.goes_on step.others step.shapes; found = asked.0; answer = asked.1.answer Null; rows = step.rows; others = step.others }

-- ---- an INSERT

-- a table whose rowids are not counted
count_stays : (b : Bool) (db next : Trees) (top : Bool) (Other : Part Trees) → b ≡ false → MatchBool (cond b top false) (Other (Ok next)) (Gives db (Ok next)) → next ≡ db
count_stays true db next top Other e h = absurd (true≢false e)
count_stays false db next top Other e h = same_value h

module _ (table : Table) (uncounted : table.is_counted ≡ false) (idle : IsIdle office_schema table) (from : Source) (params given : Row) (limit : Option ℕ) (db : Trees) where
  abbrev inserting : Task
  inserting = record { limit = limit; keys = Enforced; schema = office_schema; table = table; params = params }

  abbrev pub added : Row
  added = with_rowid Chosen (db table.tree) given

  abbrev pub Added : Trees → Type 0
  Added = Moved (record { table = table; gone = []; news = added ∷ [] }) db

  pub adds : ((rows : List Row) → Sourced limit (record { schema = office_schema; trees = db }) (stamped table params) from (Ok rows) → rows ≡ given ∷ []) → cast_row table given ≡ given
      → IsShaped shape.Table (db table.tree) → (w : Written) → Inserts inserting from db (Ok w) → Added w.trees
  adds one casts was w h =
      let sourced = went_on h in
      let counted = went_on sourced.2 in
      let put = went_on counted.2 in
      let ended = went_on put.2 in
      let rows : sourced.0 ≡ given ∷ [] = one sourced.0 sourced.1 in
      let chosen : rowids_for table (count_of counted.0) ≡ Chosen = ap (λ b. cond b (Above (count_of counted.0)) Chosen) uncounted in
      let edit = edit_of db table [] (rowids_for table (count_of counted.0)) 0 sourced.0 in
      let shown : edit.news ≡ with_rowid Chosen (db table.tree) (cast_row table given) ∷ [] = λ i. (edit_of db table [] (chosen i) 0 (rows i)).news in
      let made : edit.news ≡ added ∷ [] = shown ∙ ap (λ row. with_rowid Chosen (db table.tree) row ∷ []) casts in
      let it = moved edit db put.0 (subst (λ news. works office_schema Enforced 0 table.tree (taken_by db edit) news ≡ []) (sym made) (idle.on_change (taken_by db edit) added)) was put.1 in
      let same : w.trees ≡ put.0 = ap (λ (x : Written). x.trees) (same_value ended.2) ∙ count_stays table.is_counted put.0 ended.0 _ (CountsIn inserting put.0 counted.0 _ (sequence office_schema)) uncounted ended.1 in
      subst Added (sym same) (subst (λ news. Moved (record { table = table; gone = []; news = news }) db put.0) made it)
