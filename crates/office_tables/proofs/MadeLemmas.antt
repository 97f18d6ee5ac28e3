-- What the texts that make the tables make of a database that has none.
use Rattle.std.proofs.Common.{◌≡◌, ℕ, true, false, List, [], ◌∷◌, map, Result, Ok, Err, refl, sym, ap, subst, ◌∙◌}
use Rattle.std.specs.{List.AllByRecursion}
use Rattle.sqlite.specs.{Does.MakesTable, Does.MakesSequence, Does.lacks_sequence, Does.no_rows, State.State, State.ExecutesInside, Command.TheVariants.CreateTable, Effect.Database, Effect.IsDatabase, Given.IsPlain, Held.Held, Held.state, Listing.understood, Rows.Then, Rows.Gives, View.IsShaped}
use Rattle.sqlite.proofs.Callers.{runs_as, through}
use Rattle.sqlite_catalog.specs.Change.{created, next_tree, KeepsRows}
use Rattle.sqlite_resolve.specs.Compile.{table_defined_by}
use Rattle.sqlite_schema.specs.declared.schema.{Schema.Schema, Table.Table}
use Rattle.sqlite_tied.specs.Compute.{everything}
use Rattle.sqlite_trees.specs.{declared.store.Store.Ghosts}
use Rattle.sqlite_trees.proofs.ListLemmas.{all_both, all_weaker}
use Rattle.office_tables_shelf.proofs.ListLemmas.{all_more}
use Rattle.office_tables_shelf.specs.Content.{no_content}
use Rattle.office_tables_statements.specs.{Calls.IsReady, Calls.command_of, Calls.statement_of, Tables.layout_at, Stored.content_now, Stored.rows_in, Schema.no_schema, Schema.office_schema, declared.schema.TheConstants.CREATES}
use Rattle.office_tables.specs.{Opening.AreRun}
use Rattle.sqlite_trees.specs.declared.store.Shape.TheVariants as shape
use Rattle.office_tables_shelf.specs.declared.rows.Table.TheVariants as table

-- in a transaction over tables without a row
pub record IsOver (s : State) (schema : Schema) : Type 0 where
  pub schema_is : s.now.schema ≡ schema
  pub holds : AllByRecursion (λ t. s.now.trees t.tree ≡ []) schema.tables

-- the text makes this table
pub record Makes (schema : Schema) (sql : List ℕ) (table : Table) : Type 0 where
  pub is : command_of (understood schema sql) ≡ CreateTable
  pub plain : IsPlain (understood schema sql)
  pub defined : table_defined_by (statement_of sql (understood schema sql)) ≡ Ok table
  pub uncounted : lacks_sequence (created schema table) ≡ false

abbrev pub second_of : {A B E : Type 0} → B → Result (A × B) E → B
second_of other (Ok both) = both.1
second_of other (Err e) = other

pub over_step : (old new : State) (count : ℕ) (schema : Schema) (sql : List ℕ) (table : Table) → Makes schema sql table → IsOver old schema → ExecutesInside 0 sql [] old new (Ok count) → IsOver new (created schema table) × IsDatabase new.now
over_step old new count schema sql table makes bare ran =
    let text = statement_of sql (understood schema sql) in
    let did = runs_as sql [] old new schema bare.schema_is CreateTable makes.is makes.plain count ran.0 in
    let gave = through (Then (MakesTable text old.now) MakesSequence) (λ (after : Database). Gives (no_rows false, after)) (did.tally, new.now) did.changed in
    let made = through (MakesTable text old.now) MakesSequence gave.0 gave.1 in
    let same_table : made.1.table ≡ table = (let e : Ok made.1.table ≡ Ok table = sym made.1.defined ∙ makes.defined in cc) in
    let schema_then : made.0.schema ≡ created schema table = made.1.is ∙ (λ i. created (bare.schema_is i) (same_table i)) in
    let after_is : made.0 ≡ gave.0 = (let e : Ok gave.0 ≡ Ok made.0 = rw (ap lacks_sequence schema_then ∙ makes.uncounted) at made.2 in cc) in
    let now_is : gave.0 ≡ new.now = sym (ap (second_of new.now) {y = Ok (no_rows false, gave.0)} gave.2) in
    let whole : made.0 ≡ new.now = after_is ∙ now_is in
    let others = subst (λ (d : Database). KeepsRows schema.tables old.now.trees d.trees) whole (subst (λ (s : Schema). KeepsRows s.tables old.now.trees made.0.trees) bare.schema_is made.1.others) in
    let empty = subst (λ (d : Database). d.trees (next_tree schema) ≡ []) whole (subst (λ (s : Schema). made.0.trees (next_tree s) ≡ []) bare.schema_is made.1.empty) in (
      record {
        schema_is = ap (λ (d : Database). d.schema) (sym whole) ∙ schema_then;
        holds = all_more (λ (t : Table). new.now.trees t.tree ≡ []) schema.tables _ (all_both (λ (t : Table). new.now.trees t.tree ≡ old.now.trees t.tree) (λ (t : Table). old.now.trees t.tree ≡ []) _
            (λ t same was. same ∙ was) schema.tables others bare.holds) empty;
      },
      did.sound,
    )

abbrev pub made_of : Schema → List Table → Schema
made_of schema [] = schema
made_of schema (t ∷ ts) = made_of (created schema t) ts

-- the texts make these tables, one after another
abbrev pub AreMaking : Schema → List (List ℕ) → List Table → Type 0
AreMaking schema [] [] = Unit {0}
AreMaking schema (sql ∷ more) (t ∷ ts) = Makes schema sql t × AreMaking (created schema t) more ts
AreMaking _ _ _ = ⊥

module _ {S : Type 0} (g : Ghosts S) where
  abbrev pub Ends : Held S → Schema → Type 0
  Ends h schema = IsOver (state g h) schema × IsDatabase (state g h).now × ((state g h).in_transaction ≡ true)

  -- the first statement finds a database that is open; without one, what is known before is known
  pub over_run : (texts : List (List ℕ)) (tables : List Table) (schema : Schema) → AreMaking schema texts tables → (old new : Held S)
      → AreRun g texts old new → IsOver (state g old) schema → (texts ≡ [] → Ends old schema) → Ends new (made_of schema tables)
  over_run [] [] schema making old new run over none =
      subst (λ (h : Held S). Ends h schema) (sym run) (none refl)
  over_run (sql ∷ more) (t ∷ ts) schema making old new run over none =
      let it = over_step (state g old) (state g run.0) run.1 schema sql t making.0 over run.2 in
      over_run more ts (created schema t) making.1 run.0 new run.3 it.0 (λ _. (it.0, it.1, run.2.1.mode))
  over_run _ _ schema making old new run over none = absurd making

-- ---- the tables of the office

abbrev pub untreed : Table → Table
untreed t = record t { tree = 0 }

abbrev pub office_texts : List (List ℕ)
office_texts = map (λ text. text.now) CREATES

pub office_making : AreMaking no_schema office_texts (map untreed office_schema.tables)
unfolding understood everything
office_making =
    (record { is = refl; plain = (refl, refl); defined = refl; uncounted = refl }, (record { is = refl; plain = (refl, refl); defined = refl; uncounted = refl }, (record { is = refl; plain = (refl, refl); defined = refl; uncounted = refl }, (record { is = refl; plain = (refl, refl); defined = refl; uncounted = refl }, (record { is = refl; plain = (refl, refl); defined = refl; uncounted = refl }, (record { is = refl; plain = (refl, refl); defined = refl; uncounted = refl }, (record { is = refl; plain = (refl, refl); defined = refl; uncounted = refl }, (record { is = refl; plain = (refl, refl); defined = refl; uncounted = refl }, (record { is = refl; plain = (refl, refl); defined = refl; uncounted = refl }, tt)))))))))

office_made : made_of no_schema (map untreed office_schema.tables) ≡ office_schema
unfolding everything
office_made = refl

module _ {S : Type 0} (g : Ghosts S) (old new : Held S) (run : AreRun g office_texts old new) (blank : (state g old).now.schema ≡ no_schema) where
  ended : Ends g new office_schema
  ended = subst (Ends g new) office_made (over_run g office_texts (map untreed office_schema.tables) no_schema office_making old new run (record { schema_is = blank; holds = tt }) (λ none. absurd cc))

  pub office_ready : IsReady (state g new)
  office_ready = record {
    inside = rw ended.2;
    schema = ended.0.schema_is;
    ordered = all_weaker (λ t. (state g new).now.trees t.tree ≡ []) (λ t. IsShaped shape.Table ((state g new).now.trees t.tree))
        (λ t none. subst (IsShaped shape.Table) (sym none) (tt, tt)) office_schema.tables ended.0.holds;
    sound = ended.1;
  }

  pub office_empty : content_now (state g new) ≡ no_content
  office_empty = let e = ended.0.holds in λ i. record {
    intersection = rows_in (layout_at table.Intersection) (e.0 i);
    timing = rows_in (layout_at table.Timing) (e.1.0 i);
    draft = rows_in (layout_at table.Draft) (e.1.1.0 i);
    inspection = rows_in (layout_at table.Inspection) (e.1.1.1.0 i);
    work_order = rows_in (layout_at table.WorkOrder) (e.1.1.1.1.0 i);
    part = rows_in (layout_at table.Part) (e.1.1.1.1.1.0 i);
    delivery = rows_in (layout_at table.Delivery) (e.1.1.1.1.1.1.0 i);
    used_part = rows_in (layout_at table.UsedPart) (e.1.1.1.1.1.1.1.0 i);
  }
