-- Dropping the tables of the office's names, where a database has no other, leaves it without tables, whatever their order and their layout.
use Rattle.std.proofs.Common.{◌≡◌, inl, inr, ℕ, suc, ◌+◌, ◌==◌, Bool, true, false, true≢false, not, List, [], ◌∷◌, codes, map, Option, None, Some, slice_get, Ok, refl, sym, ap, subst, ◌∙◌, arith, eq-eqb}
use Rattle.std.proofs.lemmas.Bool.{cases_Bool, false_from_ne_true}
use Rattle.std.specs.{List.AllZip, List.position_from, List.list_any}
use Rattle.sqlite.specs.Does.{AtPlace, Drops as DoesDrop, Empties, HoldWithout, Leaves, Tally, Tested, Uncounts, no_rows}
use Rattle.sqlite.specs.{Rows.Gives, Rows.Outcome, Rows.Part, Rows.Task, Rows.Then, Command.Command, Command.TheVariants.DropTable, Command.TheVariants.Nothing, Effect.Database, Effect.IsDatabase, Held.Held, Held.state, Listing.understood, State.State, Order.Row, State.ExecutesInside, State.mode_of, Tree.Trees, declared.run.Mode.Mode}
use Rattle.sqlite.proofs.Callers.{runs_as, through, IsPlain}
use Rattle.sqlite_catalog.specs.{Change.without_table, Listing.IsIndexRow}
use Rattle.sqlite_catalog.proofs.{ListFacts.none_placed, SoundLemmas.lowered, StepLemmas.named_once}
use Rattle.sqlite_resolve.specs.Compile.{compiled, drop_table, first, is_reserved, meaning, planned, returning, command, timed}
use Rattle.sqlite_resolve.specs.declared.compiled.Compiled.{Compiled}
use Rattle.sqlite_rules.proofs.ListLemmas.{all_has, has_filtered}
use Rattle.sqlite_rules.specs.Lists.{Has}
use Rattle.sqlite_schema.specs.{Names.same_name, Names.table_named, declared.schema.Index.Index, declared.schema.Keys.TheVariants.Enforced, declared.schema.Schema.Schema, declared.schema.Table.Table}
use Rattle.sqlite_syntax.specs.declared.statement.Parsed.{Parsed}
use Rattle.sqlite_tied.specs.Compute.{everything}
use Rattle.sqlite_trees.specs.declared.store.Store.{Ghosts}
use Rattle.office_tables_statements.specs.{Schema.no_schema, Calls.command_of, Calls.statement_of}
use Rattle.office_tables.proofs.MadeLemmas.{second_of}
use Rattle.office_tables.specs.{Foreign.IsOurs, Opening.AreOurs, Opening.AreRun, declared.open.TheConstants.DROPS}
use Rattle.sqlite_ast.specs.declared.Statement.TheVariants as written

-- ---- what such a text means

abbrev dropping : Option ℕ → Command
dropping None = Nothing
dropping (Some at) = DropTable at

abbrev parsed_as : List ℕ → ℕ → Parsed
parsed_as name end = record { statement = written.DropTable true name; names = []; formats = []; start = 0; end = end; tail = end }

abbrev compiled_as : ℕ → Command → Compiled
compiled_as end c = record { command = c; returning = None; names = []; formats = []; start = 0; end = end; tail = end }

-- the text drops the table of that name, if there is one
record DropsNamed (sql name : List ℕ) : Type 0 where
  end : ℕ
  parsed : first sql ≡ Ok (parsed_as name end)
  free : is_reserved name ≡ false

module _ (sql name : List ℕ) (it : DropsNamed sql name) (schema : Schema) (no_views : schema.views ≡ []) where
  drop_is : (o : Option ℕ) → table_named schema name ≡ o → drop_table schema true name ≡ Ok (dropping o)
  unfolding drop_table
  drop_is None e = rw (it.free, no_views, e) refl
  drop_is (Some at) e = rw (it.free, no_views, e) refl

  compiled_is : (o : Option ℕ) → table_named schema name ≡ o → compiled schema sql ≡ Ok (compiled_as it.end (dropping o))
  unfolding compiled planned meaning returning command timed
  compiled_is o e = rw (it.parsed, drop_is o e) refl

  understood_is : (o : Option ℕ) → table_named schema name ≡ o → understood schema sql ≡ Ok (compiled_as it.end (dropping o))
  unfolding understood
  understood_is o e = rw (compiled_is o e) refl

-- ---- the table that is found

placed_at : {X : Type 0} (p : X → Bool) (xs : List X) (from at : ℕ) → position_from p from xs ≡ Some at → (place : ℕ) × (x : X) × (at ≡ from + place) × (slice_get xs place ≡ Some x) × Has xs x × (p x ≡ true)
placed_at p [] from at e = absurd (cc)
placed_at p (x ∷ xs) from at e = elim (cases_Bool (p x)) [
  | inl hit ↦ let same : from ≡ at = (let h : Some from ≡ Some at = rw hit at e in cc) in (0, x, omega (arith, same), refl, inl refl, hit)
  | inr miss ↦ let later = placed_at p xs (from + 1) at (rw miss at e) in (suc later.0, later.1, omega (arith, later.2), later.3, inr later.4, later.5)
]

module _ (task : Task) (mode : Mode) where
  abbrev Leaving : Trees → Bool → Part (Tally × Database)
  Leaving now in_doubt = Then (Leaves (without_table task.schema task.table.tree) now (λ _. ⊥)) (λ (after : Database). Gives (no_rows in_doubt, after))

  abbrev Testing : Trees → Part (Tally × Database)
  Testing now = Then (Tested mode (HoldWithout task now)) (Leaving now)

  abbrev Uncounting : Trees → Part (Tally × Database)
  Uncounting emptied = Then (Uncounts task emptied) Testing

drop_found : (old new : State) (count at : ℕ) (sql : List ℕ) (table : Table) (drops : command_of (understood old.now.schema sql) ≡ DropTable at) → IsPlain (understood old.now.schema sql)
    → slice_get old.now.schema.tables at ≡ Some table → ExecutesInside 0 sql [] old new (Ok count)
    → (new.now.schema ≡ without_table old.now.schema table.tree) × IsDatabase new.now
drop_found old new count at sql table drops plain found ran =
    let schema = old.now.schema in
    let text = statement_of sql (understood schema sql) in
    let db = old.now.trees in
    let mode = mode_of old in
    let did = runs_as sql [] old new schema refl (DropTable at) drops plain count ran.0 in
    let out : Outcome (Tally × Database) = Ok (did.tally, new.now) in
    let task_of : Table → Task = λ t. record { limit = old.step_limit; keys = Enforced; schema = schema; table = t; params = [] } in
    let task = task_of table in
    let whole = subst (λ (o : Option Table). AtPlace (λ (t : Table). DoesDrop (task_of t) mode db) o out) found did.changed in
    let one = through (Empties task db) (Uncounting task mode) (did.tally, new.now) whole in
    let two = through (Uncounts task one.0) (Testing task mode) (did.tally, new.now) one.2 in
    let three = through (Tested mode (HoldWithout task two.0)) (Leaving task mode two.0) (did.tally, new.now) two.2 in
    let four = through (Leaves (without_table schema table.tree) two.0 (λ _. ⊥)) (λ (after : Database). Gives (no_rows three.0, after)) (did.tally, new.now) three.2 in
    let last : four.0 ≡ new.now = sym (ap (second_of new.now) {y = Ok (no_rows three.0, four.0)} four.2) in
    (ap (λ (d : Database). d.schema) (sym last) ∙ four.1.0, did.sound)

-- ---- one text after another

-- what the tables are that are left, by their names
record AreLeft (names : List (List ℕ)) (db : Database) : Type 0 where
  sound : IsDatabase db
  no_views : db.schema.views ≡ []
  named : (t : Table) → Has db.schema.tables t → list_any (same_name t.name) names ≡ true

same_as : (a b name : List ℕ) → same_name a name ≡ true → same_name b name ≡ true → same_name a b ≡ true
same_as a b name x y = (lowered a b).1 ((lowered a name).0 x ∙ sym ((lowered b name).0 y))

others_left : (name : List ℕ) (names : List (List ℕ)) (t : Table) → list_any (same_name t.name) (name ∷ names) ≡ true → same_name t.name name ≡ false → list_any (same_name t.name) names ≡ true
others_left name names t any miss = rw miss at any

module _ (sql name : List ℕ) (it : DropsNamed sql name) (names : List (List ℕ)) (old new : State) (count : ℕ) (was : AreLeft (name ∷ names) old.now) (ran : ExecutesInside 0 sql [] old new (Ok count)) where
  abbrev schema : Schema
  schema = old.now.schema

  abbrev is_named : Table → Bool
  is_named t = same_name t.name name

  plain_is : (o : Option ℕ) → table_named schema name ≡ o → IsPlain (understood schema sql)
  plain_is o e = subst IsPlain (sym (understood_is sql name it schema was.no_views o e)) (refl, refl)

  command_is : (o : Option ℕ) → table_named schema name ≡ o → command_of (understood schema sql) ≡ dropping o
  command_is o e = ap command_of (understood_is sql name it schema was.no_views o e)

  dropped : (o : Option ℕ) → table_named schema name ≡ o → AreLeft names new.now
  dropped None e =
      let did = runs_as sql [] old new schema refl Nothing (command_is None e) (plain_is None e) count ran.0 in
      let same : new.now ≡ old.now = did.0.0.now_is in
      subst (AreLeft names) (sym same) (record {
        sound = was.sound;
        no_views = was.no_views;
        named = λ t there. others_left name names t (was.named t there) (none_placed is_named schema.tables 0 t e there);
      })
  dropped (Some at) e =
      let placed = placed_at is_named schema.tables 0 at e in
      let table = placed.1 in
      let found : slice_get schema.tables at ≡ Some table = ap (slice_get schema.tables) (placed.2 ∙ omega arith) ∙ placed.3 in
      let did = drop_found old new count at sql table (command_is (Some at) e) (plain_is (Some at) e) found ran in
      record {
        sound = did.1;
        no_views = ap (λ (s : Schema). s.views) did.0 ∙ was.no_views;
        named = λ t there.
            let kept = has_filtered (λ (x : Table). not (x.tree == table.tree)) schema.tables t (subst (λ (s : Schema). Has s.tables t) did.0 there) in
            let other : is_named t ≡ false = false_from_ne_true (is_named t) (λ named.
            let same = named_once schema.tables t table was.sound.lists.listed.named kept.0 placed.4 (same_as t.name table.name name named placed.5) in
            true≢false (sym kept.1 ∙ ap not (eq-eqb t.tree table.tree (ap (λ (x : Table). x.tree) same)))) in
            others_left name names t (was.named t kept.0) other;
      }

-- the texts drop the tables of these names
abbrev AllDrop : List (List ℕ) → List (List ℕ) → Type 0
AllDrop [] [] = Unit {0}
AllDrop (sql ∷ more) (name ∷ names) = DropsNamed sql name × AllDrop more names
AllDrop _ _ = ⊥

module _ {S : Type 0} (g : Ghosts S) where
  all_dropped : (texts names : List (List ℕ)) → AllDrop texts names → (old new : Held S) → old.in_transaction ≡ true → AreRun g texts old new → AreLeft names (state g old).now
      → AreLeft [] (state g new).now × (new.in_transaction ≡ true)
  all_dropped [] [] all old new inside run was = subst (λ (h : Held S). AreLeft [] (state g h).now × (h.in_transaction ≡ true)) (sym run) (was, inside)
  all_dropped (sql ∷ more) (name ∷ names) all old new inside run was =
      all_dropped more names all.1 run.0 new run.2.1.mode run.3 (dropped sql name all.0 names (state g old) (state g run.0) run.1 was run.2 _ refl)
  all_dropped _ _ all old new inside run was = absurd all

-- ---- no table is left

no_tables : (ts : List Table) → ((t : Table) → Has ts t → list_any (same_name t.name) [] ≡ true) → ts ≡ []
no_tables [] none = refl
no_tables (t ∷ ts) none = absurd (let e = none t (inl refl) in cc)

no_owner : (ts : List Table) (rows : List Row) (is : List Index) → ts ≡ [] → AllZip (IsIndexRow ts) rows is → is ≡ []
no_owner ts [] [] none zipped = refl
no_owner ts (r ∷ rows) (i ∷ is) none zipped = absurd (subst (λ xs. Has xs zipped.0.table) none zipped.0.listed)
no_owner ts _ _ none zipped = absurd zipped

none_left : (db : Database) → AreLeft [] db → db.schema ≡ no_schema
none_left db it =
    let none = no_tables db.schema.tables it.named in
    let indexes = no_owner db.schema.tables _ db.schema.indexes none it.sound.lists.listed.indexes in
    λ i. record { tables = none i; indexes = indexes i; views = it.no_views i }

-- ---- the texts of the office

abbrev office_names : List (List ℕ)
office_names = codes "used_part" ∷ codes "delivery" ∷ codes "work_order" ∷ codes "inspection" ∷ codes "draft" ∷ codes "timing" ∷ codes "part" ∷ codes "intersection" ∷ codes "office_version" ∷ []

all_drop : AllDrop (map (λ text. text.now) DROPS) office_names
unfolding everything
all_drop =
    (record { end = 30; parsed = refl; free = refl }, (record { end = 29; parsed = refl; free = refl }, (record { end = 31; parsed = refl; free = refl }, (record { end = 31; parsed = refl; free = refl }, (record { end = 26; parsed = refl; free = refl }, (record { end = 27; parsed = refl; free = refl }, (record { end = 25; parsed = refl; free = refl }, (record { end = 33; parsed = refl; free = refl }, (record { end = 35; parsed = refl; free = refl }, tt)))))))))

one_of_them : (name : List ℕ) → IsOurs name → list_any (same_name name) office_names ≡ true
unfolding everything
one_of_them name (inl is) = rw is refl
one_of_them name (inr (inl is)) = rw is refl
one_of_them name (inr (inr (inl is))) = rw is refl
one_of_them name (inr (inr (inr (inl is)))) = rw is refl
one_of_them name (inr (inr (inr (inr (inl is))))) = rw is refl
one_of_them name (inr (inr (inr (inr (inr (inl is)))))) = rw is refl
one_of_them name (inr (inr (inr (inr (inr (inr (inl is))))))) = rw is refl
one_of_them name (inr (inr (inr (inr (inr (inr (inr (inl is)))))))) = rw is refl
one_of_them name (inr (inr (inr (inr (inr (inr (inr (inr (inl is))))))))) = rw is refl
one_of_them name (inr (inr (inr (inr (inr (inr (inr (inr (inr none))))))))) = absurd none

pub blank_after : {S : Type 0} (g : Ghosts S) (old new : Held S) → old.in_transaction ≡ true → AreOurs (state g old).now → AreRun g (map (λ text. text.now) DROPS) old new
    → ((state g new).now.schema ≡ no_schema) × (new.in_transaction ≡ true)
blank_after g old new inside ours run =
    let it = all_dropped g (map (λ text. text.now) DROPS) office_names all_drop old new inside run (record {
      sound = ours.sound;
      no_views = ours.no_views;
      named = λ t there. one_of_them t.name (all_has (λ (t : Table). IsOurs t.name) (state g old).now.schema.tables t ours.named there);
    }) in
    (none_left (state g new).now it.0, it.1)
