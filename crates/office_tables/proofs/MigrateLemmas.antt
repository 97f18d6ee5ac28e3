-- What the steps of a migration come to.
use Rattle.std.proofs.Common.{◌≡◌, ◌≢◌, inl, inr, ℕ, ◌-◌, List, [], ◌∷◌, ◌++◌, length, map, None, Some, pos, Result, Ok, Err, IsTrue, refl, sym, ap, subst, subst₂, ◌∙◌, arith, length-append}
use Rattle.std.specs.{FinMap.entries, Prelude.IsErrAnd}
use Rattle.std.proofs.lemmas.Bool.{cases_Bool}
use Rattle.sqlite.specs.{Order.Row, Order.column, Tree.Trees, Effect.Database, Held.Held, Held.state, State.State, State.Survives}
use Rattle.sqlite.proofs.StateLemmas.{survives_then}
use Rattle.sqlite_tied.specs.Compute.{everything}
use Rattle.sqlite_trees.specs.declared.store.Store.{Ghosts}
use Rattle.signal_records.proofs.RowLaws.{are_version_1}
use Rattle.signal_records.specs.{ChangedRows.left_by, Row.key_of, Within.IsChangeWithin, Within.IsRowWithin, Within.version_1_limits, declared.record.Change.Change, declared.record.Change.TheVariants.Put, declared.record.Change.TheVariants.Remove, declared.record.Row.Row as TimingRow}
use Rattle.office_tables_shelf.specs.{Cells.Cell, Cells.null, Cells.number, Cells.text, Change.changed, Change.changed_by, Content.Content, declared.rows.RowChange.RowChange}
use Rattle.office_tables_shelf.specs.Rows.{body_in, draft_key, left_columns_in, timing_key}
use Rattle.office_tables_shelf.proofs.RowLemmas.{same_row}
use Rattle.office_tables_statements.specs.{Calls.IsHonest, Calls.IsOffice, Calls.Keeps, Listed.shown_key, Stored.cell_of, Stored.content_now, Stored.content_of, Tables.IsListText, Tables.columns_shown, Tables.key_shown, Tables.width_of}
use Rattle.office_tables_statements.proofs.CallLemmas.{survives_on}
use Rattle.office_tables_sql.specs.Version.{Completes, version_in, first_version}
use Rattle.office_tables.specs.{Opening.WritesToday, Migration.IsMigrated, Migrate.IsAnew, Migrate.MayBecome, Migrate.Migrates, declared.open.OpenFault.OpenFault, declared.rewritten.Migrated.Migrated, declared.rewritten.Spelled.Spelled, declared.rewritten.Spelled.TheVariants.Timing, declared.rewritten.Spelled.TheVariants.Draft, declared.rewritten.TheConstants.TIMING, declared.rewritten.TheConstants.DRAFT}
use Rattle.office_tables.specs.Rewritten.{IsFormer, KeptRow, Puts, former_columns, has_ped, kept_key, put_again, puts, spelled_table}
use Rattle.office_tables.proofs.Migration.{migrated}
use Rattle.office_tables_shelf.specs.declared.rows.Table.TheVariants as table
use Rattle.office_tables.specs.declared.open.OpenFault.TheVariants as fault

changed_after : (tables : Content) (first second : List RowChange) → changed_by tables (first ++ second) ≡ changed_by (changed_by tables first) second
changed_after tables [] second = refl
changed_after tables (c ∷ first) second = changed_after (changed tables c) first second

-- the changes that put the rows of both tables again migrate them
pub puts_migrate : (old : Content) (first all : List RowChange) → Puts Timing (entries old.timing) [] first → Puts Draft (entries old.draft) first all
    → IsMigrated old (changed_by old all) (record { timing = length first; draft = length all - length first })
puts_migrate old first all timing drafts =
    let p = puts Timing timing.kept in
    let q = puts Draft drafts.kept in
    let whole : all ≡ p ++ q = drafts.appended ∙ ap (λ (cs : List RowChange). cs ++ q) timing.appended in
    let content : changed_by (changed_by old p) q ≡ changed_by old all = sym (changed_after old p q) ∙ ap (changed_by old) (sym whole) in
    let many : length p ≡ length first = ap length (sym timing.appended) in
    let few : length q ≡ length all - length first = omega (arith, many, ap length whole, length-append p q) in
    subst₂ (IsMigrated old) content (λ i. record { timing = many i; draft = few i }) (migrated old timing.kept drafts.kept timing.are drafts.are)

pub keeps_on : (a b c : State) → Keeps a b → Keeps b c → Keeps a c
keeps_on a b c one two = record { office = two.office; honest = λ h. one.honest (two.honest h); same = λ h. two.same h ∙ one.same (two.honest h); crash = survives_on a b c one.crash two.crash }

module _ {S : Type 0} (g : Ghosts S) (old mid : Held S) (office : IsOffice (state g old)) (keeps : Keeps (state g old) (state g mid)) where
  pub same : IsHonest (state g mid) → (state g mid).now.trees ≡ (state g old).committed.trees
  same h = ap (λ (d : Database). d.trees) (keeps.same h ∙ office.settled (keeps.honest h))

  still : IsHonest (state g mid) → (state g mid).committed.trees ≡ (state g old).committed.trees
  still h = ap (λ (d : Database). d.trees) (sym (keeps.office.settled h)) ∙ same h

  module _ (new : Held S) (tables : Content) (count : Migrated) (anew : IsHonest (state g mid) → (trees : Trees) → Completes tables trees → IsAnew (state g old).committed.trees trees count) where
    crash : Survives (state g mid) (state g new) (λ trees. IsHonest (state g mid) × Completes tables trees) → Survives (state g old) (state g new) (MayBecome (state g old).committed.trees)
    crash wrote = survives_then _ _ _ (λ _. ⊥) (λ trees. IsHonest (state g mid) × Completes tables trees) _ (λ _ _ none. absurd none) (λ clean db became. (count, anew became.0 db became.1)) keeps.crash wrote

    -- refused when it was written
    pub unwritten : {A E : Type 0} (error : E) (result : Result Migrated OpenFault) → IsErrAnd result (λ why. (why ≢ fault.Version) × (why ≢ fault.Damaged)) → WritesToday {A = A} (Err error) tables (state g mid) (state g new) → Migrates g result old new
    unwritten error (Ok done) none it = absurd none
    unwritten error (Err why) none it = record {
      brought = λ h. tt;
      version = λ is. absurd (none.0 (cc));
      damaged = λ is. absurd (none.1 (cc));
      unchanged = λ h. it.kept h ∙ still (it.honest h);
      crash = crash it.crash;
      settled = λ h. tt;
      opened = λ h. tt;
      idle = λ _. it.idle;
    }

    pub written : {A E : Type 0} (done : A) → WritesToday {E = E} (Ok done) tables (state g mid) (state g new)
        → ((trees : Trees) → IsTrue (state g new).is_open → (state g new).may_leave trees → trees ≡ (state g new).committed.trees) → Migrates g (Ok count) old new
    written done it stays = record {
      brought = λ h. inr (anew (it.honest h) _ (it.made h));
      version = λ is. absurd cc;
      damaged = λ is. absurd cc;
      unchanged = λ h. tt;
      crash = crash it.crash;
      settled = λ h trees may. stays trees h.1 may ∙ sym (ap (λ (d : Database). d.trees) (it.office.settled h));
      opened = it.opened;
      idle = λ _. it.idle;
    }

-- the tables with the changes made, where version 1 was stored and the rows of both tables were read
module _ {S : Type 0} (g : Ghosts S) (old one two three : Held S) (office : IsOffice (state g old)) (first_keeps : Keeps (state g old) (state g one)) (second_keeps : Keeps (state g one) (state g two)) (third_keeps : Keeps (state g two) (state g three)) where
  pub keeps_all : Keeps (state g old) (state g three)
  keeps_all = keeps_on _ (state g two) _ (keeps_on _ (state g one) _ first_keeps second_keeps) third_keeps

  pub anew_by : (none first all slice : List RowChange) → none ≡ [] → slice ≡ all → (IsHonest (state g two) → Puts Timing (entries (content_now (state g one)).timing) none first)
      → (IsHonest (state g three) → Puts Draft (entries (content_now (state g two)).draft) first all) → (IsHonest (state g one) → Some first_version ≡ version_in (state g old).now.trees)
      → (count : Migrated) → count.timing ≡ length first → count.draft ≡ length all - length first
      → IsHonest (state g three) → (trees : Trees) → Completes (changed_by (content_now (state g three)) slice) trees → IsAnew (state g old).committed.trees trees count
  anew_by none first all slice is_none is_all timing draft version count many few late trees made =
      let mid = third_keeps.honest late in
      let early = second_keeps.honest mid in
      let now = content_of (state g old).committed.trees in
      let at_one = ap content_of (same g old one office first_keeps early) in
      let at_two = ap content_of (same g old two office (keeps_on _ (state g one) _ first_keeps second_keeps) mid) in
      let at_three = ap content_of (same g old three office keeps_all late) in
      let puts_timing = subst₂ (λ (tables : Content) (cs : List RowChange). Puts Timing (entries tables.timing) cs first) at_one is_none (timing mid) in
      let puts_draft = subst (λ (tables : Content). Puts Draft (entries tables.draft) first all) at_two (draft late) in
      record {
        was = ap (λ (d : Database). version_in d.trees) (sym (office.settled (first_keeps.honest early))) ∙ sym (version early);
        migrated = subst₂ (IsMigrated now) (sym (made.content ∙ (λ i. changed_by (at_three i) (is_all i)))) (λ i. record { timing = sym many i; draft = sym few i }) (puts_migrate now first all puts_timing puts_draft);
        stored = made.today;
      }

-- ---- the rows of version 1

pub lists_timing : IsListText table.Timing None TIMING.now
unfolding everything
lists_timing = refl

pub lists_draft : IsListText table.Draft None DRAFT.now
unfolding everything
lists_draft = refl

-- the row of a text, in whichever intersection its first column says
one_key : (row : Row) (found : TimingRow) (id mine : ℕ) (change : Change) → IsRowWithin version_1_limits found → IsChangeWithin version_1_limits change → cell_of (column row 4) ≡ text (body_in version_1_limits found)
    → cell_of (column row 0) ≡ number (pos mine) → shown_key row ≡ draft_key id change → cell_of (column row 4) ∷ [] ≡ left_columns_in version_1_limits (left_by change) → shown_key row ≡ timing_key mine (key_of found)
one_key row found id mine (Remove k) in_found within body first keys columns =
    absurd (let e : text (body_in version_1_limits found) ∷ [] ≡ null ∷ [] = ap (λ (c : Cell). c ∷ []) (sym body) ∙ columns in cc)
one_key row found id mine (Put r) in_found within body first keys columns =
    let told : body_in version_1_limits found ≡ body_in version_1_limits r = cc in
    let same : found ≡ r = same_row version_1_limits found r are_version_1 in_found within told in
    let here : id ≡ mine = cc in
    keys ∙ (λ i. timing_key (here i) (key_of (sym same i)))

pub other_key : (t : Spelled) (row : Row) (found : TimingRow) (mine : ℕ) (x : KeptRow) → IsRowWithin version_1_limits found → cell_of (column row 4) ≡ text (body_in version_1_limits found)
    → cell_of (column row 0) ≡ number (pos mine) → IsFormer t x → key_shown (spelled_table t) row ≡ kept_key x → columns_shown (spelled_table t) row ≡ former_columns x → shown_key row ≡ timing_key mine (key_of found)
other_key Timing row found mine (id, Put r) in_found body first within keys columns = one_key row found id mine (Put r) in_found within.1 body first keys columns
other_key Timing row found mine (id, Remove k) in_found body first within keys columns = absurd within.1
other_key Draft row found mine (id, change) in_found body first within keys columns = one_key row found id mine change in_found within.1 body first keys columns

pub five_wide : (t : Spelled) → width_of (spelled_table t) ≡ 5
five_wide Timing = refl
five_wide Draft = refl

-- one more row
pub shift : {X Y Z : Type 0} (f : X → Z) (g : Y → Z) (xs : List X) (x : X) (y : Y) (ys : List Y) → f x ≡ g y → map f (xs ++ x ∷ []) ++ map g ys ≡ map f xs ++ map g (y ∷ ys)
shift f g [] x y ys same = ap (λ z. z ∷ map g ys) same
shift f g (w ∷ xs) x y ys same = ap (λ zs. f w ∷ zs) (shift f g xs x y ys same)

pub puts_more : (t : Spelled) (kept : List KeptRow) (k : KeptRow) → puts t (kept ++ k ∷ []) ≡ puts t kept ++ puts t (k ∷ [])
puts_more t [] k = refl
puts_more t (x ∷ kept) k = elim (cases_Bool (has_ped x.1)) [
  | inl some ↦ rw some (ap (λ cs. put_again t x ∷ cs) (puts_more t kept k))
  | inr none ↦ rw none (puts_more t kept k)
]
