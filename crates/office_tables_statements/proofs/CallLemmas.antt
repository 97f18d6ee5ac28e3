-- What a statement leaves of a connection, also where the rows of a query are read one at a time, and what the rows so far are.
use Rattle.std.proofs.Common.{◌≡◌, ◌⊎◌, inl, inr, ℕ, ◌≤◌, List, [], true, false, None, Some, Ok, Option, IsTrue, refl, sym, ap, subst, ◌∙◌, arith, true≢false, cond, ◌∷◌, ◌++◌, map}
use Rattle.sqlite_trees.specs.View.{doubt}
use Rattle.sqlite.specs.{Order.Row, Tree.Trees, declared.error.Error.Error, Clock.timed, Effect.Database, Effect.IsDatabase, Given.IsPlain, Given.Returns, Given.HasGiven, Given.HasBegun, Listing.understood, Steps.FailsToCommit, Held.Held, Held.state}
use Rattle.sqlite.specs.State.{State, HasCleanDisk, Survives, CommitsShowing, IsUnchanged, IsRolledBack, Shown, ShowsRows, FailsToQuery, FailsToShow, IsNotRun, ExecutesInside, IsTooLate, Begins, Fails}
use Rattle.sqlite_schema.specs.declared.command.Returning.{Returning}
use Rattle.office_tables_statements.specs.{Schema.office_schema, Tables.IsListText, Tables.row_shown, Tables.stored_for}
use Rattle.office_tables_statements.specs.Calls.{AreOrdered, IsHonest, IsOffice, IsReady, IsStatement, Keeps, Reads, Ran, StandsOn, command_of}
use Rattle.sqlite.proofs.Callers.{reads_as, runs_as, survives_begin, begins_shown, EndsIn}
use Rattle.sqlite.proofs.StateLemmas.{survives_then, survives_weaker}
use Rattle.office_tables_statements.proofs.{Meaning.is_command, Meaning.is_plain, Meaning.is_unlisted, Returning.never_returns}
use Rattle.std.specs.List.{AllByRecursion}
use Rattle.std.proofs.lemmas.List.{map-append}
use Rattle.sqlite_rules.specs.Lists.{Has}
use Rattle.sqlite_rules.proofs.ListLemmas.{has_left, has_right}
use Rattle.office_tables_shelf.specs.{declared.rows.Table.Table, Cells.Cell}
use Rattle.sqlite_trees.specs.declared.store.Store as store

abbrev pub IsUndisturbed : State → State → Type 0
IsUndisturbed old new = IsUnchanged old new ⊎ IsRolledBack old new

-- the connection was open, and the last commit stands
abbrev Kept : State → State → Type 0
Kept old new = (IsTrue new.is_open → IsTrue old.is_open) × (IsTrue new.is_open → new.committed ≡ old.committed)

undisturbed_kept : (old new : State) → IsUndisturbed old new → Kept old new
undisturbed_kept old new (inl same) = (λ _. same.0.was_open, λ _. same.0.committed_is)
undisturbed_kept old new (inr undone) = (undone.was_open, λ h. (undone.undone h).1)

shown_open : (sql : List ℕ) (params : Row) (old new : State) (rows : List Row) → Shown sql params old new rows → IsTrue old.is_open × IsTrue new.is_open
unfolding Shown
shown_open sql params old new rows h = go h.0.returning h.2
  where
    go : (returning : Option Returning) → ShowsRows old new sql h.0 (timed params h.0.formats h.1.now) rows returning → IsTrue old.is_open × IsTrue new.is_open
    go None it = (it.3.0.was_open, it.3.0.is_open)
    go (Some what) it = (it.1.shown.was_open, it.1.shown.is_open)

-- what shows rows leaves the database open
pub shown_honest : (sql : List ℕ) (params : Row) (old new : State) (rows : List Row) → (HasCleanDisk new → Shown sql params old new rows) → HasCleanDisk new → IsHonest new
shown_honest sql params old new rows h clean = (clean, (shown_open sql params old new rows (h clean)).1)

shown_unchanged : (sql : List ℕ) (params : Row) (old new : State) (rows : List Row) → IsPlain (understood old.now.schema sql) → Shown sql params old new rows → IsUnchanged old new
unfolding Shown
shown_unchanged sql params old new rows plain h = (subst (ShowsRows old new sql h.0 (timed params h.0.formats h.1.now) rows) (subst IsPlain h.1.is plain).0 h.2).3

pub fails_undisturbed : (sql : List ℕ) (params : Row) (old new : State) (e : Error) → FailsToQuery sql params old new e → IsUndisturbed old new
unfolding FailsToQuery IsNotRun
fails_undisturbed sql params old new e (inl (inl none)) = inl none.1
fails_undisturbed sql params old new e (inl (inr failed)) = inr failed.3
fails_undisturbed sql params old new e (inr h) = go h.0.returning h.2
  where
    go : (returning : Option Returning) → FailsToShow old new sql h.0 (timed params h.0.formats h.1.now) e returning → IsUndisturbed old new
    go None it = inl it.3
    go (Some what) (inl it) = inl it.1
    go (Some what) (inr it) = inr it.3

pub survives_on : (a b c : State) → Survives a b (λ _. ⊥) → Survives b c (λ _. ⊥) → Survives a c (λ _. ⊥)
survives_on a b c p q = survives_then a b c (λ _. ⊥) (λ _. ⊥) (λ _. ⊥) (λ _ _ none. none) (λ _ _ none. none) p q

-- the office where the tables are as they were, and all is committed
office_as : (old new : State) → IsOffice old → new.in_transaction ≡ false → (IsHonest new → IsHonest old) → (IsHonest new → (new.now ≡ old.now) × (new.now ≡ new.committed)) → IsOffice new
office_as old new office mode honest same = record {
  autocommit = mode;
  schema = λ h. ap (λ (d : Database). d.schema) (same h).0 ∙ office.schema (honest h);
  settled = λ h. (same h).1;
  ordered = λ h. subst (λ (d : Database). AreOrdered d.trees) (sym (same h).0) (office.ordered (honest h));
  sound = λ h. subst IsDatabase (sym (same h).0) (office.sound (honest h));
}

keeps : (old new : State) → IsOffice old → Survives old new (λ _. ⊥) → new.in_transaction ≡ false
    → (IsHonest new → IsTrue old.is_open) → (IsHonest new → old.now.schema ≡ office_schema → IsUndisturbed old new) → Keeps old new
keeps old new office crash mode opened undisturbed =
    let honest : IsHonest new → IsHonest old = λ h. (omega (arith, h.0, crash.clean), opened h) in
    let same : (h : IsHonest new) → (new.now ≡ old.now) × (new.now ≡ new.committed) = λ h. go h (office.settled (honest h)) (undisturbed h (office.schema (honest h))) in
    record { office = office_as old new office mode honest same; honest = honest; same = λ h. (same h).0; crash = crash }
  where
    go : IsHonest new → old.now ≡ old.committed → IsUndisturbed old new → (new.now ≡ old.now) × (new.now ≡ new.committed)
    go h settled (inl same) = (same.0.now_is, same.0.now_is ∙ settled ∙ sym same.0.committed_is)
    go h settled (inr undone) = let it = undone.undone h.1 in (it.0 ∙ sym settled, it.0 ∙ sym it.1)

keeps_then : (a b c : State) → Keeps a b → Keeps b c → Keeps a c
keeps_then a b c one two = record { office = two.office; honest = λ h. one.honest (two.honest h); same = λ h. two.same h ∙ one.same (two.honest h); crash = survives_on a b c one.crash two.crash }

same_self : (s : State) → IsTrue s.is_open → IsUnchanged s s
same_self s opened = (record { was_open = opened; is_open = opened; now_is = refl; committed_is = refl; mode = refl }, record { changes = refl; last_rowid = refl }, refl)

-- a query commits nothing, whatever the tables are
never_commits : (sql : List ℕ) → IsStatement sql → (params : Row) (s : State) (db : Trees) → ¬ CommitsShowing sql params s db
unfolding CommitsShowing
never_commits sql query params s db h = never_returns office_schema s.now.schema sql (is_plain sql query.0 query.1) (subst Returns (sym h.1.is) h.2)

-- a query over the office's tables
module _ (sql : List ℕ) (query : IsStatement sql) (old : State) (office : IsOffice old) where
  module _ (params : Row) (new : State) (then : Survives old new (CommitsShowing sql params old)) (after : new.in_transaction ≡ false) where
    pub queried_survives : Survives old new (λ _. ⊥)
    queried_survives = survives_weaker old new (CommitsShowing sql params old) (λ _. ⊥) (λ clean db. never_commits sql query params old db) then

    pub queried_keeps : (rows : List Row) → (HasCleanDisk new → Shown sql params old new rows) → Keeps old new
    queried_keeps rows h = keeps old new office queried_survives after (λ honest. (shown_open sql params old new rows (h honest.0)).0)
        (λ honest has. inl (shown_unchanged sql params old new rows (subst (λ s. IsPlain (understood s sql)) (sym has) (is_plain sql query.0 query.1)) (h honest.0)))

    pub unqueried_keeps : (e : Error) → (HasCleanDisk new → FailsToQuery sql params old new e) → Keeps old new
    unqueried_keeps e h = keeps old new office queried_survives after
        (λ honest. (undisturbed_kept old new (fails_undisturbed sql params old new e (h honest.0))).0 honest.1) (λ honest has. fails_undisturbed sql params old new e (h honest.0))

    pub queried_reads : (rows : List Row) → (HasCleanDisk new → Shown sql params old new rows) → IsHonest new → Reads sql params old.now rows
    queried_reads rows h honest =
        reads_as sql params old new office_schema (office.schema ((queried_keeps rows h).honest honest)) _ refl (is_plain sql query.0 query.1) (is_unlisted sql query.0 query.1) rows (h honest.0)

  -- whose rows are read one at a time
  pub starts : {S : Type 0} (g : store.Ghosts S) (params : Row) (was now : Held S) → HasBegun g sql params was now → HasGiven g sql params now [] × IsUnchanged (state g was) (state g now)
  starts g params was now (inl h) = h
  starts g params was now (inr h) = absurd (never_returns office_schema was.schema sql (is_plain sql query.0 query.1) h.0)

  -- at some row
  module _ (mid : State) (survives : Survives old mid (λ _. ⊥)) (mode : mid.in_transaction ≡ false) (same : HasCleanDisk mid → IsUnchanged old mid) where
    pub still_keeps : Keeps old mid
    still_keeps = keeps old mid office survives mode (λ honest. (same honest.0).0.was_open) (λ honest has. inl (same honest.0))

    pub broken_keeps : (new : State) → Survives mid new (λ _. ⊥) → new.in_transaction ≡ false → (e : Error) → (HasCleanDisk new → Fails mid new ⊥ e ⊎ IsUnchanged mid new) → Keeps old new
    broken_keeps new crash after e kept =
        keeps_then old mid new still_keeps (keeps mid new still_keeps.office crash after (λ honest. was honest.1 (kept honest.0)) (λ honest has. undisturbed (kept honest.0)))
      where
        was : IsTrue new.is_open → Fails mid new ⊥ e ⊎ IsUnchanged mid new → IsTrue mid.is_open
        was up (inl failed) = failed.3.was_open up
        was up (inr kept) = kept.0.was_open

        undisturbed : Fails mid new ⊥ e ⊎ IsUnchanged mid new → IsUnchanged mid new ⊎ IsRolledBack mid new
        undisturbed (inl failed) = inr failed.3
        undisturbed (inr kept) = inl kept

    known : (clean : HasCleanDisk mid) → mid.now.schema ≡ office_schema
    known clean = still_keeps.office.schema (clean, (same clean).0.is_open)

    -- at the end
    pub all_read : (params : Row) (new : State) → doubt mid.is_clean ≤ doubt new.is_clean → (rows : List Row) → (HasCleanDisk new → Shown sql params mid new rows) → IsHonest new → Reads sql params old.now rows
    all_read params new clean rows shown honest =
        let early : HasCleanDisk mid = omega (arith, honest.0, clean) in
        subst (λ (d : Database). Reads sql params d rows) (same early).0.now_is (reads_as sql params mid new office_schema (known early) _ refl (is_plain sql query.0 query.1) (is_unlisted sql query.0 query.1) rows (shown honest.0))

    -- the rows so far are the first of an answer
    pub some_read : (params : Row) (t : Table) (whose : Option ℕ) → IsListText t whose sql → IsHonest mid → (rows : List Row) → Begins sql params mid rows → (tail : List Row) × Reads sql params old.now (rows ++ tail)
    some_read params t whose means honest rows begins =
        let has = known honest.0 in
        let whole = begins_shown sql params mid mid rows begins (same_self mid honest.1) (λ c db it source.
        let is : Ok c ≡ understood office_schema sql = sym it.is ∙ ap (λ s. understood s sql) has in
        let command : c.command ≡ _ = ap command_of is ∙ is_command sql _ means in
        subst (λ k. EndsIn k db (timed params c.formats it.now)) (sym command) tt) in
        (whole.0, subst (λ (d : Database). Reads sql params d (rows ++ whole.0)) (same honest.0).0.now_is (reads_as sql params mid mid office_schema has _ refl (is_plain sql query.0 query.1) (is_unlisted sql query.0 query.1) (rows ++ whole.0) whole.1))

-- ---- inside a transaction

pub stands_then : (a b c : State) → StandsOn a b → StandsOn b c → StandsOn a c
stands_then a b c one two = record { honest = λ h. one.honest (two.honest h); committed = λ h. two.committed h ∙ one.committed (two.honest h); crash = survives_on a b c one.crash two.crash }

module _ (held : ℕ) (sql : List ℕ) (params : Row) (old new : State) (crash : Survives old new (λ _. ⊥)) where
  pub ran_stands : (count : ℕ) → (HasCleanDisk new → ExecutesInside held sql params old new (Ok count)) → StandsOn old new
  ran_stands count h = record {
    honest = λ honest. (omega (arith, honest.0, crash.clean), (h honest.0).1.was_open);
    committed = λ honest. (h honest.0).1.committed_is;
    crash = crash;
  }

  pub ran : (count : ℕ) → IsStatement sql → ExecutesInside held sql params old new (Ok count) → Ran sql params old new count
  ran count means h = record { was_open = h.1.was_open; inside = rw h.1.mode; runs = λ has. runs_as sql params old new office_schema has _ refl (is_plain sql means.0 means.1) count h.0 }

-- a transaction over the office's tables whose commit fails is undone
module _ (old mid new : State) (office : IsOffice old) (stands : StandsOn old mid) (clean : doubt mid.is_clean ≤ doubt new.is_clean) (inside : HasCleanDisk mid → IsHonest old → mid.in_transaction ≡ true)
    (fails : HasCleanDisk new → IsRolledBack mid new ⊎ ((mid.in_transaction ≡ false) × IsUnchanged mid new)) where
  back : IsHonest new → IsHonest mid
  back honest = (
    omega (arith, honest.0, clean),
    elim (fails honest.0) [
      | inl undone ↦ undone.was_open honest.1
      | inr same ↦ same.1.0.was_open
    ],
  )

  undone : IsHonest new → (new.now ≡ mid.committed) × (new.committed ≡ mid.committed)
  undone honest = elim (fails honest.0) [
    | inl it ↦ it.undone honest.1
    | inr same ↦ absurd (true≢false (sym (inside (back honest).0 (stands.honest (back honest))) ∙ same.0))
  ]

  undone_office : new.in_transaction ≡ false → IsOffice new
  undone_office mode = office_as old new office mode (λ h. stands.honest (back h)) (λ h.
      let it = undone h in (it.0 ∙ stands.committed (back h) ∙ sym (office.settled (stands.honest (back h))), it.0 ∙ sym it.1))

failed_commit : (mid new : State) (e : Error) → FailsToCommit mid new e → IsRolledBack mid new ⊎ ((mid.in_transaction ≡ false) × IsUnchanged mid new)
failed_commit mid new e (inl failed) = inl failed.3
failed_commit mid new e (inr none) = inr (none.1, none.2)

pub begun_stands : {S : Type 0} (g : store.Ghosts S) (old : Held S) (new : State) → StandsOn (state g (record old { in_transaction = true })) new → StandsOn (state g old) new
begun_stands g old new h = record { honest = h.honest; committed = h.committed; crash = survives_begin g old new _ h.crash }

-- a transaction whose steps leave nothing more leaves, once it ends, what it then holds
pub ended_survives : {S : Type 0} (g : store.Ghosts S) (old mid : Held S) (new : State)
    (P : Trees → Type 0)
    → Survives (state g (record old { in_transaction = true })) (state g mid) (λ _. ⊥)
    → Survives (state g mid) new (λ db. db ≡ (state g mid).now.trees)
    → (HasCleanDisk (state g mid) → P (state g mid).now.trees) → Survives (state g old) new P
ended_survives g old mid new P steps end holds =
    survives_then (state g old) (state g mid) new (λ _. ⊥) (λ db. db ≡ (state g mid).now.trees) P
    (λ _ db none. absurd none)
    (λ clean db is. subst P (sym is) (holds (omega (arith, clean, end.clean))))
    (survives_begin g old (state g mid) _ steps) end

pub begun_ready : {S : Type 0} (g : store.Ghosts S) (old : Held S) → IsOffice (state g old) → IsHonest (state g old) → IsReady (state g (record old { in_transaction = true }))
begun_ready g old office honest = record { inside = refl; schema = office.schema honest; ordered = office.ordered honest; sound = office.sound honest }

-- a transaction over the office's tables whose steps leave it ready
module _ {S : Type 0} (g : store.Ghosts S) (old mid : Held S) (new : State) (office : IsOffice (state g old)) where
  abbrev begun : State
  begun = state g (record old { in_transaction = true })

  -- the office is as before where its commit fails
  pub commit_undone : StandsOn begun (state g mid) → (HasCleanDisk (state g mid) → IsReady begun → IsReady (state g mid)) → doubt (state g mid).is_clean ≤ doubt new.is_clean → (e : Error) → (HasCleanDisk new → FailsToCommit (state g mid) new e) → new.in_transaction ≡ false → IsOffice new
  commit_undone stands ready clean e fails =
      undone_office (state g old) (state g mid) new office (begun_stands g old (state g mid) stands) clean (λ clean honest. (ready clean (begun_ready g old office honest)).inside) (λ clean. failed_commit (state g mid) new e (fails clean))

  -- and a stop leaves what the tables then hold
  pub commit_survives : (P : Trees → Type 0) → Survives begun (state g mid) (λ _. ⊥) → Survives (state g mid) new (λ db. db ≡ (state g mid).now.trees)
      → (HasCleanDisk (state g mid) → IsHonest (state g old)) → (HasCleanDisk (state g mid) → IsReady begun → P (state g mid).now.trees)
      → Survives (state g old) new (λ trees. IsHonest (state g old) × P trees)
  commit_survives P steps end was holds = ended_survives g old mid new (λ trees. IsHonest (state g old) × P trees) steps end (λ clean. (was clean, holds clean (begun_ready g old office (was clean))))

-- ---- a query on tables of whatever layout, in a transaction that is then undone

shown_kept : (sql : List ℕ) (params : Row) (old new : State) (rows : List Row) → old.in_transaction ≡ true → Shown sql params old new rows → Kept old new
unfolding Shown
shown_kept sql params old new rows inside h = go h.0.returning h.2
  where
    go : (returning : Option Returning) → ShowsRows old new sql h.0 (timed params h.0.formats h.1.now) rows returning → Kept old new
    go None it = undisturbed_kept old new (inl it.3)
    go (Some what) it = (λ _. it.1.shown.was_open, λ _. it.1.shown.committed_is ∙ ap (λ b. cond b old.committed new.now) inside)

stands_if : (old mid new : State) → Survives old mid (λ _. ⊥) → Survives mid new (λ _. ⊥) → (HasCleanDisk mid → Kept old mid) → (HasCleanDisk new → IsRolledBack mid new) → StandsOn old new
stands_if old mid new first second kept undone = record {
  honest = λ h. let early : HasCleanDisk mid = omega (arith, h.0, second.clean) in (omega (arith, early, first.clean), (kept early).0 ((undone h.0).was_open h.1));
  committed = λ h. let early : HasCleanDisk mid = omega (arith, h.0, second.clean) in ((undone h.0).undone h.1).1 ∙ (kept early).1 ((undone h.0).was_open h.1);
  crash = survives_on old mid new first second;
}

module _ (sql : List ℕ) (params : Row) (old mid new : State) (inside : old.in_transaction ≡ true)
    (first : Survives old mid (λ _. ⊥)) (second : Survives mid new (λ _. ⊥)) (undone : HasCleanDisk new → IsRolledBack mid new) where
  pub asked_stands : (rows : List Row) → (HasCleanDisk mid → Shown sql params old mid rows) → StandsOn old new
  asked_stands rows shown = stands_if old mid new first second (λ h. shown_kept sql params old mid rows inside (shown h)) undone

  pub unasked_stands : (e : Error) → (HasCleanDisk mid → FailsToQuery sql params old mid e ⊎ IsTooLate sql params old mid e) → StandsOn old new
  unasked_stands e fails = stands_if old mid new first second (λ h. elim (fails h) [
    | inl failed ↦ undisturbed_kept old mid (fails_undisturbed sql params old mid e failed)
    | inr late ↦ undisturbed_kept old mid (inl late.5)
  ]) undone

pub one_more : {X Y Z : Type 0} (f : X → Z) (h : Y → Z) (xs : List X) (ys : List Y) (x : X) (y : Y) → map f xs ≡ map h ys → f x ≡ h y → map f (xs ++ x ∷ []) ≡ map h (ys ++ y ∷ [])
one_more f h xs ys x y same one = map-append f xs (x ∷ []) ∙ (λ i. same i ++ one i ∷ []) ∙ sym (map-append h ys (y ∷ []))

pub has_mid : {X : Type 0} (front : List X) (x : X) (tail : List X) → Has ((front ++ x ∷ []) ++ tail) x
has_mid front x tail = has_left (front ++ x ∷ []) tail x (has_right front (x ∷ []) x (inl refl))
