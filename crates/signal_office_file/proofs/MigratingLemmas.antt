-- Version 1 of the tables and what becomes of it, in a database and in its files.
use Rattle.std.proofs.Common.{◌≡◌, inl, inr, IsTrue, Result, Ok, Err, Some, sym, subst, ◌∙◌, arith}
use Rattle.std.specs.Prelude.{IfOk, OnOk}
use Rattle.sqlite.specs.{Closing.IsCopied, Files.file_state, Files.over_files, Held.Held, State.HasCleanDisk, State.State, State.Survives, Tree.Trees, WalReads.AreClean, declared.FileStore.FileStore}
use Rattle.sqlite_disk.specs.declared.Disk.{Ghosts as Disk}
use Rattle.sqlite_disk.specs.declared.Files.{Files}
use Rattle.sqlite_store.specs.Laws.{settled_at, stays_at}
use Rattle.office_tables.specs.{Calls.IsHonest, Calls.StaysOpen, Migrate.Brings, Migrate.IsBrought, Migrate.MayBecome, Migrate.TellsDamage, Migrate.TellsVersion, Stored.content_of, declared.rewritten.Migrated.Migrated, declared.open.OpenFault.OpenFault}
use Rattle.office_tables_sql.specs.{Promises.KeepsCommitted, Promises.Settles, Version.current_version, Version.first_version}
use Rattle.office_tables.proofs.Migration.{stand_anew}
use Rattle.signal_office_file.specs.Left.{IsOpenedIn}
use Rattle.signal_office_file.specs.Migrating.{AreMigrated, BringsToday, ClosedMigrated, MigratesOnDisk, MigratesIn, told_of_outcome}
use Rattle.signal_office_file.proofs.FilesLemmas.{copied_alone}
use Rattle.signal_office_file.specs.declared.ended.Ended.TheVariants.{Closed}

-- a crash that leaves the trees as they are leaves the last commit
is_committed : (r : Result Migrated OpenFault) (new : State) → OnOk r ((trees : Trees) → new.may_leave trees → trees ≡ new.now.trees)
    → new.may_leave new.committed.trees → OnOk r (new.committed.trees ≡ new.now.trees)
is_committed (Err e) new settled stays = tt
is_committed (Ok count) new settled stays = settled new.committed.trees stays

-- on a clean disk what was brought is what is committed, in an open database
brought_committed : (r : Result Migrated OpenFault) (old : Trees) (new : State) → (HasCleanDisk new → OnOk r (IsHonest new)) → (IsHonest new → IfOk r (IsBrought old new.now.trees))
    → (IsHonest new → OnOk r ((trees : Trees) → new.may_leave trees → trees ≡ new.now.trees)) → (IsTrue new.is_open → new.may_leave new.committed.trees)
    → HasCleanDisk new → IfOk r (IsBrought old new.committed.trees)
brought_committed (Err e) old new opened brought settled stays clean = tt
brought_committed (Ok count) old new opened brought settled stays clean =
    let honest = opened clean in
    let same = is_committed (Ok count) new (settled honest) (stays honest.1) in
    subst (λ (t : Trees). IsBrought old t count) (sym same) (brought honest)

still_open : (r : Result Migrated OpenFault) (new : State) → OnOk r (IsHonest new) → OnOk r (IsTrue new.is_open)
still_open (Err e) new honest = tt
still_open (Ok count) new honest = honest.1

-- a connection found its tables in the files, and was migrated: on a clean disk alone this is what it leaves committed
pub migrates_in : {D : Type 0} {g : Disk D} (seen_stays : (file : D) → g.may_leave file (g.seen file)) (files : Files D) (outcome : Result Migrated OpenFault) (found conn : Held (FileStore D g))
    → IsOpenedIn files found → StaysOpen outcome (file_state conn) → Brings outcome (file_state found) (file_state conn) → Settles outcome (file_state conn)
    → TellsVersion over_files outcome found conn → TellsDamage outcome (file_state found) (file_state conn) → KeepsCommitted outcome (file_state found) (file_state conn)
    → Survives (file_state found) (file_state conn) (MayBecome (file_state found).committed.trees) → MigratesIn files outcome conn
migrates_in seen_stays files outcome found conn finds opened brought settled version damaged unchanged survives = record {
  found = found;
  finds = finds;
  clean = λ clean. omega (arith, clean, survives.clean);
  migrates = record {
    brought = brought_committed outcome (file_state found).committed.trees (file_state conn) opened brought settled (stays_at conn.store seen_stays);
    is_open = λ clean. still_open outcome (file_state conn) (opened clean);
    version = version;
    damaged = damaged;
    unchanged = unchanged;
    crash = λ clean open_before trees left. elim (survives.crash clean trees left) [
      | inl as_before ↦ inl (settled_at found.store seen_stays trees open_before as_before)
      | inr became ↦ inr became
    ];
  };
}

-- where version 1 stood for an office, what was brought stands for it today
versions_differ : Some current_version ≡ Some first_version → ⊥
versions_differ e = cc

module _ {D : Type 0} {g : Disk D} (files : Files D) (conn : Held (FileStore D g)) (back : Files D) (outcome : Result Migrated OpenFault)
    (copied : AreClean g back.log back.db → IsCopied conn back) (it : MigratesIn files outcome conn) where
  -- a database that was migrated, closed, is so in its files
  pub closed_migrated : AreClean g back.log back.db → ClosedMigrated g files outcome back
  closed_migrated clean =
      let here = copied clean in
      let found_clean = it.clean here.was_clean in
      let found = (it.finds found_clean).0 in
      let was = (file_state it.found).committed.trees in
      record {
        was = was;
        those = record { holds = found.holds; reads = found.reads };
        trees = (file_state conn).committed.trees;
        alone = copied_alone g back conn here;
        migrated = go outcome it.migrates here.was_clean here.was_open;
        version = λ told. (it.found, found_clean, it.finds, it.migrates.version told here.was_clean);
        damaged = λ told. it.migrates.damaged told here.was_clean;
      }
    where
      go : (o : Result Migrated OpenFault) → MigratesOnDisk over_files o it.found conn → HasCleanDisk (file_state conn) → IsTrue (file_state conn).is_open
          → AreMigrated (file_state it.found).committed.trees (file_state conn).committed.trees o
      go (Ok count) m was_clean was_open = m.brought was_clean
      go (Err why) m was_clean was_open = m.unchanged (was_clean, was_open)

-- tables that stood formerly for an office, closed, stand for it today
pub stands_today : {D : Type 0} {g : Disk D} (files back : Files D) (outcome : Result Migrated OpenFault) → (AreClean g back.log back.db → ClosedMigrated g files outcome back)
    → BringsToday {g = g} files (Closed (told_of_outcome outcome) back)
stands_today files back (Err cause) closed = tt
stands_today files back (Ok count) closed = λ clean before formerly.
    let it = closed clean in
    let was = formerly it.was it.those in
    elim it.migrated [
      | inl today ↦ absurd (versions_differ (sym today.was.stored ∙ was.version))
      | inr anew ↦ (it.trees, record { alone = it.alone; today = anew.stored }, stand_anew (content_of it.was) (content_of it.trees) count before anew.migrated was.stand)
    ]
