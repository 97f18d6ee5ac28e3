-- The tables of version 1 in files, and what becomes of them.
use Rattle.std.specs.Prelude.{◌≡◌, ◌⊎◌, ℕ, ◌+◌, Result, Ok, Err, IfOk, OnOk, MatchResult, IsTrue}
use Rattle.sqlite.specs.Files.{image_of, file_state, over_files}
use Rattle.sqlite.specs.Held.{Held, state}
use Rattle.sqlite.specs.Recovery.{Image}
use Rattle.sqlite.specs.State.{HasCleanDisk}
use Rattle.sqlite.specs.Tree.{Trees}
use Rattle.sqlite.specs.WalReads.{AreClean}
use Rattle.sqlite.specs.Closing.{HoldsAlone}
use Rattle.sqlite.specs.declared.FileStore.{FileStore}
use Rattle.sqlite_disk.specs.declared.Disk.{Ghosts as Disk}
use Rattle.sqlite_disk.specs.declared.Files.{Files}
use Rattle.sqlite_trees.specs.declared.store.Store.{Ghosts}
use Rattle.office_machine.specs.Office.{Office}
use Rattle.office_tables.specs.Stored.{content_of}
use Rattle.office_tables.specs.Migrate.{HasDamagedFormer, HasUnknownVersion, IsBrought, MayBecome, StandFormerly, TellsDamage, TellsVersion}
use Rattle.office_tables.specs.Migration.{StandAnew}
use Rattle.office_tables.specs.declared.rewritten.Migrated.{Migrated}
use Rattle.office_tables_sql.specs.Promises.{KeepsCommitted}
use Rattle.office_tables.specs.declared.open.OpenFault.{OpenFault}
use Rattle.office_tables.specs.declared.open.OpenFault.TheVariants as why
use Rattle.signal_office_faults.specs.declared.fault.Fault.{Fault}
use Rattle.signal_office_file.specs.Files.{AreThoseOf, AreUsable, HoldToday, IsImageOf}
use Rattle.signal_office_file.specs.Left.{IsOpenedIn, IsRefusedIn, IsUnclosed, told_of}
use Rattle.signal_office_file.specs.declared.ended.Ended.{Ended}
use Rattle.signal_office_file.specs.declared.ended.Ended.TheVariants.{Refused, Closed, Unclosed}
use Rattle.signal_office_file.specs.declared.left.FileLeft.{FileLeft}

-- What a migration of a database did, as far as it is known on a clean disk. If done, it brought the
-- committed tables to today's version; if refused, it left them in an open database as they were. Version and
-- Damaged are true of what was stored. A stop leaves what was committed before, or what becomes of it.
pub record MigratesOnDisk
    {S : Type 0} (g : Ghosts S) (outcome : Result Migrated OpenFault)
    (old new : Held S) : Type 0 where
  pub brought : HasCleanDisk (state g new)
      → IfOk outcome (IsBrought (state g old).committed.trees (state g new).committed.trees)
  pub is_open : HasCleanDisk (state g new) → OnOk outcome (IsTrue (state g new).is_open)
  pub version : TellsVersion g outcome old new
  pub damaged : TellsDamage outcome (state g old) (state g new)
  pub unchanged : KeepsCommitted outcome (state g old) (state g new)
  pub crash : HasCleanDisk (state g new) → IsTrue (state g old).is_open → (trees : Trees) → (state g new).may_leave trees
      → (trees ≡ (state g old).committed.trees) ⊎ MayBecome (state g old).committed.trees trees

-- the trees are those that the old ones were brought to, with this count; or the old ones, if that was
-- refused
abbrev pub AreMigrated : Trees → Trees → Result Migrated OpenFault → Type 0
AreMigrated was trees (Ok count) = IsBrought was trees count
AreMigrated was trees (Err cause) = trees ≡ was

-- how many rows a migration rewrote, of `timing` and `draft` together, or the fault that reports its refusal
abbrev pub told_of_outcome : Result Migrated OpenFault → Result ℕ Fault
told_of_outcome (Ok count) = Ok (count.timing + count.draft)
told_of_outcome (Err cause) = Err (told_of cause)

module _ {D : Type 0} (g : Disk D) where
  -- The files are closed, and hold what became of the tables that were found in them, as they read
  -- now and after a stop; or those tables, where the migration was refused. Version and Damaged are
  -- reported of what the files held.
  pub record ClosedMigrated
      (files : Files D) (outcome : Result Migrated OpenFault) (back : Files D) : Type 0 where
    pub was : Trees
    pub those : AreThoseOf (image_of g files) was
    pub trees : Trees
    pub alone : (image : Image) → IsImageOf g back image → HoldsAlone image trees
    pub migrated : AreMigrated was trees outcome
    pub version : outcome ≡ Err why.Version → (conn : Held (FileStore D g))
        × HasCleanDisk (file_state conn) × IsOpenedIn {g = g} files conn
        × HasUnknownVersion over_files conn
    pub damaged : outcome ≡ Err why.Damaged → HasDamagedFormer was

  -- The files are closed, and may be used, after a migration that came to this. On a clean disk they hold
  -- what became of their tables, or, if it was refused, the tables as they were.
  abbrev pub IsClosedMigrated : Files D → Result ℕ Fault → Files D → Type 0
  IsClosedMigrated files told back =
      (outcome : Result Migrated OpenFault) × (told ≡ told_of_outcome outcome) × AreUsable g back
      × (AreClean g back.log back.db → ClosedMigrated files outcome back)

module _ {D : Type 0} {g : Disk D} where
  -- a connection was opened over the files and found its tables there, and a migration with this outcome made
  -- `conn` of it
  pub record MigratesIn
      (files : Files D) (outcome : Result Migrated OpenFault)
      (conn : Held (FileStore D g)) : Type 0 where
    pub found : Held (FileStore D g)
    pub finds : IsOpenedIn files found
    pub clean : HasCleanDisk (file_state conn) → HasCleanDisk (file_state found)
    pub migrates : MigratesOnDisk over_files outcome found conn

  -- The files could not be closed after a migration was tried. The fault is that of the migration, if it was
  -- refused, or else that of closing.
  pub record FailedToClose (files : Files D) (told : Fault) (back : FileLeft D g) : Type 0 where
    pub outcome : Result Migrated OpenFault
    pub conn : Held (FileStore D g)
    pub migrates : MigratesIn files outcome conn
    pub closing : Fault
    pub unclosed : IsUnclosed conn closing back
    pub told_is : MatchResult (told_of_outcome outcome) (λ _. told ≡ closing) (λ cause. told ≡ cause)

  -- how a migration of files ended
  abbrev pub EndsMigration : Files D → Ended (Result ℕ Fault) D g → Type 0
  EndsMigration files (Refused told back) = IsRefusedIn files told back
  EndsMigration files (Closed told back) = IsClosedMigrated g files told back
  EndsMigration files (Unclosed told back) = FailedToClose files told back

  -- A migration that was done, on a clean disk: if the tables in the files stood for an office in version 1,
  -- the closed files hold tables that stand for it today.
  abbrev pub BringsToday : Files D → Ended (Result ℕ Fault) D g → Type 0
  BringsToday files (Closed (Ok count) back) =
      AreClean g back.log back.db → (before : Office)
      → ((trees : Trees) → AreThoseOf (image_of g files) trees → StandFormerly trees before)
      → (trees : Trees) × HoldToday g back trees × StandAnew (content_of trees) before
  BringsToday files _ = Unit {0}

  -- how a migration of files ended; and if it was done, what it made of an office that their tables stood for
  pub record MigratesFiles (files : Files D) (ended : Ended (Result ℕ Fault) D g) : Type 0 where
    pub ends : EndsMigration files ended
    pub today : BringsToday files ended
