-- Why a file was refused, and what is left of it.
use Rattle.std.specs.Prelude.{◌≡◌, ◌≢◌, ◌⊎◌, Option, None, Some, Result, Ok, Err}
use Rattle.sqlite.specs.Closing.{IsCopied}
use Rattle.sqlite.specs.Files.{FailsToOpenFiles, Finds, IsCleanLeft, IsOpened, LeavesFiles, file_state, over_files}
use Rattle.sqlite.specs.Held.{AreDatabases, Held}
use Rattle.sqlite.specs.State.{HasCleanDisk, store_error}
use Rattle.sqlite.specs.WalReads.{AreClean}
use Rattle.sqlite.specs.Tree.{Trees}
use Rattle.sqlite.specs.declared.FileStore.{FileStore}
use Rattle.sqlite.specs.declared.error.Error.{Error}
use Rattle.sqlite.specs.declared.error.Error.TheVariants.{SqliteFailure}
use Rattle.sqlite.specs.declared.error.ErrorCode.TheVariants.{OutOfMemory}
use Rattle.sqlite.specs.declared.file.Leftover.{Leftover}
use Rattle.sqlite.specs.declared.file.Leftover.TheVariants as rest
use Rattle.sqlite_disk.specs.declared.Disk.{Ghosts as Disk}
use Rattle.sqlite_disk.specs.declared.Files.{Files}
use Rattle.sqlite_trees.specs.declared.error.StoreError.{StoreError}
use Rattle.office_tables.specs.Content.{Content}
use Rattle.office_tables.specs.Foreign.{Hold}
use Rattle.office_tables.specs.Stored.{content_now}
use Rattle.office_tables.specs.Opening.{IsCleanStore, IsRefused, store_left}
use Rattle.office_tables_sql.specs.Version.{AreToday}
use Rattle.office_tables.specs.declared.open.OpenFault.{OpenFault}
use Rattle.office_tables.specs.declared.open.OpenFault.TheVariants as why
use Rattle.signal_office_faults.specs.declared.fault.Fault.{Fault}
use Rattle.signal_office_faults.specs.declared.fault.Fault.TheVariants as fault
use Rattle.signal_office_file.specs.Files.{AreUsable, IsAlike, KeepTables}
use Rattle.signal_office_file.specs.declared.left.FileLeft.{FileLeft}
use Rattle.signal_office_file.specs.declared.left.FileLeft.TheVariants as left

-- the fault is Store (the database or the system refused) or Memory
abbrev pub IsStoreOrMemory : Fault → Type 0
IsStoreOrMemory why = (why ≡ fault.Store) ⊎ (why ≡ fault.Memory)

-- the fault that is reported of an error of the database: Memory if memory was refused, else Store
abbrev pub TellsError : Error → Fault → Type 0
TellsError error told =
    ((error ≡ SqliteFailure OutOfMemory) × (told ≡ fault.Memory)) ⊎ ((error ≢ SqliteFailure OutOfMemory) × (told ≡ fault.Store))

-- the fault that reports tables that were refused when they were opened or migrated
abbrev pub told_of : OpenFault → Fault
told_of why.Version = fault.Version
told_of why.Damaged = fault.Damaged
told_of why.Store = fault.Store
told_of why.NoMemory = fault.Memory

module _ {D : Type 0} {g : Disk D} where
  -- a sync of the files failed before, so that they were refused with Store and nothing was done to them
  pub record AreSpent (files : Files D) (told : Fault) (back : Leftover D g) : Type 0 where
    pub told_is : told ≡ fault.Store
    pub unused : ¬ AreUsable g files
    pub same : back ≡ rest.Files files

  -- no database was opened in the files, for an error that the fault tells; on a clean disk they are left as a failed opening
  -- leaves them
  pub record FailedToOpen (files : Files D) (told : Fault) (back : Leftover D g) : Type 0 where
    pub error : Error
    pub told_is : TellsError error told
    pub cause : IsCleanLeft back → FailsToOpenFiles files back error
    pub unharmed : IsCleanLeft back → LeavesFiles files back

  -- why no database was opened in the files: a sync of them failed before, or this opening did
  abbrev pub IsUnopened : Files D → Fault → Leftover D g → Type 0
  IsUnopened files told back = AreSpent files told back ⊎ FailedToOpen files told back

  -- on a clean disk, the connection was just opened, and its last commit is what it found in the files
  abbrev pub IsOpenedIn : Files D → Held (FileStore D g) → Type 0
  IsOpenedIn files conn = HasCleanDisk (file_state conn) → Finds files conn × IsOpened conn

  -- the tables that were found in the files were refused, for a cause that the fault tells, and are left as a refused opening
  -- leaves them
  pub record IsTurnedAway (files : Files D) (told : Fault) (back : Result (Held (FileStore D g)) (FileStore D g)) : Type 0 where
    pub conn : Held (FileStore D g)
    pub found : IsOpenedIn files conn
    pub cause : OpenFault
    pub told_is : told ≡ told_of cause
    pub refused : IsRefused over_files conn cause back

  -- an opening refused the files with this fault, and left this of them
  abbrev pub IsRefusedIn : Files D → Fault → FileLeft D g → Type 0
  IsRefusedIn files told (left.Unopened back) = IsUnopened files told back
  IsRefusedIn files told (left.Database back) = IsTurnedAway files told back

  -- the database, its connection or its store, if that is left and not closed
  abbrev pub database_of : FileLeft D g → Option (Result (Held (FileStore D g)) (FileStore D g))
  database_of (left.Database back) = Some back
  database_of _ = None

  -- the disk has returned what was written to what is left
  abbrev pub IsCleanFile : FileLeft D g → Type 0
  IsCleanFile (left.Unopened back) = IsCleanLeft back
  IsCleanFile (left.Database back) = IsCleanStore over_files (store_left over_files back)

  -- if a database is left, whatever a stop leaves of it is today's tables, with the content of these trees
  abbrev pub RecoversTo : Trees → FileLeft D g → Type 0
  RecoversTo trees (left.Database back) = (found : Trees) → over_files.recovers (store_left over_files back) found → IsAlike trees found
  RecoversTo trees _ = Unit {0}

  -- on a clean disk, files of today's tables were refused with Store or Memory, not for their version or their rows, and what
  -- is left of them recovers to the same content
  pub record KeepsToday (trees : Trees) (told : Fault) (back : FileLeft D g) : Type 0 where
    pub told_is : IsCleanFile back → IsStoreOrMemory told
    pub recovers : IsCleanFile back → RecoversTo trees back

  -- the database was not closed, for a cause that the fault tells; a stop leaves no more of it than before, and on a clean disk
  -- only databases
  pub record StaysOpened (conn : Held (FileStore D g)) (told : Fault) (back : Result (Held (FileStore D g)) (FileStore D g)) : Type 0 where
    pub cause : StoreError
    pub told_is : TellsError (store_error cause) told
    pub clean : IsCleanStore over_files (store_left over_files back) → HasCleanDisk (file_state conn)
    pub crash : (trees : Trees) → over_files.recovers (store_left over_files back) trees → (file_state conn).may_leave trees
    pub sound : IsCleanStore over_files (store_left over_files back) → AreDatabases (over_files.recovers (store_left over_files back))

  -- what is left is the database, which was not closed, for a cause that the fault tells
  abbrev pub IsUnclosed : Held (FileStore D g) → Fault → FileLeft D g → Type 0
  IsUnclosed conn told (left.Unopened back) = ⊥
  IsUnclosed conn told (left.Database back) = StaysOpened conn told back

  -- on a clean disk, whatever a stop leaves of the database that is not closed has today's version
  abbrev pub LeavesToday : FileLeft D g → Type 0
  LeavesToday (left.Database back) =
      IsCleanStore over_files (store_left over_files back) → (trees : Trees) → over_files.recovers (store_left over_files back) trees → AreToday trees
  LeavesToday _ = Unit {0}

  -- what is left is a database that is not closed, and whatever a stop leaves of it obeys its schema
  abbrev pub LeavesDatabases : FileLeft D g → Type 0
  LeavesDatabases (left.Database back) = AreDatabases (over_files.recovers (store_left over_files back))
  LeavesDatabases _ = ⊥

  -- the files of a database were closed and, on a clean disk, hold its last commit; or they were not closed, and a stop leaves
  -- no more of the database than before
  abbrev pub ClosesFiles : Held (FileStore D g) → Result (Files D) (Fault × FileLeft D g) → Type 0
  ClosesFiles conn (Ok back) = AreUsable g back × (AreClean g back.log back.db → IsCopied conn back)
  ClosesFiles conn (Err e) = IsUnclosed conn e.0 e.1

  -- closed files may be used and, on a clean disk, hold the tables of the office over this database, with today's version
  pub record HoldOffice (conn : Held (FileStore D g)) (back : Files D) : Type 0 where
    pub usable : AreUsable g back
    pub copied : AreClean g back.log back.db → IsCopied conn back
    pub kept : AreClean g back.log back.db → KeepTables g back (content_now (file_state conn))

  -- the files of an office were closed and hold its tables; or they were not closed, and a stop leaves no more of its database
  -- than before, with today's version on a clean disk
  abbrev pub ClosesOffice : Held (FileStore D g) → Result (Files D) (Fault × FileLeft D g) → Type 0
  ClosesOffice conn (Ok back) = HoldOffice conn back
  ClosesOffice conn (Err e) = IsUnclosed conn e.0 e.1 × LeavesToday e.1

  -- a stop may leave these tables of a database that is not closed; a table that is missing holds nothing
  abbrev pub MayLeaveOf : FileLeft D g → Content → Type 0
  MayLeaveOf (left.Database back) tables = (trees : Trees) × over_files.recovers (store_left over_files back) trees × Hold trees tables
  MayLeaveOf _ tables = ⊥

  -- Files that are not closed: whatever a stop leaves of them is a database, on a clean disk with today's version, and `Holds` is true of its tables.
  abbrev pub LeavesTables : FileLeft D g → (Content → Type 0) → Type 0
  LeavesTables back Holds = LeavesDatabases back × LeavesToday back × ((found : Content) → MayLeaveOf back found → Holds found)
