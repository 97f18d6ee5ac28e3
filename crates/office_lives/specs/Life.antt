-- A FILE'S WHOLE LIFE: runs over it in turn, each from the tables that the run before it left.
use Rattle.std.specs.Prelude.{◌≡◌, ◌⊎◌, ℕ, List, [], ◌∷◌, Some, Result, Err, IsTrue}
use Rattle.sqlite.specs.Recovery.{Image}
use Rattle.sqlite.specs.Tree.{Trees}
use Rattle.sqlite_disk.specs.declared.Disk.{Ghosts as Disk}
use Rattle.sqlite_disk.specs.declared.Files.{Files}
use Rattle.sqlite_store.specs.FileStore.{view}
use Rattle.office_machine.specs.Office.{Office, version_1}
use Rattle.office_tables.specs.Stored.{content_of}
use Rattle.office_tables.specs.Migration.{StandAnew}
use Rattle.office_tables_shelf.specs.Cells.{Cell}
use Rattle.office_tables_shelf.specs.Content.{Content}
use Rattle.office_tables_sql.specs.Version.{current_version, first_version, version_in}
use Rattle.office_tables_decisions.specs.StandFor.{StandForSoundIn}
use Rattle.office_http_framing.specs.Serve.{Ends}
use Rattle.office_http_framing.specs.declared.engine.Served.{Served}
use Rattle.office_http_framing.specs.declared.engine.ServeFault.{ServeFault}
use Rattle.signal_office_faults.specs.declared.fault.Fault.{Fault}
use Rattle.signal_office_file.specs.Ended.{ServesStoredOffice}
use Rattle.signal_office_file.specs.Files.{AreThoseOf}
use Rattle.signal_office_file.specs.Stopping.{IsServedToAStop}
use Rattle.signal_office_file.specs.declared.ended.Ended.{Ended}
use Rattle.signal_office_file.specs.declared.ended.Ended.TheVariants.{Closed, Unclosed}
use Rattle.signal_office_file.specs.declared.left.FileLeft.{FileLeft}
use Rattle.signal_office_file.specs.declared.left.FileLeft.TheVariants as left

-- what was seen of one run over a file
pub data Lived : Type 1 where
  -- a stream of at most so many requests was served between these moments of its ends, and the file was closed
  in_order : (limit : ℕ) → (start end : Ends) → Result Served ServeFault → Lived
  -- a stream of at most so many requests was served between these moments of its ends, and then the run was stopped, at whichever of its calls on the disk, or the disk failed
  to_a_stop : (limit : ℕ) → (start end : Ends) → Result Served ServeFault → Lived
  -- a stream of at most so many requests was served between these moments of its ends, and the file could not be closed
  unclosed : (limit : ℕ) → (start end : Ends) → Lived
  -- a command did this to the tables that it found, and the file was closed
  command : (does : Content → Content → Type 0) → Lived
  -- a command was begun, and then the run was stopped, at whichever of its calls on the disk, or the file could not be closed, or the disk failed
  command_to_a_stop : (leaves : Content → Content → Type 0) → Lived
  -- the tables, which were stored under this version, were brought to today's, and the file was closed
  migrated : (version : List Cell) → Lived
  -- the file was refused, or nothing was changed
  refused : Lived

-- the tables in the files hold this content, and are stored under this version
pub record HoldFormerly (image : Image) (version : List Cell) (tables : Content) : Type 0 where
  pub trees : Trees
  pub those : AreThoseOf image trees
  pub stored : version_in trees ≡ Some version
  pub content : content_of trees ≡ tables

module _ {D : Type 0} (g : Disk D) where
  -- what a run made of the tables that it found, for the next run to find
  abbrev pub Made : Lived → Content → Content → Type 0
  Made (in_order limit start end outcome) old new = ServesStoredOffice limit start end old outcome new
  Made (to_a_stop limit start end outcome) old new = IsServedToAStop limit start end old outcome new
  Made (unclosed limit start end) old new = ∥ (new ≡ old) ⊎ ((outcome : Result Served ServeFault) × IsServedToAStop limit start end old outcome new) ∥₁
  Made (command does) old new = does old new
  Made (command_to_a_stop leaves) old new = ∥ leaves old new ∥₁
  Made (migrated version) old new =
      ((version ≡ current_version) × (new ≡ old))
      ⊎ ((version ≡ first_version) × ((before : Office) → StandForSoundIn version_1 old before → StandAnew new before))
  Made refused old new = new ≡ old

  -- these runs in turn, each from the tables that the one before it left, lead from the old tables to the last ones
  abbrev pub Life : Content → List Lived → Content → Type 0
  Life old [] last = last ≡ old
  Life old (run ∷ runs) last = (next : Content) × Made run old next × Life next runs last

module _ {D : Type 0} {g : Disk D} where
  -- If a failed closing left a store without a connection, the store's tables are numbered in its schema: tree t is the object with the rowid t + 1
  -- there. An opening needs that; the tables of a connection are always numbered so.
  abbrev pub IsNumbered : FileLeft D g → Type 0
  IsNumbered (left.Database (Err store)) = IsTrue (view store).is_numbered
  IsNumbered _ = Unit {0}

module _ {D : Type 0} {g : Disk D} {T : Type 0} where
  -- the result of the work is `done`, and these are its files, which were closed after it
  abbrev pub IsClosedWith : Ended T D g → T → Files D → Type 0
  IsClosedWith ended done files = ended ≡ Closed done files

  -- the files could not be closed, and this is left of them
  abbrev pub IsUnclosedWith : Ended T D g → FileLeft D g → Type 0
  IsUnclosedWith ended back = (why : Fault) × (ended ≡ Unclosed why back)
