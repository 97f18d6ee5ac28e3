-- The office over the tables in files: what was opened, and what was served.
use Rattle.std.specs.Prelude.{◌≡◌, ℕ, List, Result, Ok, Err, IsTrue}
use Rattle.sqlite.specs.Files.{file_state, image_of}
use Rattle.sqlite.specs.Held.{Held}
use Rattle.sqlite.specs.Recovery.{Image}
use Rattle.sqlite.specs.State.{HasCleanDisk, State}
use Rattle.sqlite.specs.Tree.{Trees}
use Rattle.sqlite.specs.WalReads.{AreClean}
use Rattle.sqlite.specs.declared.FileStore.{FileStore}
use Rattle.sqlite_disk.specs.declared.Disk.{Ghosts as Disk}
use Rattle.sqlite_disk.specs.declared.Files.{Files}
use Rattle.office_tables.specs.Calls.{IsHonest}
use Rattle.office_tables.specs.Content.{Content}
use Rattle.office_tables.specs.Stored.{content_now}
use Rattle.office_tables.specs.SqlShelf.{IsCurrent, MayLeave, SqlView}
use Rattle.office_tables_shelf.specs.Counts.{no_writes}
use Rattle.office_machine.specs.Office.{Office}
use Rattle.office_http.specs.Laws.{Serves}
use Rattle.office_http.specs.Protocol.{office_storage}
use Rattle.office_http_framing.specs.Front.{PlainRequest}
use Rattle.office_http_framing.specs.Stops.{Storage}
use Rattle.signal_office_faults.specs.declared.fault.Fault.{Fault}
use Rattle.signal_office_file.specs.Files.{HoldIn, HoldToday}
use Rattle.signal_office_file.specs.Left.{IsRefusedIn, KeepsToday}
use Rattle.signal_office_file.specs.declared.left.FileLeft.{FileLeft}

-- how the office is stored in the tables of a database; `state_of` gives the state of its connection
abbrev pub sql_storage : {S : Type 0} → (Held S → State) → Storage (SqlView S) Office Content
sql_storage state_of =
    office_storage (λ shelf. IsHonest (state_of shelf.conn))
    (λ shelf. content_now (state_of shelf.conn)) (λ shelf. shelf.counts)
    (λ shelf tables. MayLeave (state_of shelf.conn) tables)

-- the database is open, its tables hold what the files held, and so does whatever a crash may leave of them; no row was
-- written yet
pub record AreOpenedIn
    {S : Type 0} (state_of : Held S → State) (image : Image) (opened : SqlView S) : Type 0 where
  pub is_open : IsTrue (state_of opened.conn).is_open
  pub held : HoldIn image (content_now (state_of opened.conn))
  pub crash : (tables : Content) → MayLeave (state_of opened.conn) tables
      → tables ≡ content_now (state_of opened.conn)
  pub unwritten : opened.counts ≡ no_writes

module _ {D : Type 0} {g : Disk D} (files : Files D) where
  -- An office was opened over the tables in the files. If its disk is clean, it was so before, and the tables hold what
  -- the files held.
  pub record OpenedOffice (office : SqlView (FileStore D g)) : Type 0 where
    pub clean : HasCleanDisk (file_state office.conn) → AreClean g files.log files.db
    pub opened : HasCleanDisk (file_state office.conn) → AreOpenedIn file_state (image_of g files) office
    -- today's version is stored, also in whatever a crash may leave
    pub current : IsCurrent (file_state office.conn)

  -- Files were refused, for a cause that the fault tells, and this is left of them. On a clean disk, files of today's
  -- tables are never refused for their version or their rows, and keep their content.
  pub record RefusedFiles (told : Fault) (back : FileLeft D g) : Type 0 where
    pub refused : IsRefusedIn files told back
    pub kept : (trees : Trees) → HoldToday g files trees → KeepsToday trees told back

  -- an office was opened over the tables in the files, or the files were refused
  abbrev pub OpensFiles : Result (SqlView (FileStore D g)) (Fault × FileLeft D g) → Type 0
  OpensFiles (Ok office) = OpenedOffice office
  OpensFiles (Err e) = RefusedFiles e.0 e.1

-- The requests were run from the office `before`, with these answers and by its laws, where the files held these
-- tables, which were all that a crash could leave then. The tables that are kept stand for the office `after`, and a
-- crash leaves no more than the run lets it.
pub record ServesFiles
    {S : Type 0} (state_of : Held S → State) (held : Content) (before : Office) (last : SqlView S)
    (after : Office) (requests : List PlainRequest) (answers : List (List ℕ)) : Type 0 where
  pub kept : Content
  pub serves : Serves (sql_storage state_of) (λ tables. tables ≡ held)
      (record { state = before; kept = held; written = no_writes }) last kept after requests answers
