-- How the bytes of a closed office are copied.
use Rattle.std.specs.Prelude.{◌≡◌, ◌⊎◌, ℕ, List, Result, IfErr, IsTrue, OnOk, ⊤}
use Rattle.std.specs.Io.KnownBytes.{Appends}
use Rattle.office_http_framing.specs.Ends.{FailsOrGivesNone, Told}
use Rattle.signal_office_faults.specs.declared.fault.Fault.{Fault}
use Rattle.signal_office_faults.specs.declared.fault.Fault.TheVariants as fault
use Rattle.signal_office_file.specs.Ended.{IsUncopied}
use Rattle.sqlite_disk.specs.declared.Disk.{Ghosts as Disk}
use Rattle.sqlite_disk.specs.declared.Files.{Files}

-- The file was only read: its bytes are as they were, it may still be used, a stop leaves nothing that it could not
-- leave before, and if its disk is clean, it was so before.
pub record StaysAsRead {D : Type 0} (g : Disk D) (old new : D) : Type 0 where
  pub seen : g.seen new ≡ g.seen old
  pub usable : IsTrue (g.is_usable new)
  pub clean : IsTrue (g.is_clean new) → IsTrue (g.is_clean old)
  pub crash : (left : List ℕ) → g.may_leave new left → g.may_leave old left

-- why a copy that was begun broke off: the file could not be read; or the output failed, or took no byte
abbrev pub CopyBreaksOff : (start end : Told) → Fault → Type 0
CopyBreaksOff start end why = (why ≡ fault.Store) ⊎ ((why ≡ fault.Write) × FailsOrGivesNone start.counts end.counts)

-- the log is as it was, and the database file was only read; on a clean disk all its bytes were written, or the
-- fault says why not
pub record PoursAs {D : Type 0} (g : Disk D) (files : Files D) (start end : Told) (done : Result ⊤ Fault) (back : Files D) : Type 0 where
  pub log : back.log ≡ files.log
  pub read : StaysAsRead g files.db back.db
  pub copied : OnOk done (IsTrue (g.is_clean back.db) → Appends start.bytes end.bytes (g.seen files.db))
  pub fault : IfErr done (IsUncopied start end)
