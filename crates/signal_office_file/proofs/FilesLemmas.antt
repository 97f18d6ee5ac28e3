-- What files that hold today's tables are found to hold.
use Rattle.std.proofs.Common.{◌≡◌, inl, inr, IsTrue, Result, Ok, Err, sym, ap, subst, ◌∙◌}
use Rattle.std.proofs.Math.Logic.{∥∥₁_elim}
use Rattle.std.specs.Prelude.{MatchResult}
use Rattle.sqlite.specs.{Closing.HoldsAlone, Closing.IsCopied, Effect.Database, Files.file_state, Held.Held, Recovery.Image, State.HasCleanDisk, State.store_error, Tree.Trees}
use Rattle.sqlite.specs.declared.FileStore.{FileStore}
use Rattle.sqlite.specs.declared.error.Error.{Error}
use Rattle.sqlite_disk.specs.declared.Disk.{Ghosts as Disk}
use Rattle.sqlite_disk.specs.declared.Files.{Files}
use Rattle.sqlite_trees.specs.Props.{Trees-set}
use Rattle.office_tables.specs.{Content.Content, Stored.content_now, Stored.content_of, Foreign.Hold, SqlShelf.IsCurrent, SqlShelf.MayLeave}
use Rattle.office_tables_sql.specs.{Version.AreToday}
use Rattle.office_tables.proofs.MovedLemmas.{hold_office}
use Rattle.signal_office_faults.specs.declared.fault.Fault.{Fault}
use Rattle.signal_office_file.specs.Ended.{TellsUnclosed}
use Rattle.signal_office_file.specs.Files.{AreThoseOf, HoldIn, IsImageOf, KeepTables}
use Rattle.signal_office_file.specs.Left.{ClosesFiles, ClosesOffice, IsCleanFile, IsStoreOrMemory, IsUnclosed, LeavesDatabases, LeavesToday, MayLeaveOf, TellsError}
use Rattle.signal_office_file.specs.declared.left.FileLeft.{FileLeft}
use Rattle.signal_office_file.specs.declared.left.FileLeft.TheVariants as left

-- files that hold a database alone are read as that database
pub held_alone : (image : Image) (db trees : Trees) → HoldsAlone image db → AreThoseOf image trees → trees ≡ db
held_alone image db trees holds those = ∥∥₁_elim holds.both (Trees-set _ _) (λ h. those.holds db h)

-- today's tables hold their own content
pub hold_today : (trees : Trees) (tables : Content) → AreToday trees → Hold trees tables → tables ≡ content_of trees
hold_today trees tables today hold = hold_office trees tables today.sound.lists.listed hold

module _ {D : Type 0} (g : Disk D) (files : Files D) where
  -- the last commit stands in closed files
  pub copied_alone : (conn : Held (FileStore D g)) → IsCopied conn files → (image : Image) → IsImageOf g files image → HoldsAlone image (file_state conn).committed.trees
  copied_alone conn copied image (inl seen) = subst (λ (i : Image). HoldsAlone i (file_state conn).committed.trees) (sym seen) copied.seen
  copied_alone conn copied image (inr may) = copied.left image may

  pub found_tables : (tables : Content) → KeepTables g files tables → (image : Image) → IsImageOf g files image → (found : Content) → HoldIn image found → found ≡ tables
  found_tables tables it image is found holds =
      let same = held_alone image it.trees holds.trees (it.held.alone image is) holds.those in
      hold_today holds.trees found (subst AreToday (sym same) it.held.today) holds.hold ∙ (λ i. content_of (same i)) ∙ it.content

  -- a database of today's tables, closed, is kept in its files
  pub kept_tables : (conn : Held (FileStore D g)) → IsCopied conn files → IsCurrent (file_state conn)
      → (IsTrue (file_state conn).is_open → (file_state conn).may_leave (file_state conn).committed.trees) → KeepTables g files (content_now (file_state conn))
  kept_tables conn copied current stays =
      let s = file_state conn in
      record {
        trees = s.committed.trees;
        held = record {
          alone = λ image is. copied_alone conn copied image is;
          today = current.left copied.was_clean s.committed.trees (stays copied.was_open);
        };
        content = sym (ap (λ (d : Database). content_of d.trees) (current.office.settled (copied.was_clean, copied.was_open)));
      }

-- ---- what is told and left where a database could not be closed

-- an error of the database
pub error_told : (error : Error) (told : Fault) → TellsError error told → IsStoreOrMemory told
error_told error told (inl memory) = inr memory.1
error_told error told (inr store) = inl store.1

module _ {D : Type 0} {g : Disk D} (conn : Held (FileStore D g)) (told : Fault) where
  pub closing_told : (back : FileLeft D g) → IsUnclosed conn told back → IsStoreOrMemory told
  closing_told (left.Database back) it = error_told (store_error it.cause) told it.told_is
  closing_told (left.Unopened back) none = absurd none

  pub unclosed_today : (back : FileLeft D g) → IsCurrent (file_state conn) → IsUnclosed conn told back → LeavesToday back
  unclosed_today (left.Database back) current it = λ clean trees may. current.left (it.clean clean) trees (it.crash trees may)
  unclosed_today _ current it = tt

  -- a stop leaves no more of it than of the connection
  pub unclosed_leaves : (back : FileLeft D g) → ClosesOffice conn (Err (told, back)) → IsCleanFile back
      → LeavesDatabases back × HasCleanDisk (file_state conn) × ((tables : Content) → MayLeaveOf back tables → MayLeave (file_state conn) tables)
  unclosed_leaves (left.Database back) (it, today) clean = (
    it.sound clean,
    it.clean clean,
    λ tables may. (it.clean clean, may.0, it.crash may.0 may.1, sym (hold_today may.0 tables (today clean may.0 may.1) may.2)),
  )
  unclosed_leaves (left.Unopened back) none clean = absurd none.0

-- an office of today's version is closed as its database is
pub closes_office : {D : Type 0} {g : Disk D} (conn : Held (FileStore D g)) (r : Result (Files D) (Fault × FileLeft D g)) → IsCurrent (file_state conn)
    → (IsTrue (file_state conn).is_open → (file_state conn).may_leave (file_state conn).committed.trees) → ClosesFiles conn r → ClosesOffice conn r
closes_office {g = g} conn (Ok back) current stays it =
    record { usable = it.0; copied = it.1; kept = λ clean. kept_tables g back conn (it.1 clean) current stays }
closes_office conn (Err e) current stays it = (it, unclosed_today conn e.0 e.1 current it)

-- the first of two faults
pub first_told : {T Cause : Type 0} (fault_of : Cause → Fault) (done : Result T Cause) (closing told : Fault) → IsStoreOrMemory closing
    → MatchResult done (λ _. told ≡ closing) (λ cause. told ≡ fault_of cause) → TellsUnclosed fault_of done told
first_told fault_of (Ok done) closing told is first = subst IsStoreOrMemory (sym first) is
first_told fault_of (Err cause) closing told is first = first
