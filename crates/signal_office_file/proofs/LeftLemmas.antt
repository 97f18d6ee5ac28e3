-- What is left of files that hold today's tables, where an opening refused them.
use Rattle.std.proofs.Common.{◌≡◌, ◌≢◌, inl, inr, Result, refl, sym, ap, subst, ◌∙◌, arith}
use Rattle.std.proofs.Math.Logic.{∥∥₁_elim}
use Rattle.sqlite.specs.{Files.file_state, Files.over_files, Held.Held, Held.state, State.HasCleanDisk, Tree.Trees}
use Rattle.sqlite_disk.specs.declared.Disk.{Ghosts as Disk}
use Rattle.sqlite_disk.specs.declared.Files.{Files}
use Rattle.sqlite_store.specs.Laws.{settled_at}
use Rattle.sqlite_trees.specs.{Props.Trees-set, declared.store.Store.Ghosts}
use Rattle.office_tables.specs.{Foreign.HasOtherVersion, Foreign.HasRowsAlone, Foreign.Hold, Foreign.TellsOfTables}
use Rattle.office_tables_sql.specs.{Version.AreToday}
use Rattle.office_tables.specs.Stored.{content_of}
use Rattle.office_tables.specs.Opening.{IsCleanStore, IsRefused, store_left}
use Rattle.office_tables.specs.declared.open.OpenFault.{OpenFault}
use Rattle.office_tables.specs.declared.open.OpenFault.TheVariants as why
use Rattle.office_tables.proofs.MovedLemmas.{hold_office, today_rows, today_version}
use Rattle.signal_office_faults.specs.declared.fault.Fault.{Fault}
use Rattle.signal_office_file.proofs.FilesLemmas.{error_told}
use Rattle.signal_office_file.specs.Files.{HoldToday, IsAlike}
use Rattle.signal_office_file.specs.Left.{IsRefusedIn, IsStoreOrMemory, KeepsToday, told_of}
use Rattle.signal_office_file.specs.Serving.{RefusedFiles}
use Rattle.signal_office_file.specs.declared.left.FileLeft.{FileLeft}
use Rattle.signal_office_file.specs.declared.left.FileLeft.TheVariants as left

cause_told : (cause : OpenFault) → (cause ≢ why.Version) × (cause ≢ why.Damaged) → IsStoreOrMemory (told_of cause)
cause_told why.Version none = absurd (none.0 refl)
cause_told why.Damaged none = absurd (none.1 refl)
cause_told why.Store none = inl refl
cause_told why.NoMemory none = inr refl

-- a connection that found today's tables, and was refused
module _ {S : Type 0} (g : Ghosts S) (conn : Held S) (cause : OpenFault) (back : Result (Held S) S) (it : IsRefused g conn cause back)
    (trees : Trees) (today : AreToday trees) (found : HasCleanDisk (state g conn) → (state g conn).committed.trees ≡ trees) (clean : IsCleanStore g (store_left g back)) where
  same : (state g conn).committed.trees ≡ trees
  same = found (omega (arith, clean, it.left.clean))

  tells_none : (cause ≢ why.Version) × (cause ≢ why.Damaged)
  tells_none = (
    (λ is. today_version trees today (subst HasOtherVersion same (subst (λ why. TellsOfTables why (state g conn).committed.trees) is (it.told clean)))),
    (λ is. today_rows trees today (subst HasRowsAlone same (subst (λ why. TellsOfTables why (state g conn).committed.trees) is (it.told clean)))),
  )

  leaves_same : ((db : Trees) → (state g conn).may_leave db → db ≡ (state g conn).committed.trees) → (db : Trees) → g.recovers (store_left g back) db → IsAlike trees db
  leaves_same settled db may = elim (it.left.crash clean db may) [
    | inl was ↦ let is = settled db was ∙ same in record { today = subst AreToday (sym is) today; content = ap content_of is }
    | inr over ↦ record { today = over.today; content = hold_office trees (content_of db) today.sound.lists.listed (subst (λ (t : Trees). Hold t (content_of db)) same over.kept) }
  ]

module _ {D : Type 0} {g : Disk D} (stays : (file : D) → g.may_leave file (g.seen file)) (files : Files D) where
  keeps_today : (trees : Trees) → HoldToday g files trees → (told : Fault) (back : FileLeft D g) → IsRefusedIn files told back → KeepsToday trees told back
  keeps_today trees held told (left.Unopened back) (inl spent) = record { told_is = λ clean. inl spent.told_is; recovers = λ clean. tt }
  keeps_today trees held told (left.Unopened back) (inr failed) = record { told_is = λ clean. error_told failed.error told failed.told_is; recovers = λ clean. tt }
  keeps_today trees held told (left.Database back) it =
      let found : HasCleanDisk (file_state it.conn) → (file_state it.conn).committed.trees ≡ trees =
      λ clean. ∥∥₁_elim (held.alone _ (inl refl)).both (Trees-set _ _) (λ db. (it.found clean).0.holds trees db) in
      record {
        told_is = λ clean. subst IsStoreOrMemory (sym it.told_is) (cause_told it.cause (tells_none over_files it.conn it.cause back it.refused trees held.today found clean));
        recovers = λ clean. leaves_same over_files it.conn it.cause back it.refused trees held.today found clean
            (λ db may. settled_at it.conn.store stays db (it.found (omega (arith, clean, it.refused.left.clean))).1.0.is_open may);
      }

  pub refused_files : (told : Fault) (back : FileLeft D g) → IsRefusedIn files told back → RefusedFiles files told back
  refused_files told back it = record { refused = it; kept = λ trees held. keeps_today trees held told back it }
