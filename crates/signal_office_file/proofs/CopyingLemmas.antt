-- Files whose bytes were read are as they were; and those bytes alone are the office.
use Rattle.std.proofs.Common.{◌≡◌, ℕ, inl, inr, refl, subst, ap₂, ap, ◌∙◌, List, Result, Ok, Err, IsTrue}
use Rattle.std.specs.Prelude.{⊤}
use Rattle.std.proofs.lemmas.Bool.{and_from, and_parts}
use Rattle.sqlite.specs.Recovery.{Image}
use Rattle.sqlite.specs.WalReads.{AreClean}
use Rattle.sqlite_disk.specs.declared.Disk.{Ghosts as Disk}
use Rattle.sqlite_disk.specs.declared.Files.{Files}
use Rattle.office_http_framing.specs.Ends.{Told}
use Rattle.office_tables.specs.Content.{Content}
use Rattle.signal_office_file.specs.Copying.{StaysAsRead, PoursAs}
use Rattle.signal_office_faults.specs.declared.fault.Fault.{Fault}
use Rattle.signal_office_file.specs.Ended.{IsCopyOf}
use Rattle.signal_office_file.specs.Files.{HoldAlone, IsImageOf, KeepTables}

-- the bytes of the database file are the office, with no log
bytes_alone : {D : Type 0} (g : Disk D) (files : Files D) (tables : Content) → KeepTables g files tables → HoldAlone (g.seen files.db) tables
bytes_alone g files tables kept = record {
  trees = kept.trees;
  holds = (kept.held.alone _ (inl refl)).alone;
  today = kept.held.today;
  content = kept.content;
}

module _ {D : Type 0} (g : Disk D) (files back : Files D) (start end : Told) where
  module _ (log : back.log ≡ files.log) (read : StaysAsRead g files.db back.db) where
    image_before : (image : Image) → IsImageOf g back image → IsImageOf g files image
    image_before image (inl now) = inl (now ∙ ap₂ (λ (l d : List ℕ). record { log = l; db = d }) (ap g.seen log) read.seen)
    image_before image (inr may) = inr (subst (λ (d : D). g.may_leave d image.log) log may.0, read.crash image.db may.1)

    kept_so : (tables : Content) → KeepTables g files tables → KeepTables g back tables
    kept_so tables kept = record {
      trees = kept.trees;
      held = record { alone = λ image is. kept.held.alone image (image_before image is); today = kept.held.today };
      content = kept.content;
    }

    clean_so : AreClean g back.log back.db → AreClean g files.log files.db
    clean_so clean =
        let both = and_parts (g.is_clean back.log) (g.is_clean back.db) clean in
        and_from (g.is_clean files.log) (g.is_clean files.db) (subst (λ (d : D). IsTrue (g.is_clean d)) log both.0) (read.clean both.1)

  copy_so : (done : Result ⊤ Fault) → PoursAs g files start end done back → IsTrue (g.is_clean back.db)
      → (tables : Content) → KeepTables g files tables → IsCopyOf start end tables done
  copy_so (Ok it) poured clean tables kept = (g.seen files.db, poured.copied clean, bytes_alone g files tables kept)
  copy_so (Err why) poured clean tables kept = poured.fault

  module _ (done : Result ⊤ Fault) (poured : PoursAs g files start end done back) where
    pub poured_clean : AreClean g back.log back.db → AreClean g files.log files.db
    poured_clean = clean_so poured.log poured.read

    pub poured_kept : (tables : Content) → KeepTables g files tables → KeepTables g back tables
    poured_kept = kept_so poured.log poured.read

    pub poured_copy : AreClean g back.log back.db → (tables : Content) → KeepTables g files tables → IsCopyOf start end tables done
    poured_copy clean = copy_so done poured (and_parts (g.is_clean back.log) (g.is_clean back.db) clean).1
