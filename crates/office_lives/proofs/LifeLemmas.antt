-- From one run over a file to the next.
use Rattle.std.proofs.Common.{◌≡◌, ℕ, List, inl, inr, None, Some, Option, Result, Ok, Err, refl, ap, sym, subst}
use Rattle.std.specs.Prelude.{IfSome}
use Rattle.sqlite.specs.{Files.image_of, Held.Held, WalReads.AreClean}
use Rattle.sqlite.specs.declared.FileStore.{FileStore}
use Rattle.sqlite_disk.specs.declared.Disk.{Ghosts as Disk}
use Rattle.sqlite_disk.specs.declared.Files.{Files}
use Rattle.office_tables.specs.{Content.Content, Stored.content_of}
use Rattle.office_tables_shelf.specs.{Cells.Cell}
use Rattle.office_tables_sql.specs.{Version.AreToday, Version.current_version, Version.first_version}
use Rattle.office_tables.proofs.Migration.{stand_anew}
use Rattle.signal_office_file.specs.Files.{KeepTables}
use Rattle.signal_office_file.specs.Left.{database_of}
use Rattle.signal_office_file.specs.Migrating.{IsClosedMigrated}
use Rattle.signal_office_file.specs.declared.left.FileLeft.{FileLeft}
use Rattle.signal_office_file.specs.declared.left.FileLeft.TheVariants as left
use Rattle.office_lives.specs.Life.{HoldFormerly, Made, migrated}

-- what follows from what holds of a value holds of it, if there is one
pub some_so : {T : Type 0} (P Q : T → Type 0) (found : Option T) → ((it : T) → P it → Q it) → IfSome found P → IfSome found Q
some_so P Q (Some it) so holds = so it holds
some_so P Q None so holds = holds

module _ {D : Type 0} (g : Disk D) where
  -- closed files of which the migration was done
  pub done_migrated : (files : Files D) (count : ℕ) (back : Files D) → IsClosedMigrated g files (Ok count) back → AreClean g back.log back.db
      → (version : List Cell) × (old : Content) × (new : Content) × HoldFormerly (image_of g files) version old × Made g (migrated version) old new
      × KeepTables g back new
  done_migrated files count back (Err cause, told, usable, closed) clean = absurd (cc)
  done_migrated files count back (Ok same, told, usable, closed) clean =
      let it = closed clean in
      let was = content_of it.was in
      let now = content_of it.trees in
      elim it.migrated [
        | inl today ↦ (
          current_version,
          was,
          now,
          record { trees = it.was; those = it.those; stored = today.was.stored; content = refl },
          inl (refl, ap content_of today.same),
          record { trees = it.trees; held = record { alone = it.alone; today = subst AreToday (sym today.same) today.was }; content = refl },
        )
        | inr anew ↦ (
          first_version,
          was,
          now,
          record { trees = it.was; those = it.those; stored = anew.was; content = refl },
          inr (refl, λ before stood. stand_anew was now same before anew.migrated stood),
          record { trees = it.trees; held = record { alone = it.alone; today = anew.stored }; content = refl },
        )
      ]

  -- where a database is left, that is what is left
  pub database_is : (file : FileLeft D g) (back : Result (Held (FileStore D g)) (FileStore D g)) → Some back ≡ database_of file → left.Database back ≡ file
  database_is (left.Database it) back is =
      let same : back ≡ it = cc in
      ap left.Database same
  database_is (left.Unopened it) back is = absurd (cc)
