-- What the two files of an office hold, as they read now and after a stop.
use Rattle.std.specs.Prelude.{◌≡◌, ◌⊎◌, ℕ, List, [], IsTrue}
use Rattle.sqlite.specs.Closing.{HoldsAlone}
use Rattle.sqlite.specs.Files.{HoldsDatabase, AreFoundIn, image_of}
use Rattle.sqlite.specs.Recovery.{Image}
use Rattle.sqlite.specs.Tree.{Trees}
use Rattle.sqlite.specs.WalFiles.{outcomes}
use Rattle.sqlite.specs.WalReads.{AreClean}
use Rattle.sqlite_disk.specs.declared.Disk.{Ghosts as Disk}
use Rattle.sqlite_disk.specs.declared.Files.{Files}
use Rattle.office_tables.specs.Content.{Content}
use Rattle.office_tables.specs.Stored.{content_of}
use Rattle.office_tables.specs.Foreign.{Hold}
use Rattle.office_tables_sql.specs.Version.{AreToday}

-- the trees found are those of the office's tables with today's version, and hold the content that the given trees
-- hold
pub record IsAlike (trees found : Trees) : Type 0 where
  pub today : AreToday found
  pub content : content_of found ≡ content_of trees

-- the trees are those that an opening finds in the files: of a database, its own; where there is none, empty ones
pub record AreThoseOf (image : Image) (trees : Trees) : Type 0 where
  pub holds : (db : Trees) → HoldsDatabase image db → trees ≡ db
  pub reads : AreFoundIn image trees

-- the tables in the files hold this content; a table that they lack holds nothing
pub record HoldIn (image : Image) (tables : Content) : Type 0 where
  pub trees : Trees
  pub those : AreThoseOf image trees
  pub hold : Hold trees tables

-- A file of these bytes, with no log beside it, holds the office's tables with this content and today's version.
pub record HoldAlone (bytes : List ℕ) (tables : Content) : Type 0 where
  pub trees : Trees
  pub holds : ∥ HoldsDatabase (record { log = []; db = bytes }) trees ∥₁
  pub today : AreToday trees
  pub content : content_of trees ≡ tables

module _ {D : Type 0} (g : Disk D) (files : Files D) where
  -- no sync of the log or of the database file has failed
  abbrev pub AreUsable : Type 0
  AreUsable = IsTrue (g.is_usable files.log) × IsTrue (g.is_usable files.db)

  -- nothing has happened to the files since they were opened: the disk is clean, and they hold this image, as they
  -- did then, also after a stop
  pub record AreNew (image : Image) : Type 0 where
    pub clean : AreClean g files.log files.db
    pub seen : image_of g files ≡ image
    pub left : (after : Image) → outcomes g files.log files.db after → after ≡ image

  -- the image is that of the two files as they read now, or one that a stop may leave
  abbrev pub IsImageOf : Image → Type 0
  IsImageOf image = (image ≡ image_of g files) ⊎ outcomes g files.log files.db image

  -- The files hold these trees and no others, with their log and without it, now and after a stop: the tables of
  -- the office, with today's version.
  pub record HoldToday (trees : Trees) : Type 0 where
    pub alone : (image : Image) → IsImageOf image → HoldsAlone image trees
    pub today : AreToday trees

  -- the files hold these tables and no others, now and after a stop, with today's version
  pub record KeepTables (tables : Content) : Type 0 where
    pub trees : Trees
    pub held : HoldToday trees
    pub content : content_of trees ≡ tables
