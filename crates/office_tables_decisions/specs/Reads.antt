-- What a call that reads a shelf promises.
use Rattle.std.specs.Prelude.{◌≡◌, Result, Ok, Err}
use Rattle.office_tables_shelf.specs.{Keeps.KeepsShelf, Shelf.IsTold, declared.shelf.Shelf.Ghosts, declared.shelf.ShelfFault.ShelfFault, declared.shelf.ShelfFault.TheVariants.Damaged}

-- A call reads a shelf and writes nothing: the tables, the counts of writes and what a crash may leave stay, and nothing makes a disk clean again.
-- Where it answers, or reports a damaged row, an open database stays open; where it is sure to read, the database was open.
pub record OnlyReads {S A : Type 0} (g : Ghosts S) (reads : Type 0) (result : Result A ShelfFault) (old new : S) : Type 0 where
  pub kept : KeepsShelf g old new
  pub clean_before : g.is_clean new → g.is_clean old
  pub stays : g.is_clean new → IsTold result → g.is_honest old → g.is_honest new
  pub read : reads → g.is_clean new → IsTold result → g.is_honest new

-- what a read of an open database gives: an answer of which this is true, or a report of a damaged row, which is one that it reads
abbrev pub Reports : {A : Type 0} → (is_honest : Type 0) → Result A ShelfFault → (Says : A → Type 0) → (damage : Type 0) → Type 0
Reports is_honest (Ok answer) Says damage = is_honest → Says answer
Reports is_honest (Err why) Says damage = why ≡ Damaged → is_honest → damage
