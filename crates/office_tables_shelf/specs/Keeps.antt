-- What a call that reads a shelf keeps, by the members of its trait.
use Rattle.std.specs.Prelude.{Result}
use Rattle.office_tables_shelf.specs.{Shelf.IsKept, Shelf.Looks, declared.shelf.Shelf.Ghosts, declared.shelf.ShelfFault.ShelfFault}

-- a call that reads a shelf leaves its content, its counts of writes and what a crash may leave as they were
abbrev pub KeepsShelf : {S : Type 0} → Ghosts S → S → S → Type 0
KeepsShelf g old new = IsKept g.is_honest g.content g.written g.may_leave old new

-- a call reads a shelf and writes nothing
abbrev pub ReadsShelf : {S A : Type 0} → Ghosts S → Result A ShelfFault → S → S → Type 0
ReadsShelf g result old new = Looks g.is_clean g.is_honest g.content g.written g.may_leave result old new
