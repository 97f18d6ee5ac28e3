-- What the desk answers of an intersection's timing, by the row that it read or the fault that it met.
use Rattle.std.specs.Prelude.{◌≡◌, ℕ, Some}
use Rattle.std.specs.FinMap.{get}
use Rattle.signal_records.specs.declared.state.Verdict.{Verdict}
use Rattle.draft_core.specs.Transaction.{verdict_of}
use Rattle.office_tables_shelf.specs.{Content.Content, declared.rows.IntersectionRow.IntersectionRow, declared.shelf.ShelfFault.ShelfFault, declared.shelf.ShelfFault.TheVariants.NoMemory, declared.shelf.ShelfFault.TheVariants.Store, declared.shelf.ShelfFault.TheVariants.Damaged as StoredDamaged}
use Rattle.office_machine.specs.{Office.Intersection, Office.Office, declared.refusal.Refusal.Refusal, declared.refusal.Refusal.TheVariants.Unavailable, declared.refusal.Refusal.TheVariants.Damaged}
use Rattle.office_tables_decisions.specs.StandFor.{StandForSound, row_of}

-- how a fault of the shelf is answered
abbrev pub refusal_of : ShelfFault → Refusal
refusal_of NoMemory = Unavailable
refusal_of Store = Unavailable
refusal_of StoredDamaged = Damaged

-- this is the verdict on the intersection's draft, in each sound office that the tables stand for and
-- in which the intersection has this row
abbrev pub IsVerdictOf : Content → ℕ → IntersectionRow → Verdict → Type 0
IsVerdictOf tables id row verdict = (office : Office) (i : Intersection) → StandForSound tables office → get office.intersections id ≡ Some i → row ≡ row_of i → verdict ≡ verdict_of i.timing.draft
