-- What an edit of a plan promises, of the shelf before and after it.
use Rattle.std.specs.Prelude.{ℕ, List, ⊤}
use Rattle.std.specs.FinMap.{get}
use Rattle.office_desk.specs.{Running.WasDone, StandFor.StandForSound}
use Rattle.office_desk_timing.specs.{Revising.EditsOffice, Revising.IsEditDecision, declared.revising.PlanEdit.PlanEdit}
use Rattle.office_machine.specs.{Office.Office, declared.reply.Reply.Reply}
use Rattle.office_tables_shelf.specs.{Content.Content, declared.shelf.Shelf.Ghosts}

-- tables that stand for the office after an edit of it, whichever sound office the old ones stand for
abbrev pub AfterEdit : ℕ → (clerk : List ℕ) → PlanEdit → Content → Content → Type 0
AfterEdit id clerk edit old found = (office : Office) → StandForSound old office →
    (reply : Reply) × (next : Office) × EditsOffice office id clerk edit (get office.intersections id) reply next × StandForSound found next

-- A PLAN WAS EDITED: all of its steps took effect, or none; and the rows that were written are those of the edit
abbrev pub EditsPlan : {S : Type 0} → Ghosts S → (id : ℕ) → (clerk : List ℕ) → PlanEdit → Reply → (old new : S) → Type 0
EditsPlan g id clerk edit =
    WasDone g (λ tables decided. IsEditDecision ⊤ tables id clerk edit decided.reply decided.changes.items)
