-- What the changes of a decision do to the register, and to what is on hand.
use Rattle.std.specs.Prelude.{◌≡◌, ℕ, if◌then◌else◌, List, [], ◌∷◌, Option, Some, Result, Ok, Err}
use Rattle.std.specs.FinMap.{insert}
use Rattle.std.specs.Str.{bytes_eq}
use Rattle.cabinet_core.specs.Cabinet.{added, same, refused}
use Rattle.cabinet_core.specs.Register.{Register}
use Rattle.cabinet_core.specs.Sound.{IsSoundRegister}
use Rattle.cabinet_core.specs.Step.{Standing, standing_in, line_at, with_record}
use Rattle.cabinet_core.specs.Stock.{hand_of}
use Rattle.cabinet_core.specs.declared.command.RecordCommand.{RecordCommand}
use Rattle.cabinet_core.specs.declared.decide.CabinetChange.{CabinetChange}
use Rattle.cabinet_core.specs.declared.decide.CabinetChange.TheVariants.{PutInspection, PutOrder, PutLine, PutDelivery, PutPart}
use Rattle.cabinet_core.specs.declared.decide.Recorded.{Recorded}
use Rattle.cabinet_core.specs.declared.decide.Recorded.TheVariants.{Added, Same}
use Rattle.cabinet_core.specs.declared.refusal.CabinetRefusal.{CabinetRefusal}
use Rattle.cabinet_core.specs.declared.refusal.CabinetRefusal.TheVariants.{NoMemory}

-- the register after a change on an intersection; how many are on hand is a sum over records and no record itself, so
-- it changes nothing
abbrev pub with_change : ℕ → Register → CabinetChange → Register
with_change id r (PutInspection inspection) = record r { inspections = insert r.inspections (id, inspection.number) inspection }
with_change id r (PutOrder order) = record r { orders = insert r.orders (id, order.number) order }
with_change id r (PutLine line) = record r { lines = insert r.lines (id, (line.order, line.line)) line }
with_change id r (PutDelivery delivery) = record r { deliveries = insert r.deliveries (delivery.part, delivery.number) delivery }
with_change id r (PutPart code hand) = r

-- the register after changes, made in their order
abbrev pub with_changes : ℕ → Register → List CabinetChange → Register
with_changes id r [] = r
with_changes id r (change ∷ changes) = with_changes id (with_change id r change) changes

-- how many of a part are on hand after a change: the count of this part that it puts, else as before
abbrev pub hand_told : List ℕ → Option ℕ → CabinetChange → Option ℕ
hand_told code before (PutPart part hand) = if bytes_eq part code then Some hand else before
hand_told code before _ = before

-- how many of a part are on hand after changes, in their order: the last count of this part that they put, else as
-- before
abbrev pub hand_after : List ℕ → Option ℕ → List CabinetChange → Option ℕ
hand_after code before [] = before
hand_after code before (change ∷ changes) = hand_after code (hand_told code before change) changes

-- the changes bring the records of the next register, which is sound, and put how many of each part it then has on
-- hand
pub record ChangesMake (id : ℕ) (r : Register) (changes : List CabinetChange) (next : Register) : Type 0 where
  pub records : with_changes id r changes ≡ next
  pub hands : (code : List ℕ) → hand_after code (hand_of r code) changes ≡ hand_of next code
  pub sound : IsSoundRegister next

-- In a register, a decision is the command's line there and, if it adds, its changes make the register with the
-- record.
abbrev pub MakesIn : ℕ → Register → RecordCommand → Result Recorded CabinetRefusal → Type 0
MakesIn id r command (Ok (Added changes)) =
    (line_at r command ≡ added) × ChangesMake id r changes.items (with_record r command)
MakesIn id r command (Ok Same) = line_at r command ≡ same
MakesIn id r command (Err NoMemory) = line_at r command ≡ added
MakesIn id r command (Err refusal) = line_at r command ≡ refused refusal

-- A decision makes the next register in every sound register that has under the command's keys what the decision was
-- based on; the changes are put under the intersection.
abbrev pub Makes : ℕ → (command : RecordCommand) → Standing command
    → Result Recorded CabinetRefusal → Type 0
Makes id command there result =
    (r : Register) → IsSoundRegister r → there ≡ standing_in r command → MakesIn id r command result
