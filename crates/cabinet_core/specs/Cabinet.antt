-- The table of the register: what becomes of a command, tested in the order of its lines.
use Rattle.std.specs.Prelude.{◌≡◌, ℕ, ◌+◌, ◌-◌, nat_lt, Bool, ◌&&◌, ◌==◌, if◌then◌else◌, List, [], ◌∷◌, Option, Some, None, is_some, Result, Ok, Err}
use Rattle.std.specs.Str.{bytes_eq}
use Rattle.cabinet_core.specs.declared.part.TheConstants.{MOST_ON_HAND}
use Rattle.cabinet_core.specs.declared.record.Inspection.{Inspection}
use Rattle.cabinet_core.specs.declared.record.Opening.{Opening}
use Rattle.cabinet_core.specs.declared.record.Closing.{Closing}
use Rattle.cabinet_core.specs.declared.record.Order.{Order}
use Rattle.cabinet_core.specs.declared.record.UsedLine.{UsedLine}
use Rattle.cabinet_core.specs.declared.record.Delivery.{Delivery}
use Rattle.cabinet_core.specs.declared.refusal.CabinetRefusal.{CabinetRefusal}
use Rattle.cabinet_core.specs.declared.refusal.CabinetRefusal.TheVariants.{InspectionDiffers, OrderDiffers, UnknownOrder, OrderClosed, DayBeforeOpening, NoStock, StockFull, DeliveryDiffers, LineDiffers, CloseDiffers, NoMemory}
use Rattle.cabinet_core.specs.declared.decide.CabinetChange.{CabinetChange}
use Rattle.cabinet_core.specs.declared.decide.CabinetChange.TheVariants.{PutOrder, PutLine, PutDelivery, PutPart}
use Rattle.cabinet_core.specs.declared.decide.Recorded.{Recorded}
use Rattle.cabinet_core.specs.declared.decide.Recorded.TheVariants.{Added, Same}

-- what becomes of a command: it adds, or what it asks for is already recorded, or it is refused
pub data Line : Type 0 where
  added same : Line
  refused : CabinetRefusal → Line

-- how many of a part are on hand: 0 if the part has no row yet
abbrev pub on_hand : Option ℕ → ℕ
on_hand None = 0
on_hand (Some stored) = stored

-- the order that an opening makes
abbrev pub record_of : Opening → Order
record_of opening = record { number = opening.number; opened = opening.day; clerk = opening.clerk; text = opening.text; closing = None }

-- an order with this closing
abbrev pub with_closing : Order → Closing → Order
with_closing order closing = record order { closing = Some closing }

-- two inspections have the same number, day, clerk and text
abbrev pub is_same_inspection : Inspection → Inspection → Bool
is_same_inspection there asked =
    there.number == asked.number && (there.day == asked.day && (bytes_eq there.clerk asked.clerk && bytes_eq there.text asked.text))

-- two closings have the same day and clerk
abbrev pub is_same_closing : Closing → Closing → Bool
is_same_closing there asked = there.day == asked.day && bytes_eq there.closer asked.closer

-- two used parts have the same order, line, part and count
abbrev pub is_same_line : UsedLine → UsedLine → Bool
is_same_line there asked =
    there.order == asked.order && (there.line == asked.line && (bytes_eq there.part asked.part && there.count == asked.count))

-- two deliveries have the same part, number, day and count
abbrev pub is_same_delivery : Delivery → Delivery → Bool
is_same_delivery there asked =
    bytes_eq there.part asked.part && (there.number == asked.number && (there.day == asked.day && there.count == asked.count))

-- an order has the number, day, clerk and text of this opening, whether it is open or closed
abbrev pub is_opened_so : Order → Opening → Bool
is_opened_so there asked =
    there.number == asked.number && (there.opened == asked.day && (bytes_eq there.clerk asked.clerk && bytes_eq there.text asked.text))

-- the line of a command that records an inspection, by the recorded inspection with its number, if there is one
abbrev pub inspect_line : Option Inspection → Inspection → Line
inspect_line None asked = added
inspect_line (Some there) asked = if is_same_inspection there asked then same else refused InspectionDiffers

-- the line of a command that opens an order, by the recorded order with its number, if there is one
abbrev pub open_line : Option Order → Opening → Line
open_line None asked = added
open_line (Some there) asked = if is_opened_so there asked then same else refused OrderDiffers

-- the line of a command that uses a part, by the recorded line with its order and line number, the order, and how
-- many of the part are on hand; each may be missing
abbrev pub use_line : Option UsedLine → Option Order → Option ℕ → UsedLine → Line
use_line (Some there) order hand asked = if is_same_line there asked then same else refused LineDiffers
use_line None None hand asked = refused UnknownOrder
use_line None (Some order) hand asked =
    if is_some order.closing then refused OrderClosed
    else (if nat_lt (on_hand hand) asked.count then refused NoStock else added)

-- the line of a command that closes an existing order, by the order's closing, if it has one
abbrev pub close_order_line : Order → Option Closing → Closing → Line
close_order_line order (Some there) asked = if is_same_closing there asked then same else refused CloseDiffers
close_order_line order None asked = if nat_lt asked.day order.opened then refused DayBeforeOpening else added

-- the line of a command that closes an order, by the order that is there
abbrev pub close_line : Option Order → Closing → Line
close_line None asked = refused UnknownOrder
close_line (Some order) asked = close_order_line order order.closing asked

-- the line of a command that receives a delivery, by the recorded delivery with its part and number, and how many of
-- the part are on hand; each may be missing
abbrev pub receive_line : Option Delivery → Option ℕ → Delivery → Line
receive_line (Some there) hand asked = if is_same_delivery there asked then same else refused DeliveryDiffers
receive_line None hand asked = if nat_lt MOST_ON_HAND (on_hand hand + asked.count) then refused StockFull else added

-- the rows of a used part: its line is put, and its pieces leave the stock
abbrev pub use_changes : Option ℕ → UsedLine → List CabinetChange
use_changes hand asked = PutLine asked ∷ PutPart asked.part (on_hand hand - asked.count) ∷ []

-- the rows of a closing: the order is put back closed
abbrev pub close_changes : Option Order → Closing → List CabinetChange
close_changes None asked = []
close_changes (Some order) asked = PutOrder (with_closing order asked) ∷ []

-- the rows of a delivery: its pieces come into stock, and then it is put, since it refers to the part
abbrev pub receive_changes : Option ℕ → Delivery → List CabinetChange
receive_changes hand asked = PutPart asked.part (on_hand hand + asked.count) ∷ PutDelivery asked ∷ []

-- a decision says which line it is and, if the command adds, which rows are put; it reports want of memory only if
-- the command adds
abbrev pub Records : Result Recorded CabinetRefusal → Line → List CabinetChange → Type 0
Records (Ok (Added changes)) line list = (line ≡ added) × (changes.items ≡ list)
Records (Ok Same) line list = line ≡ same
Records (Err NoMemory) line list = line ≡ added
Records (Err refusal) line list = line ≡ refused refusal
