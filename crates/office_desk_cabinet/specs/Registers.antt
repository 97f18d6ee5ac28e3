-- What a register holds at a place, and what is shown of a cabinet.
use Rattle.std.specs.Prelude.{◌≡◌, ℕ, Option}
use Rattle.std.specs.FinMap.{get}
use Rattle.cabinet_core.specs.{Register.Register, Register.records_at, Stock.hand_of, declared.record.CabinetView.CabinetView}
use Rattle.office_tables_shelf.specs.Places.{Place, Inspection, Order, Line, Part, Delivery, RecordAt}

-- what a register holds at a place, if it holds anything there
abbrev pub held_in : Register → (place : Place) → Option (RecordAt place)
held_in r (Inspection id n) = get r.inspections (id, n)
held_in r (Order id n) = get r.orders (id, n)
held_in r (Line id order line) = get r.lines (id, (order, line))
held_in r (Part code) = hand_of r code
held_in r (Delivery code n) = get r.deliveries (code, n)

-- the view has what the register holds of an intersection: its inspections, its orders and its used parts, each in the order of their keys
pub record ShowsCabinet (r : Register) (id : ℕ) (view : CabinetView) : Type 0 where
  pub inspections : view.inspections ≡ records_at id r.inspections
  pub orders : view.orders ≡ records_at id r.orders
  pub lines : view.lines ≡ records_at id r.lines
