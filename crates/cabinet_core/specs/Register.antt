-- What the cabinet register holds: inspections, orders, used parts and deliveries, each record under its own key.
use Rattle.std.specs.Prelude.{ℕ, ◌==◌, List, map}
use Rattle.std.specs.Ordering.{nat_cmp, ordering_then}
use Rattle.std.specs.Cmp.Lexicographic.{slice_cmp}
use Rattle.std.specs.FinMap.{FinMap, empty, entries}
use Rattle.std.specs.FinMap.Entries.{where_key}
use Rattle.std.specs.declared.cmp.Ordering.{Ordering}
use Rattle.cabinet_core.specs.declared.record.Inspection.{Inspection}
use Rattle.cabinet_core.specs.declared.record.Order.{Order}
use Rattle.cabinet_core.specs.declared.record.UsedLine.{UsedLine}
use Rattle.cabinet_core.specs.declared.record.Delivery.{Delivery}

-- ---- keys

-- pairs are ordered by their first part, then by their second
abbrev pub pair_cmp : {A B : Type 0} → (A → A → Ordering) → (B → B → Ordering) → A × B → A × B → Ordering
pair_cmp first second x y = ordering_then (first x.0 y.0) (second x.1 y.1)

-- the key of an inspection or an order: its intersection and its number
abbrev pub RecordKey : Type 0
RecordKey = ℕ × ℕ

-- inspections and orders are ordered by intersection, then by number
abbrev pub record_cmp : RecordKey → RecordKey → Ordering
record_cmp = pair_cmp nat_cmp nat_cmp

-- the key of a used part: its intersection, the order and the line
abbrev pub LineKey : Type 0
LineKey = ℕ × RecordKey

-- used parts are ordered by intersection, order and line
abbrev pub line_cmp : LineKey → LineKey → Ordering
line_cmp = pair_cmp nat_cmp record_cmp

-- the key of a delivery: the code of the part and the delivery's number
abbrev pub DeliveryKey : Type 0
DeliveryKey = List ℕ × ℕ

-- deliveries are ordered by the bytes of the part's code, then by number
abbrev pub delivery_cmp : DeliveryKey → DeliveryKey → Ordering
delivery_cmp = pair_cmp (slice_cmp nat_cmp) nat_cmp

-- ---- the register

-- the register of all cabinets, and the deliveries into stock
pub record Register : Type 0 where
  pub inspections : FinMap record_cmp Inspection
  pub orders : FinMap record_cmp Order
  pub lines : FinMap line_cmp UsedLine
  pub deliveries : FinMap delivery_cmp Delivery

-- nothing was recorded yet
abbrev pub no_register : Register
no_register = record { inspections = empty; orders = empty; lines = empty; deliveries = empty }

-- the records of an intersection, in the order of their keys
abbrev pub records_at : {K X : Type 0} {R : ℕ × K → ℕ × K → Ordering} → ℕ → FinMap R X → List X
records_at {R = R} id records = map (λ e. e.1) (where_key R (λ key. key.0 == id) (entries records))
