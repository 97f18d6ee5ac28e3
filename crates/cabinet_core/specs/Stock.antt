-- The stock: the pieces of a part on hand are those of its deliveries less those of its used lines.
use Rattle.std.specs.Prelude.{ℕ, ◌+◌, ◌-◌, ◌≤◌, Bool, if◌then◌else◌, List, map, Option, Some, None, sum_by}
use Rattle.std.specs.List.{list_any}
use Rattle.std.specs.Str.{bytes_eq}
use Rattle.std.specs.Ordering.{nat_cmp}
use Rattle.std.specs.Cmp.Lexicographic.{slice_cmp}
use Rattle.std.specs.FinMap.{FinMap, entries, from_entries}
use Rattle.cabinet_core.specs.Register.{Register, LineKey, DeliveryKey}
use Rattle.cabinet_core.specs.declared.part.TheConstants.{MOST_ON_HAND}
use Rattle.cabinet_core.specs.declared.record.UsedLine.{UsedLine}
use Rattle.cabinet_core.specs.declared.record.Delivery.{Delivery}

-- the pieces of a part that a delivery brought
abbrev pub pieces_brought : List ℕ → DeliveryKey × Delivery → ℕ
pieces_brought code e = if bytes_eq e.1.part code then e.1.count else 0

-- the pieces of a part that a line used
abbrev pub pieces_taken : List ℕ → LineKey × UsedLine → ℕ
pieces_taken code e = if bytes_eq e.1.part code then e.1.count else 0

-- the pieces of a part that all deliveries brought
abbrev pub pieces_delivered : Register → List ℕ → ℕ
pieces_delivered r code = sum_by (pieces_brought code) (entries r.deliveries)

-- the pieces of a part that all lines used, over all orders of all intersections
abbrev pub pieces_used : Register → List ℕ → ℕ
pieces_used r code = sum_by (pieces_taken code) (entries r.lines)

-- there was a delivery of the part
abbrev pub was_delivered : Register → List ℕ → Bool
was_delivered r code = list_any (λ e. bytes_eq e.1.part code) (entries r.deliveries)

-- the pieces of a part on hand: those of its deliveries less those of its used lines
abbrev pub pieces : Register → List ℕ → ℕ
pieces r code = pieces_delivered r code - pieces_used r code

-- how many of a part are on hand; none if it was never delivered
abbrev pub hand_of : Register → List ℕ → Option ℕ
hand_of r code = if was_delivered r code then Some (pieces r code) else None

-- the parts that were delivered, with how many of each are on hand
abbrev pub stock_by_code : Register → FinMap (slice_cmp nat_cmp) ℕ
stock_by_code r = from_entries (map {B = List ℕ × ℕ} (λ e. (e.1.part, pieces r e.1.part)) (entries r.deliveries))

-- the parts that were delivered, with how many of each are on hand, in the order of their codes
abbrev pub stock_of : Register → List (List ℕ × ℕ)
stock_of r = entries (stock_by_code r)

-- no more was used than was delivered, and what is on hand is at most 999,999,999
pub record IsStocked (r : Register) (code : List ℕ) : Type 0 where
  pub covered : pieces_used r code ≤ pieces_delivered r code
  pub bounded : pieces_delivered r code ≤ pieces_used r code + MOST_ON_HAND
