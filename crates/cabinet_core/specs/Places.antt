-- The place of a record among others of its kind.
use Rattle.std.specs.Prelude.{ℕ, ◌+◌, ◌*◌}
use Rattle.cabinet_core.specs.declared.record.Inspection.{Inspection}
use Rattle.cabinet_core.specs.declared.record.Order.{Order}
use Rattle.cabinet_core.specs.declared.record.UsedLine.{UsedLine}

-- inspections are ordered by their numbers
abbrev pub inspection_place : Inspection → ℕ
inspection_place inspection = inspection.number

-- orders are ordered by their numbers
abbrev pub order_place : Order → ℕ
order_place order = order.number

-- used parts are ordered by their orders, and in an order by their lines, which are 1 to 99
abbrev pub line_place : UsedLine → ℕ
line_place used = used.order * 100 + used.line
