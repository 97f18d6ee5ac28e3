use Rattle.std.proofs.Common.{rules}
use Rattle.office_desk.proofs.there.there_at.Goals as goal

pub returns-in-Inspection : goal.returns-in-Inspection
returns-in-Inspection c = rw c.in-Inspection.is (search rules)

pub returns-in-Order : goal.returns-in-Order
returns-in-Order c = rw c.in-Order.is (search rules)

pub returns-in-Line : goal.returns-in-Line
returns-in-Line c = rw c.in-Line.is (search rules)

pub returns-in-Part : goal.returns-in-Part
returns-in-Part c = rw c.in-Part.is (search rules)

pub returns-in-Delivery : goal.returns-in-Delivery
returns-in-Delivery c = rw c.in-Delivery.is (search rules)
