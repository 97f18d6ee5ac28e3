use Rattle.std.proofs.Common.{rules}
use Rattle.office_tables_maps.proofs.maps.Maps.record_at.Goals as goal

pub returns-in_ok-found-in-Inspection-clause-row : goal.returns-in_ok-found-in-Inspection-clause-row
returns-in_ok-found-in-Inspection-clause-row c = rw c.in-Inspection.is (search rules)

pub returns-in_ok-found-in-Order-clause-row : goal.returns-in_ok-found-in-Order-clause-row
returns-in_ok-found-in-Order-clause-row c = rw c.in-Order.is (search rules)

pub returns-in_ok-found-in-Line-clause-row : goal.returns-in_ok-found-in-Line-clause-row
returns-in_ok-found-in-Line-clause-row c = rw c.in-Line.is (search rules)

pub returns-in_ok-found-in-Part-clause-row : goal.returns-in_ok-found-in-Part-clause-row
returns-in_ok-found-in-Part-clause-row c = rw c.in-Part.is (search rules)

pub returns-in_ok-found-in-Delivery-clause-row : goal.returns-in_ok-found-in-Delivery-clause-row
returns-in_ok-found-in-Delivery-clause-row c = rw c.in-Delivery.is (search rules)
