use Rattle.std.proofs.Common.{rules}
use Rattle.office_tables_maps.proofs.maps.Maps.copy_tables.Goals as goal

pub invariant_of-result : goal.invariant_of-result
invariant_of-result c = record {
  intersections = rw c.in_ok-copied_rows.ensures c.self.invariant.intersections;
  rows = rw c.in_ok-copied_rows-2.ensures c.self.invariant.rows;
  changes = rw c.in_ok-copied_rows-3.ensures c.self.invariant.changes;
  inspections = rw c.in_ok-copied_rows-4.ensures c.self.invariant.inspections;
  orders = rw c.in_ok-copied_rows-5.ensures c.self.invariant.orders;
  used = rw c.in_ok-copied_rows-6.ensures c.self.invariant.used;
  hands = rw c.in_ok-copied_rows-7.ensures c.self.invariant.hands;
  deliveries = rw c.in_ok-copied_rows-8.ensures c.self.invariant.deliveries;
}

pub returns : goal.returns
returns c =
    rw (
      c.in_ok-copied_rows.ensures,
      c.in_ok-copied_rows-2.ensures,
      c.in_ok-copied_rows-3.ensures,
      c.in_ok-copied_rows-4.ensures,
      c.in_ok-copied_rows-5.ensures,
      c.in_ok-copied_rows-6.ensures,
      c.in_ok-copied_rows-7.ensures,
      c.in_ok-copied_rows-8.ensures,
    ) (search rules)
