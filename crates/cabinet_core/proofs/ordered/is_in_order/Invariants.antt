use Rattle.std.proofs.Common.{◌≤◌}
use Rattle.std.specs.List.{AllAdjacentBelow}
use Rattle.cabinet_core.proofs.ordered.is_in_order.Given as goal

abbrev pub invariant-loop-next : goal.invariant-loop-next
invariant-loop-next g l = AllAdjacentBelow
    (λ x y. g.T.Placed.place x ≤ g.T.Placed.place y) l.list l.next
