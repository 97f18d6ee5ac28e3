use Rattle.std.proofs.Common.{◌≡◌, ◌++◌, map}
use Rattle.std.specs.Vec.Iter.{into_iter_items}
use Rattle.sqlite_value.specs.Order.{Row}
use Rattle.office_tables.proofs.gather.append.Given as goal

-- the rows so far, and those of the rest
abbrev pub invariant-loop-row : goal.invariant-loop-row
invariant-loop-row l =
    l.moved.items ++ map (λ (row : Row). (l.table, row)) (into_iter_items l.row-iterator)
    ≡ l.initial.moved.items ++ map (λ (row : Row). (l.table, row)) l.fn.rows.items
