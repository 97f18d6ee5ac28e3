use Rattle.std.proofs.Common.{◌≡◌, ◌++◌, drop}
use Rattle.std.specs.List.{flat_map}
use Rattle.signal_rules.specs.RowWalk.{of_kind}
use Rattle.signal_rules.proofs.subjects.add_kind.Given as goal

abbrev pub invariant-loop-row : goal.invariant-loop-row
invariant-loop-row l =
    l.subjects.items ++ flat_map (of_kind l.kind) (drop l.row-index l.rows) ≡ l.fn.subjects.items ++ flat_map (of_kind l.kind) l.rows
