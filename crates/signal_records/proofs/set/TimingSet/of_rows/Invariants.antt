use Rattle.std.proofs.Common.{◌≡◌, map}
use Rattle.std.specs.Vec.Iter.{into_iter_items}
use Rattle.signal_records.specs.TimingSet.{after_changes, set_of_rows}
use Rattle.signal_records.specs.declared.record.Change.TheVariants.{Put}
use Rattle.signal_records.proofs.set.TimingSet.of_rows.Given as goal

-- what is left, put now, gives what all rows give
abbrev pub invariant-loop-row : goal.invariant-loop-row
invariant-loop-row l =
    after_changes l.set (map (λ row. Put row) (into_iter_items l.row-iterator))
    ≡ set_of_rows l.fn.rows.items
