use Rattle.std.proofs.Common.{◌≡◌, ◌∷◌, ◌++◌}
use Rattle.std.specs.Vec.Iter.{into_iter_items}
use Rattle.office_tables_shelf.specs.declared.rows.RowChange.TheVariants.{PutIntersection}
use Rattle.office_desk_timing.specs.Moving.{row_changes_of}
use Rattle.office_desk_timing.proofs.changing.row_changes.Given as goal

-- the rows so far, and those of the changes that are left
abbrev pub invariant-loop-change : goal.invariant-loop-change
invariant-loop-change l = l.made.items ++ row_changes_of l.id (into_iter_items l.change-iterator)
    ≡ PutIntersection l.id l.fn.row ∷ row_changes_of l.id l.fn.changes
