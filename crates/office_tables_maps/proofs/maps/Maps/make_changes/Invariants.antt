use Rattle.std.proofs.Common.{◌≡◌, drop}
use Rattle.office_tables_shelf.specs.Change.{changed_by}
use Rattle.office_tables_maps.proofs.maps.Maps.make_changes.Given as goal

-- what is left, made now, gives what all changes give
abbrev pub invariant-loop-change : goal.invariant-loop-change
invariant-loop-change l = changed_by l.self (drop l.change-index l.changes)
    ≡ changed_by l.fn.self l.changes
