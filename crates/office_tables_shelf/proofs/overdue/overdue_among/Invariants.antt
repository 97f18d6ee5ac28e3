use Rattle.std.proofs.Common.{◌≡◌, ◌≤◌, length, map, take}
use Rattle.cabinet_core.specs.Overdue.{listed_of, overdue_list}
use Rattle.office_tables_shelf.specs.Overdue.{seen_on}
use Rattle.office_tables_shelf.proofs.overdue.overdue_among.Given as goal

-- what was found of the rows so far, and no more than were asked for
abbrev pub invariant-loop-id : goal.invariant-loop-id
invariant-loop-id l =
    (map listed_of l.found.items
    ≡ overdue_list l.day (take l.id-index (map (seen_on l.days.entries) l.rows)))
    × (length l.found.items ≤ l.most)
