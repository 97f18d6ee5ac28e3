use Rattle.office_tables_shelf.specs.Overdue.{last_day_in}
use Rattle.office_tables_maps.proofs.{WalkLemmas.DaysWith}
use Rattle.office_tables_maps.proofs.maps.Maps.last_days.Given as goal

-- the latest days so far, and the inspections that are left
abbrev pub invariant-loop-place : goal.invariant-loop-place
invariant-loop-place l = DaysWith (last_day_in l.days.entries) l.place-iterator l.initial.place-iterator
