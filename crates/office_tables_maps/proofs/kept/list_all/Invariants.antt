use Rattle.std.proofs.Common.{◌≡◌, ◌++◌}
use Rattle.office_tables_maps.proofs.kept.list_all.Given as goal

-- the records so far, and those that are left
abbrev pub invariant-loop-place : goal.invariant-loop-place
invariant-loop-place g l = l.list.items ++ l.place-iterator ≡ l.rows.entries
