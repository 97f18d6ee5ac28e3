use Rattle.std.proofs.Common.{◌≡◌, ◌++◌}
use Rattle.office_tables_maps.proofs.kept.copied_rows.Given as goal

-- the copies so far, and the entries that are left
abbrev pub invariant-loop-place : goal.invariant-loop-place
invariant-loop-place g l = l.copy.entries ++ l.place-iterator ≡ l.rows.entries
