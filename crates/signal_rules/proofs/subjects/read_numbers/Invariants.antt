use Rattle.std.proofs.Common.{◌≡◌, drop}
use Rattle.std.specs.List.{list_all}
use Rattle.signal_rules.specs.RowWalk.{is_within}
use Rattle.signal_rules.proofs.subjects.read_numbers.Given as goal

abbrev pub invariant-loop-row : goal.invariant-loop-row
invariant-loop-row l = list_all is_within (drop l.row-index l.rows) ≡ list_all is_within l.rows
