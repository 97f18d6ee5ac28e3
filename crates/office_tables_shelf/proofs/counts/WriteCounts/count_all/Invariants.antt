use Rattle.std.proofs.Common.{◌≡◌, drop}
use Rattle.office_tables_shelf.specs.Counts.{counts_after}
use Rattle.office_tables_shelf.proofs.counts.WriteCounts.count_all.Given as goal

abbrev pub invariant-loop-change : goal.invariant-loop-change
invariant-loop-change l = counts_after l.self (drop l.change-index l.changes) ≡ counts_after l.fn.self l.changes
