use Rattle.std.proofs.Common.{length}
use Rattle.office_tables_statements.proofs.parts.+is_named.Given as goal

abbrev pub decreases-is_named : goal.decreases-is_named
decreases-is_named l = length l.wanted.now
