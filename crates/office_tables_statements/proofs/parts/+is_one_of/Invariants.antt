use Rattle.std.proofs.Common.{length}
use Rattle.office_tables_statements.proofs.parts.+is_one_of.Given as goal

abbrev pub decreases-is_one_of : goal.decreases-is_one_of
decreases-is_one_of l = length l.wanted.now
