use Rattle.std.proofs.Common.{length}
use Rattle.office_tables_statements.proofs.parts.+are.Given as goal

abbrev pub decreases-are : goal.decreases-are
decreases-are g l = length l.wanted.now
