use Rattle.std.proofs.Common.{length}
use Rattle.office_tables.proofs.gather.+read_named.Given as goal

abbrev pub decreases-read_named : goal.decreases-read_named
decreases-read_named g l = length l.tables.now
