use Rattle.std.proofs.Common.{length}
use Rattle.office_tables.proofs.gather.+gather.Given as goal

abbrev pub decreases-gather : goal.decreases-gather
decreases-gather g l = length l.homes.now
