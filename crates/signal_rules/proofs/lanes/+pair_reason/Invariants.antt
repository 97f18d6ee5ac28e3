use Rattle.std.proofs.Common.{length}
use Rattle.signal_rules.proofs.lanes.+pair_reason.Given as goal

abbrev pub decreases-pair_reason : goal.decreases-pair_reason
decreases-pair_reason l = length l.slots.now
