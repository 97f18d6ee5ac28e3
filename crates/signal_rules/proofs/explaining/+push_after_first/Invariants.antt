use Rattle.std.proofs.Common.{length}
use Rattle.signal_rules.proofs.explaining.+push_after_first.Given as goal

abbrev pub decreases-push_after_first : goal.decreases-push_after_first
decreases-push_after_first l = length l.rings.now
