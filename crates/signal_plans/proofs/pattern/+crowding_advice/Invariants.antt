use Rattle.std.proofs.Common.{length}
use Rattle.signal_plans.proofs.pattern.+crowding_advice.Given as goal

abbrev pub decreases-crowding_advice : goal.decreases-crowding_advice
decreases-crowding_advice l = length l.phases.now
