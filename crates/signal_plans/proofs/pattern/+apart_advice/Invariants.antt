use Rattle.std.proofs.Common.{length}
use Rattle.signal_plans.proofs.pattern.+apart_advice.Given as goal

abbrev pub decreases-apart_advice : goal.decreases-apart_advice
decreases-apart_advice l = length l.phases.now
