use Rattle.std.proofs.Common.{◌≡◌, drop}
use Rattle.std.specs.List.{list_all}
use Rattle.signal_plans.specs.PlanWarnings.{may_time_with_all, has_no_conflict}
use Rattle.signal_plans.proofs.plan.has_no_conflict.Given as goal

abbrev pub invariant-loop-p : goal.invariant-loop-p
invariant-loop-p l = list_all (may_time_with_all l.set l.phases) (drop l.p-index l.phases) ≡ has_no_conflict l.set
