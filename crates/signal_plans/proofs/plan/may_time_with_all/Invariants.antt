use Rattle.std.proofs.Common.{◌≡◌, drop}
use Rattle.std.specs.List.{list_all}
use Rattle.signal_rules.specs.Lookup.{phase_at}
use Rattle.signal_plans.specs.PlanWarnings.{may_time, may_time_with_all}
use Rattle.signal_plans.proofs.plan.may_time_with_all.Given as goal

abbrev pub invariant-loop-q : goal.invariant-loop-q
invariant-loop-q l = list_all (λ q. may_time (phase_at l.set l.p) q (phase_at l.set q)) (drop l.q-index l.others) ≡ may_time_with_all l.set l.others l.p
