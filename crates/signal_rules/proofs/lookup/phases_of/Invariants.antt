use Rattle.std.proofs.Common.{◌≡◌, ◌++◌, filter, is_some}
use Rattle.signal_rules.specs.Lookup.{phase_at, phases}
use Rattle.signal_rules.proofs.lookup.phases_of.Given as goal

abbrev pub invariant-loop-p : goal.invariant-loop-p
invariant-loop-p l = l.found.items ++ filter (λ p. is_some (phase_at l.set p)) l.p-iterator ≡ phases l.set
