use Rattle.std.proofs.Common.{◌≡◌, take}
use Rattle.signal_records.proofs.phase_list.phases_of.Given as goal

abbrev pub invariant-loop-n : goal.invariant-loop-n
invariant-loop-n l = l.phases.items ≡ take l.n-index l.numbers
