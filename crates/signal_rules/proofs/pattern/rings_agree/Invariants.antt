use Rattle.std.proofs.Common.{◌≡◌, ◌+◌, ◌≤◌, drop}
use Rattle.signal_rules.specs.{Slots.agree_where_begun, Counts.greatest, Counts.RisesAtLeast}
use Rattle.signal_rules.proofs.pattern.rings_agree.Given as goal

abbrev pub invariant-loop-slot : goal.invariant-loop-slot
invariant-loop-slot l = record {
  rest : agree_where_begun l.slots (drop l.slot-index l.slots) ≡ agree_where_begun l.slots l.slots;
  low : l.fn.ticks ≤ l.ticks;
  high : l.ticks ≤ l.fn.ticks + l.slot-index;
  stays : l.fn.ticks ≡ greatest → l.ticks ≡ greatest;
  counted : RisesAtLeast l.slot-index l.fn.ticks l.ticks;
}
