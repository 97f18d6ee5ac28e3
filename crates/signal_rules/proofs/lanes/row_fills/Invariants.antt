use Rattle.std.proofs.Common.{◌≡◌, ◌+◌, ◌≤◌, ◌++◌, length, drop}
use Rattle.signal_rules.specs.{CutPoints.row_seconds, Starts.times, Slots.spans_from}
use Rattle.signal_rules.proofs.lanes.row_fills.Given as goal

abbrev pub invariant-loop-p : goal.invariant-loop-p
invariant-loop-p l = record {
  within : l.second ≤ l.pattern.cycle;
  rest : l.second + length (row_seconds (times l.set l.pattern.split) (drop l.p-index l.row)) ≡ length (row_seconds (times l.set l.pattern.split) l.row);
  slots : l.slots.items ++ spans_from l.set l.pattern.split l.second (drop l.p-index l.row) ≡ l.fn.slots.items ++ spans_from l.set l.pattern.split 0 l.row;
}
