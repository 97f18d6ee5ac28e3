use Rattle.std.proofs.Common.{◌≡◌, ◌+◌, ◌*◌, ◌≤◌, length, drop}
use Rattle.signal_rules.specs.{CutPoints.row_seconds, Lanes.lane, Starts.times}
use Rattle.signal_rules.proofs.lanes.lane_seconds.Given as goal

-- the seconds of the phases so far
abbrev pub invariant-loop-p : goal.invariant-loop-p
invariant-loop-p l = record {
  rest : l.seconds + length (row_seconds (times l.set l.pattern.split) (drop l.p-index l.p-items))
      ≡ length (lane l.set l.pattern.seq l.pattern.split l.fn.ring);
  short : length l.p-items ≤ 33;
  small : l.seconds ≤ 255 * l.p-index;
}
