use Rattle.std.proofs.Common.{◌≡◌, ◌++◌, ◌*◌, ◌≤◌, drop, length}
use Rattle.signal_rules.specs.{SequenceRule.ring_row, Starts.times}
use Rattle.signal_diagram.specs.Chart.{bars_from, with_time}
use Rattle.signal_diagram.proofs.chart.bars_of.Given as goal

-- the phases so far and those that are left
abbrev pub invariant-loop-p : goal.invariant-loop-p
invariant-loop-p l =
    let time = times l.set l.pattern.split in
    record {
      rest : l.bars.items ++ bars_from time l.from (with_time time (drop l.p-index l.p-items))
          ≡ bars_from time 0 (with_time time (ring_row l.set l.pattern.seq l.fn.ring));
      short : length l.p-items ≤ 33;
      small : l.from ≤ 255 * l.p-index;
    }
