use Rattle.std.proofs.Common.{◌≡◌, ◌++◌, drop, map}
use Rattle.signal_diagram.specs.Chart.{lane_of, lanes_of}
use Rattle.signal_diagram.proofs.chart.lanes_of.Given as goal

-- the lanes so far and those that are left
abbrev pub invariant-loop-ring : goal.invariant-loop-ring
invariant-loop-ring l =
    l.lanes.items ++ map (lane_of l.set l.pattern) (drop l.ring-index l.ring-items)
    ≡ lanes_of l.set l.pattern
