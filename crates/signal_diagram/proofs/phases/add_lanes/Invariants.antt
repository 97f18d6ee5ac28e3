use Rattle.std.proofs.Common.{◌≡◌, ◌++◌, drop}
use Rattle.signal_diagram.specs.Shapes.{lanes_shapes}
use Rattle.signal_diagram.proofs.phases.add_lanes.Given as goal

-- the lanes so far and those that are left
abbrev pub invariant-loop-lane : goal.invariant-loop-lane
invariant-loop-lane l = record {
  rest : l.shapes.items ++ lanes_shapes l.set l.pattern l.index (drop l.lane-index l.lanes)
      ≡ l.fn.shapes.items ++ lanes_shapes l.set l.pattern 0 l.lanes;
  place : l.index ≡ l.lane-index;
}
