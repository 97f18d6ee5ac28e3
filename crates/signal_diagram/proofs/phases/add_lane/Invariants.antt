use Rattle.std.proofs.Common.{◌≡◌, ◌++◌, drop, flat_map}
use Rattle.signal_diagram.specs.Shapes.{phase_shapes, lane_shapes}
use Rattle.signal_diagram.proofs.phases.add_lane.Given as goal

-- the phases so far and those that are left
abbrev pub invariant-loop-bar : goal.invariant-loop-bar
invariant-loop-bar l =
    l.shapes.items ++ flat_map (phase_shapes l.set l.pattern l.index) (drop l.bar-index l.bar-items)
    ≡ l.fn.shapes.items ++ lane_shapes l.set l.pattern l.index l.lane
