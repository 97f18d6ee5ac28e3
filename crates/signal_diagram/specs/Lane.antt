-- A lane of a picture.
use Rattle.std.specs.Prelude.{ℕ, List}
use Rattle.signal_diagram.specs.declared.chart.Bar.{Bar}

-- a ring, with its phases that have time, in the order in which they time
pub record RingLane : Type 0 where
  pub ring : ℕ
  pub bars : List Bar
