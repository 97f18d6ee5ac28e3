-- What the picture of a pattern shows.
use Rattle.std.specs.Prelude.{◌≡◌, ℕ, List, [], Some}
use Rattle.signal_records.specs.declared.record.Pattern.{Pattern}
use Rattle.signal_records.specs.TimingSet.{Rows}
use Rattle.signal_rules.specs.Lookup.{pattern_at}
use Rattle.signal_plans.specs.declared.warning.Warning.{Warning}
use Rattle.signal_plans.specs.Warnings.{warnings_of_pattern}
use Rattle.signal_diagram.specs.declared.picture.Sizing.{Sizing}
use Rattle.signal_diagram.specs.declared.picture.Sizing.TheVariants.{Sheet, Figure}
use Rattle.signal_diagram.specs.declared.picture.Picture.{Picture}
use Rattle.signal_diagram.specs.Lane.{RingLane}
use Rattle.signal_diagram.specs.Chart.{IsChart}
use Rattle.signal_diagram.specs.Shapes.{shapes_of}

-- the warnings below a picture: on a sheet those of its pattern; in a page none, since the page has them below its
-- rows
abbrev pub told_below : Sizing → Rows → ℕ → List Warning
told_below Sheet set n = warnings_of_pattern set n
told_below Figure set n = []

-- the set has a pattern with this number, and the picture shows its chart and, below it, exactly the warnings that
-- belong there, in their order
pub record DrawsChart (sizing : Sizing) (set : Rows) (n : ℕ) (shown : Picture) : Type 0 where
  pub pattern : Pattern
  pub found : pattern_at set n ≡ Some pattern
  pub lanes : List RingLane
  pub is_chart : IsChart set pattern lanes
  pub shapes : shown.shapes.items ≡ shapes_of set pattern lanes
  pub warnings : shown.warnings.items ≡ told_below sizing set n
