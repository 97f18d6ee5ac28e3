use Rattle.std.proofs.Common.{sym, ap, ◌∙◌}
use Rattle.signal_diagram.specs.{Chart.lanes_of, Shapes.shapes_of}
use Rattle.signal_diagram.proofs.Charts.{is_chart}
use Rattle.signal_diagram.proofs.picture.picture_of.Goals as goal

pub returns-clause-chart : goal.returns-clause-chart
returns-clause-chart c =
    let set = c.args.set.now in
    record {
      pattern = c.in-Some.pattern;
      found = sym c.pattern_at.ensures ∙ c.in-Some.is;
      lanes = lanes_of set c.in-Some.pattern;
      is_chart = is_chart set c.in-Some.pattern;
      shapes = c.in_ok-shapes.ensures
          ∙ ap (shapes_of set c.in-Some.pattern) (c.deref-2.ensures.value ∙ c.in_ok-lanes.ensures.lanes);
      warnings = c.in_ok-warnings.ensures;
    }
