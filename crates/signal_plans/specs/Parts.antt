-- What the warnings look up in a set once.
use Rattle.std.specs.Prelude.{◌≡◌, length}
use Rattle.signal_records.specs.TimingSet.{Rows}
use Rattle.signal_rules.specs.Lanes.{used_rings}
use Rattle.signal_rules.specs.Lookup.{phases}
use Rattle.signal_plans.specs.declared.plan.PlanParts.{PlanParts}
use Rattle.signal_plans.specs.PhaseWarnings.{patterns}

-- the parts are the phases and the patterns of a set, each ascending, and how many rings have a phase
pub record AreParts (set : Rows) (parts : PlanParts) : Type 0 where
  pub phases : parts.phases.items ≡ phases set
  pub patterns : parts.patterns.items ≡ patterns set
  pub rings : parts.rings ≡ length (used_rings set)
