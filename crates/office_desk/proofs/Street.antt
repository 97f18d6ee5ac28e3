-- Committed sets of a sound office break no rule, and so keep the laws of the street.
use Rattle.std.proofs.Common.{◌≡◌, [], Option, Some, None, IfSome}
use Rattle.std.specs.FinMap.{get}
use Rattle.office_desk.proofs.EmptySet.{no_violations}
use Rattle.office_desk.specs.Running.{KeepsTheStreet}
use Rattle.office_machine.specs.Office.{Intersection, IsSoundIntersection, side_at, side_of}
use Rattle.signal_rules.specs.Violations.{violations_of}
use Rattle.signal_plans.proofs.Laws.{street_laws}

breaks_none : (there : Option Intersection) → IfSome there IsSoundIntersection → violations_of (side_of there).committed ≡ []
breaks_none None sound = no_violations
breaks_none (Some intersection) sound = sound.no_violations

pub keeps_the_street : KeepsTheStreet
keeps_the_street office sound id =
    street_laws (side_at office id).committed (breaks_none (get office.intersections id) (sound.intersections id))
