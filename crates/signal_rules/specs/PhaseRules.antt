-- V1 to V6 and V14, the rules of a phase. The kinds of interval limits are after MUTCD 2009, sections 4D.26 and 4E.06; the numbers are this project's.
use Rattle.std.specs.Prelude.{◌==◌, ℕ, ◌+◌, ◌*◌, ◌/◌, nat_le, nat_lt, Bool, true, not, ◌&&◌, if◌then◌else◌, [], ◌∷◌, Option, Some, None}
use Rattle.std.specs.List.{flat_map}
use Rattle.signal_records.specs.declared.record.Ped.{Ped}
use Rattle.signal_records.specs.declared.record.Phase.{Phase}
use Rattle.signal_records.specs.TimingSet.{Rows}
use Rattle.signal_rules.specs.Cases.{Cases}
use Rattle.signal_rules.specs.Lookup.{phase_at, is_in}
use Rattle.signal_rules.specs.declared.reason.Reason.{Reason}
use Rattle.signal_rules.specs.declared.reason.Reason.TheVariants as reason
use Rattle.signal_rules.specs.declared.reason.IntervalReason.TheVariants as interval
use Rattle.signal_rules.specs.declared.reason.CrossingReason.TheVariants as crossing
use Rattle.signal_rules.specs.declared.reason.MateReason.TheVariants as mate

-- V1 (4D.26, yellow change interval): phaseYellowChange is 3.0 to 6.0 seconds
abbrev pub yellow_is_right : Phase → Bool
yellow_is_right phase = nat_le 30 phase.yellow && nat_le phase.yellow 60

-- the reason that breaks V1: a yellow out of its limits
abbrev pub yellow_cases : Phase → Cases Reason
yellow_cases phase = (not (yellow_is_right phase), reason.Interval (interval.Yellow phase.yellow)) ∷ []

-- V2 (4D.26, red clearance interval): phaseRedClear is at most 6.0 seconds
abbrev pub red_is_right : Phase → Bool
red_is_right phase = nat_le phase.red 60

-- the reason that breaks V2: a red over its limit
abbrev pub red_cases : Phase → Cases Reason
red_cases phase = (not (red_is_right phase), reason.Interval (interval.Red phase.red)) ∷ []

-- the reasons that break a rule of pedestrian parts (V3 to V5, V14): a phase without such a part has none
abbrev pub of_ped : Option Ped → (Ped → Cases Reason) → Cases Reason
of_ped None cases = []
of_ped (Some ped) cases = cases ped

-- the shortest walk that a crossing may have, in seconds
abbrev pub least_walk : Ped → ℕ
least_walk ped = if ped.short then 4 else 7

-- V3 (4E.06, walk interval): phaseWalk is at least 7 seconds, or at least 4 where the short walk is allowed
abbrev pub walk_is_long : Ped → Bool
walk_is_long ped = nat_le (least_walk ped) ped.walk

-- the reason that breaks V3: a walk that is too short
abbrev pub walk_cases : Ped → Cases Reason
walk_cases ped = (not (walk_is_long ped), reason.Crossing (crossing.ShortWalk ped.walk (least_walk ped))) ∷ []

-- phasePedestrianClear, phaseYellowChange and phaseRedClear together, in tenths of a second
abbrev pub clearance : Phase → Ped → ℕ
clearance phase ped = 10 * ped.clear + (phase.yellow + phase.red)

-- V4 (4E.06, pedestrian clearance time): clearance, yellow and red are enough to cross the width at 3.5 feet a second
abbrev pub clears_crossing : Phase → Ped → Bool
clears_crossing phase ped = nat_le (2 * ped.width) (7 * clearance phase ped)

-- the reason that breaks V4: how long crossing takes, rounded up to a tenth of a second, and how long there is
abbrev pub crossing_cases : Phase → Ped → Cases Reason
crossing_cases phase ped =
    (not (clears_crossing phase ped), reason.Crossing (crossing.SlowClearance ped.width ((2 * ped.width + 6) / 7) (clearance phase ped))) ∷ []

-- V5 (4E.06, walk and clearance together): walk, clearance, yellow and red are enough to cross the setback and the
-- width at 3 feet a second
abbrev pub clears_setback : Phase → Ped → Bool
clears_setback phase ped = nat_le (ped.width + ped.setback) (3 * (10 * ped.walk + clearance phase ped))

-- the reason that breaks V5: how long crossing from the setback takes, rounded up to a tenth of a second, and how
-- long there is
abbrev pub setback_cases : Phase → Ped → Cases Reason
setback_cases phase ped =
    (not (clears_setback phase ped), reason.Crossing (crossing.SlowSetback (ped.width + ped.setback) ((ped.width + ped.setback + 2) / 3) (10 * ped.walk + clearance phase ped))) ∷ []

-- V14 (4E.06, leading pedestrian interval): there is none, or it is at least 3 seconds and at most phaseWalk
abbrev pub lead_cases : Ped → Cases Reason
lead_cases ped =
    (not (ped.lead == 0) && nat_lt ped.lead 3, reason.Crossing (crossing.ShortLead ped.lead))
    ∷ (nat_lt ped.walk ped.lead, reason.Crossing (crossing.LongLead ped.lead ped.walk))
    ∷ []

-- V6 of one mate m of a phase p: m is in the set, is in another ring (phaseRing), and lists p
abbrev pub mate_cases : ℕ → Phase → ℕ → Option Phase → Cases Reason
mate_cases p phase m None = (true, reason.Mate (mate.NotInPlan m)) ∷ []
mate_cases p phase m (Some other) =
    (other.ring == phase.ring, reason.Mate (mate.SameRing m phase.ring))
    ∷ (not (is_in p other.mates), reason.Mate (mate.NotListed m))
    ∷ []

-- V6: each phase of phaseConcurrency is in the set, is in another ring, and lists p; in the order of phaseConcurrency
abbrev pub mates_cases : Rows → ℕ → Phase → Cases Reason
mates_cases set p phase = flat_map (λ m. mate_cases p phase m (phase_at set m)) phase.mates
