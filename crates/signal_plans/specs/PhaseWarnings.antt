-- What an engineer is warned of in a phase, by the objects of NTCIP 1202 v03, each as a case with whether it holds.
use Rattle.std.specs.Prelude.{◌==◌, ℕ, nat_lt, Bool, false, not, ◌&&◌, List, [], ◌∷◌, length, Option, Some, None}
use Rattle.std.specs.List.{list_any, flat_map}
use Rattle.signal_records.specs.declared.record.Ped.{Ped}
use Rattle.signal_records.specs.declared.record.Phase.{Phase}
use Rattle.signal_records.specs.declared.record.Pattern.{Pattern}
use Rattle.signal_records.specs.declared.record.Split.{Split}
use Rattle.signal_records.specs.TimingSet.{Rows}
use Rattle.signal_rules.specs.Cases.{Cases}
use Rattle.signal_rules.specs.Lanes.{used_rings}
use Rattle.signal_rules.specs.Lookup.{split_at, pattern_at, pattern_numbers}
use Rattle.signal_rules.specs.SplitRule.{is_omitted}
use Rattle.signal_plans.specs.declared.warning.Advice.{Advice}
use Rattle.signal_plans.specs.declared.warning.Advice.TheVariants.{MaximumBelowMinimum, NoMinimumGreen, NoConcurrentPhase, NeverServed, ShortPassage, ShortRed, NoClearance, NotMeasured, NarrowCrossing, WideCrossing}

-- maximum-below-minimum: phaseMaximum1 is less than phaseMinimumGreen, so that green is over before it may end
abbrev pub maximum_case : Phase → Bool × Advice
maximum_case phase =
    (nat_lt phase.max1 phase.min_green, MaximumBelowMinimum phase.max1 phase.min_green)

-- no-minimum-green: phaseMinimumGreen is 0, so that a phase may be served without a green
abbrev pub minimum_case : Phase → Bool × Advice
minimum_case phase = (phase.min_green == 0, NoMinimumGreen)

-- phaseConcurrency is empty, in a plan of so many rings, more than one
abbrev pub is_alone : ℕ → Phase → Bool
is_alone rings phase = length phase.mates == 0 && nat_lt 1 rings

-- no-concurrent-phase: the plan has more than one ring, and the phase lists none that may time with it
abbrev pub concurrency_case : Rows → Phase → Bool × Advice
concurrency_case set phase =
    (is_alone (length (used_rings set)) phase, NoConcurrentPhase (length (used_rings set)))

-- a pattern as a list of one, and no pattern as a list of none
abbrev pub listed_pattern : Option Pattern → List Pattern
listed_pattern None = []
listed_pattern (Some pattern) = pattern ∷ []

-- the patterns of the set (patternTable), ascending
abbrev pub patterns : Rows → List Pattern
patterns set = flat_map (λ n. listed_pattern (pattern_at set n)) pattern_numbers

-- a split row serves its phase in each cycle, unless splitMode omits it; a phase without a row is not served
abbrev pub is_serving : Option Split → Bool
is_serving None = false
is_serving (Some split) = not (is_omitted split.mode)

-- some pattern serves the phase by its patternSplitNumber
abbrev pub is_served : Rows → ℕ → Bool
is_served set p = list_any (λ pattern. is_serving (split_at set pattern.split p)) (patterns set)

-- the plan has patterns, and none of them serves the phase
abbrev pub is_never_served : Rows → ℕ → Bool
is_never_served set p = not (length (patterns set) == 0) && not (is_served set p)

-- never-served: the plan has patterns, and none serves the phase, so that it times only in free operation
abbrev pub service_case : Rows → ℕ → Bool × Advice
service_case set p = (is_never_served set p, NeverServed)

-- short-passage: phasePassage is less than half a second, as if seconds were entered for tenths of a second
abbrev pub passage_case : Phase → Bool × Advice
passage_case phase = (nat_lt phase.passage 5, ShortPassage phase.passage)

-- short-red: phaseRedClear is less than half a second, as if seconds were entered for tenths of a second
abbrev pub red_case : Phase → Bool × Advice
red_case phase = (nat_lt phase.red 5, ShortRed phase.red)

-- what an engineer is warned of in a phase itself, besides its crossing
abbrev pub phase_cases : Rows → ℕ → Phase → Cases Advice
phase_cases set p phase =
    maximum_case phase ∷ minimum_case phase ∷ concurrency_case set phase ∷ service_case set p
    ∷ passage_case phase ∷ red_case phase ∷ []

-- no-clearance: phasePedestrianClear is 0, so that only yellow and red clear the crossing
abbrev pub clearance_case : Ped → Bool × Advice
clearance_case ped = (ped.clear == 0, NoClearance ped.width)

-- not-measured: the crossing's width is 0, so that no rule can say whether its clearance is enough
abbrev pub width_case : Ped → Bool × Advice
width_case ped = (ped.width == 0, NotMeasured)

-- narrow-crossing: the crossing's width is measured and less than 20 feet, as if feet were entered for tenths of a
-- foot
abbrev pub narrow_case : Ped → Bool × Advice
narrow_case ped = (not (ped.width == 0) && nat_lt ped.width 200, NarrowCrossing ped.width)

-- wide-crossing: the crossing's width is more than 200 feet, as if inches were entered for tenths of a foot
abbrev pub wide_case : Ped → Bool × Advice
wide_case ped = (nat_lt 2_000 ped.width, WideCrossing ped.width)

-- what an engineer is warned of in the crossing of a phase; a phase without a pedestrian part has none
abbrev pub crossing_warnings : Option Ped → Cases Advice
crossing_warnings None = []
crossing_warnings (Some ped) =
    clearance_case ped ∷ width_case ped ∷ narrow_case ped ∷ wide_case ped ∷ []
