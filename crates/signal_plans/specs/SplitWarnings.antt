-- What an engineer is warned of in a split row, by the objects of NTCIP 1202 v03, each as a case with whether it
-- holds.
use Rattle.std.specs.Prelude.{◌+◌, ◌*◌, ℕ, nat_lt, Bool, true, false, not, ◌&&◌, [], ◌∷◌, Option, Some, None, is_some, is_none}
use Rattle.signal_records.specs.declared.record.Phase.{Phase}
use Rattle.signal_records.specs.declared.record.Split.{Split}
use Rattle.signal_records.specs.declared.record.SplitMode.{SplitMode}
use Rattle.signal_records.specs.declared.record.SplitMode.TheVariants.{PedestrianRecall, MaximumVehicleAndPedestrianRecall}
use Rattle.signal_records.specs.Need.{called, lead_time}
use Rattle.signal_rules.specs.Cases.{Cases}
use Rattle.signal_rules.specs.SplitRule.{is_omitted, need_if_called}
use Rattle.signal_plans.specs.declared.warning.Advice.{Advice}
use Rattle.signal_plans.specs.declared.warning.Advice.TheVariants.{WalkIfCalled, RecallWithoutWalk, NoGreen}

-- splitMode calls the walk in each cycle: both pedestrian recalls do
abbrev pub recalls_walk : SplitMode → Bool
recalls_walk PedestrianRecall = true
recalls_walk MaximumVehicleAndPedestrianRecall = true
recalls_walk _ = false

-- walk-if-called: the phase is served in mode 2, 3 or 4, a button may call its walk, and lead and minimum green, or walk and clearance, do not fit into splitTime with yellow and red
abbrev pub button_case : Phase → Split → Bool × Advice
button_case phase split = (
  is_some phase.ped && not (recalls_walk split.mode) && not (is_omitted split.mode) && nat_lt (10 * split.time) (need_if_called phase).tenths,
  WalkIfCalled split.time (need_if_called phase),
)

-- recall-without-walk: splitMode calls the walk of a phase that has no pedestrian part
abbrev pub recall_case : Phase → Split → Bool × Advice
recall_case phase split = (is_none phase.ped && recalls_walk split.mode, RecallWithoutWalk)

-- what a phase shows besides its green: the lead of a walk that its mode calls, yellow and red, in tenths of a second
abbrev pub besides_green : Phase → SplitMode → ℕ
besides_green phase mode = 10 * lead_time (called phase.ped mode) + (phase.yellow + phase.red)

-- no-green: splitCoordPhase marks the phase, and splitTime leaves it not one second of green
abbrev pub green_case : Phase → Split → Bool × Advice
green_case phase split = (
  split.coord && nat_lt (10 * split.time) (besides_green phase split.mode + 10),
  NoGreen split.time (besides_green phase split.mode),
)

-- what an engineer is warned of in the split row of a phase; nothing if the set does not have the phase, which breaks
-- a rule
abbrev pub split_warnings : Option Phase → Split → Cases Advice
split_warnings None split = []
split_warnings (Some phase) split =
    button_case phase split ∷ recall_case phase split ∷ green_case phase split ∷ []
