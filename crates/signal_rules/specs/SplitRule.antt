-- V8, the rule of a split row.
use Rattle.std.specs.Prelude.{◌==◌, ◌+◌, ◌*◌, ℕ, nat_lt, Bool, true, false, if◌then◌else◌, not, ◌&&◌, [], ◌∷◌, Option, Some, None}
use Rattle.signal_records.specs.declared.record.Ped.{Ped}
use Rattle.signal_records.specs.declared.record.Phase.{Phase}
use Rattle.signal_records.specs.declared.record.Split.{Split}
use Rattle.signal_records.specs.declared.record.SplitMode.{SplitMode}
use Rattle.signal_records.specs.declared.record.SplitMode.TheVariants.{PedestrianRecall, PhaseOmitted}
use Rattle.signal_records.specs.Need.{called, need_of}
use Rattle.signal_rules.specs.Cases.{Cases}
use Rattle.signal_rules.specs.declared.reason.Reason.{Reason}
use Rattle.signal_rules.specs.declared.reason.Reason.TheVariants as reason
use Rattle.signal_rules.specs.declared.reason.SplitReason.TheVariants as split
use Rattle.signal_rules.specs.declared.need.SplitNeed.{SplitNeed}
use Rattle.signal_rules.specs.declared.need.NeedPart.{NeedPart}
use Rattle.signal_rules.specs.declared.need.NeedPart.TheVariants as need_part

-- splitMode is phaseOmitted
abbrev pub is_omitted : SplitMode → Bool
is_omitted PhaseOmitted = true
is_omitted _ = false

-- the longer of two parts that begin together: lead and minimum green, or walk and clearance; the first, if they are
-- equal
abbrev pub longer_part : Ped → ℕ → NeedPart
longer_part ped min_green =
    if nat_lt (ped.lead + min_green) (ped.walk + ped.clear) then need_part.Walk else need_part.Green

-- the part that decides how long a phase must be, from the pedestrian part whose walk is called, if one is, and the
-- minimum green in seconds; without a called walk it is the green
abbrev pub part_called : Option Ped → ℕ → NeedPart
part_called None min_green = need_part.Green
part_called (Some ped) min_green = longer_part ped min_green

-- the part that decides how long a phase must be in a split mode
abbrev pub governing_part : Phase → SplitMode → NeedPart
governing_part phase mode = part_called (called phase.ped mode) phase.min_green

-- what a phase needs in a split mode, in tenths of a second, with the part that governs it
abbrev pub split_need : Phase → SplitMode → SplitNeed
split_need phase mode = record { tenths = need_of phase mode; governs = governing_part phase mode }

-- what a phase needs if its walk is called, by the split mode or by a button
abbrev pub need_if_called : Phase → SplitNeed
need_if_called phase = split_need phase PedestrianRecall

-- V8: the phase of the row is in the set; if it is omitted, it has no splitTime and no splitCoordPhase, and else it
-- has the time that it needs in its mode; the need is in tenths of a second
abbrev pub split_cases : ℕ → Option Phase → Split → Cases Reason
split_cases p None row = (true, reason.Split (split.NotInPlan p)) ∷ []
split_cases p (Some phase) row =
    (is_omitted row.mode && not (row.time == 0), reason.Split (split.TimeOmitted row.time row.coord))
    ∷ (is_omitted row.mode && row.coord, reason.Split split.CoordinatedOmitted)
    ∷ (not (is_omitted row.mode) && row.time == 0, reason.Split split.NoTime)
    ∷ (not (row.time == 0) && nat_lt (10 * row.time) (split_need phase row.mode).tenths, reason.Split (split.Short row.time (split_need phase row.mode)))
    ∷ []
