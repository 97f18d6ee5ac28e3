-- What is drawn of a pattern, in tenths of a second from the beginning of the cycle. A lane is
-- numbered from the top, from 0.
use Rattle.std.specs.Prelude.{ℕ, ◌+◌, ◌-◌, ◌*◌, ◌/◌, min, max, nat_lt, Bool, true, false, if◌then◌else◌, List, [], ◌∷◌, ◌++◌, flat_map, map, length, Option, Some, None}
use Rattle.signal_records.specs.declared.record.Ped.{Ped}
use Rattle.signal_records.specs.declared.record.Pattern.{Pattern}
use Rattle.signal_records.specs.declared.record.Phase.{Phase}
use Rattle.signal_records.specs.declared.record.Split.{Split}
use Rattle.signal_records.specs.declared.record.SplitMode.{SplitMode}
use Rattle.signal_records.specs.declared.record.SplitMode.TheVariants as mode
use Rattle.signal_records.specs.TimingSet.{Rows}
use Rattle.std.specs.List.{range_with_len}
use Rattle.signal_rules.specs.Lookup.{phase_at, split_at}
use Rattle.signal_rules.specs.PatternRules.{is_coordinated}
use Rattle.signal_diagram.specs.declared.chart.Bar.{Bar}
use Rattle.signal_diagram.specs.declared.shapes.Band.{Band}
use Rattle.signal_diagram.specs.declared.shapes.Band.TheVariants.{Green, Lead, Yellow, Red, Walk, Clearance}
use Rattle.signal_diagram.specs.declared.shapes.Shape.{Shape}
use Rattle.signal_diagram.specs.declared.shapes.Shape.TheVariants as shape
use Rattle.signal_diagram.specs.Lane.{RingLane}
use Rattle.signal_diagram.specs.Chart.{is_barrier, line_seconds, longest}

-- ---- a phase

-- a split mode calls the walk of its phase: both pedestrian recalls do
abbrev pub calls : SplitMode → Bool
calls mode.PedestrianRecall = true
calls mode.MaximumVehicleAndPedestrianRecall = true
calls _ = false

-- the split of a phase calls its walk, by its mode; without a split row, nothing calls it
abbrev pub calls_walk : Option Split → Bool
calls_walk None = false
calls_walk (Some split) = calls split.mode

-- the tenth so many seconds after a phase begins, or a limit, whichever comes first
abbrev pub tenth_after : Bar → ℕ → ℕ → ℕ
tenth_after bar limit seconds = min (10 * (bar.from + seconds)) limit

-- the tenth so many tenths before a phase ends, or the one at which it begins, whichever comes last
abbrev pub tenth_before : Bar → ℕ → ℕ
tenth_before bar tenths = max (10 * bar.from) (10 * bar.to - tenths)

-- the tenth at which the green of a phase begins: after a lead that comes without a button, else
-- where the phase begins
abbrev pub green_from : Bar → ℕ → Bool → Option Ped → ℕ
green_from bar limit comes (Some ped) = if comes then tenth_after bar limit ped.lead else 10 * bar.from
green_from bar limit comes None = 10 * bar.from

-- an interval of a phase in a lane, from one tenth to another; none if it is empty
abbrev pub interval : ℕ → Band → Bool → ℕ → ℕ → List Shape
interval lane band comes from to =
    if nat_lt from to then shape.Interval lane band comes from to ∷ [] else []

-- the mark of a walk whose clearance is not over at a limit; none if it is over
abbrev pub cut : ℕ → Bar → ℕ → Ped → List Shape
cut lane bar limit ped =
    if nat_lt limit (10 * (bar.from + ped.walk + ped.clear)) then shape.Cut lane limit ∷ [] else []

-- the lead, the walk and the clearance after it of a phase that has them, none past a limit, and the mark of a walk
-- that is cut there
abbrev pub walk_intervals : ℕ → Bool → Bar → ℕ → Option Ped → List Shape
walk_intervals lane comes bar limit None = []
walk_intervals lane comes bar limit (Some ped) =
    interval lane Lead comes (10 * bar.from) (tenth_after bar limit ped.lead)
    ++ interval lane Walk comes (10 * bar.from) (tenth_after bar limit ped.walk)
    ++ interval lane Clearance comes (tenth_after bar limit ped.walk) (tenth_after bar limit (ped.walk + ped.clear))
    ++ cut lane bar limit ped

-- the intervals of a phase: its green, lead, walk and clearance, none past its yellow, then yellow,
-- and red, which lasts to its end; a phase that is not in the set has none
abbrev pub intervals : ℕ → Bool → Bar → Option Phase → List Shape
intervals lane comes bar None = []
intervals lane comes bar (Some phase) =
    let limit = tenth_before bar (phase.yellow + phase.red) in
    let red_from = tenth_before bar phase.red in
    interval lane Green true (green_from bar limit comes phase.ped) limit
    ++ walk_intervals lane comes bar limit phase.ped
    ++ interval lane Yellow true limit red_from
    ++ interval lane Red true red_from (10 * bar.to)

-- the intervals, the edge and the words of a phase, by its split row
abbrev pub phase_shapes : Rows → Pattern → ℕ → Bar → List Shape
phase_shapes set pattern lane bar =
    let split = split_at set pattern.split bar.phase in
    intervals lane (calls_walk split) bar (phase_at set bar.phase)
    ++ shape.Edge lane (10 * bar.from) (10 * bar.to) (is_coordinated split)
    ∷ shape.Label lane (10 * bar.from) bar.phase (bar.to - bar.from) (is_coordinated split)
    ∷ []

-- ---- the lanes, the lines over them and the scale below them

-- the shapes of a lane: the name of its ring, and its phases
abbrev pub lane_shapes : Rows → Pattern → ℕ → RingLane → List Shape
lane_shapes set pattern index lane =
    shape.Ring index lane.ring ∷ flat_map (phase_shapes set pattern index) lane.bars

-- the shapes of some lanes, the first of which has this number, from the top
abbrev pub lanes_shapes : Rows → Pattern → ℕ → List RingLane → List Shape
lanes_shapes set pattern index [] = []
lanes_shapes set pattern index (lane ∷ lanes) =
    lane_shapes set pattern index lane ++ lanes_shapes set pattern (index + 1) lanes

-- the lines over all lanes, each with whether it is a barrier
abbrev pub line_shapes : Rows → ℕ → List RingLane → List Shape
line_shapes set cycle lanes =
    map (λ second. shape.Line (length lanes) (10 * second) (is_barrier set cycle lanes second)) (line_seconds cycle lanes)

-- the ticks of a scale over so many seconds, one each 10 seconds
abbrev pub tick_shapes : ℕ → ℕ → List Shape
tick_shapes seconds lanes =
    map (λ tens. shape.Tick lanes (100 * tens)) (range_with_len 0 (seconds / 10 + 1))

-- the shapes of a pattern with these lanes: the lanes, the lines over them, and the scale below
-- them
abbrev pub shapes_of : Rows → Pattern → List RingLane → List Shape
shapes_of set pattern lanes =
    let seconds = longest pattern.cycle lanes in
    lanes_shapes set pattern 0 lanes ++ line_shapes set pattern.cycle lanes
    ++ shape.Scale (length lanes) (10 * seconds) ∷ tick_shapes seconds (length lanes)
