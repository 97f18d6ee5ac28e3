-- What a phase shows while it times, and who crosses then. Moments are in tenths of a second from
-- where the phase begins; its walk begins there too.
use Rattle.std.specs.Prelude.{◌≡◌, ℕ, ◌+◌, ◌-◌, ◌*◌, ◌<◌, ◌≤◌, ◌⊎◌, IfSome}
use Rattle.signal_records.specs.declared.record.Ped.{Ped}
use Rattle.signal_records.specs.declared.record.Phase.{Phase}
use Rattle.signal_records.specs.declared.record.Split.{Split}
use Rattle.signal_records.specs.declared.record.SplitMode.{SplitMode}
use Rattle.signal_records.specs.declared.record.SplitMode.TheVariants.{PedestrianRecall, MaximumVehicleAndPedestrianRecall}

-- splitMode calls for the walk in each cycle: both pedestrian recalls do
abbrev pub CallsPedestrian : SplitMode → Type 0
CallsPedestrian mode = (mode ≡ PedestrianRecall) ⊎ (mode ≡ MaximumVehicleAndPedestrianRecall)

-- lead and minimum green, and walk and clearance too, are over when green ends
pub record FitsCrossing (phase : Phase) (ped : Ped) (green_end : ℕ) : Type 0 where
  pub lead_and_green : 10 * (ped.lead + phase.min_green) ≤ green_end
  pub walk_and_clearance : 10 * (ped.walk + ped.clear) ≤ green_end

-- green ends so early that all of yellow and red follow it within the split, and so late that a walk
-- with its clearance is over, and its lead with the minimum green, whatever calls the walk
pub record HasRoom (phase : Phase) (split : Split) (ped : Ped) : Type 0 where
  pub green_end : ℕ
  pub cleared : green_end + phase.yellow + phase.red ≡ 10 * split.time
  pub crossing : FitsCrossing phase ped green_end

-- green ends so early that all of yellow and red follow it within the split, and so late that the
-- minimum green is over, and, where splitMode calls the walk, lead and minimum green, and walk and
-- clearance
pub record FitsSplit (phase : Phase) (split : Split) : Type 0 where
  pub green_end : ℕ
  pub cleared : green_end + phase.yellow + phase.red ≡ 10 * split.time
  pub green : 10 * phase.min_green ≤ green_end
  pub crossing : CallsPedestrian split.mode → IfSome phase.ped (λ ped. FitsCrossing phase ped green_end)

-- when walk, clearance, yellow and red, one after the other, are over
abbrev pub clear_end : Phase → Ped → ℕ
clear_end phase ped = 10 * ped.walk + 10 * ped.clear + phase.yellow + phase.red

-- a pedestrian who left the curb at one moment, at 3.5 feet a second (7 tenths of a foot in 2 tenths of a second), is
-- not yet across at another one
abbrev pub IsCrossing : Ped → ℕ → ℕ → Type 0
IsCrossing ped left now = (left ≤ now) × (7 * (now - left) < 2 * ped.width)

-- A pedestrian who leaves the curb by the last moment of the walk is across before clearance, yellow and red, one
-- after the other, are over, if they are all shown. Only for a walk that the split mode calls (`CallsPedestrian`) do
-- the laws say that the split has room for them.
abbrev pub CrossesInTime : Phase → Ped → Type 0
CrossesInTime phase ped =
    (left now : ℕ) → left ≤ 10 * ped.walk → IsCrossing ped left now → now < clear_end phase ped

-- a pedestrian who set out from the setback when the walk began, at 3 feet a second, is not yet across
abbrev pub IsOnTheWay : Ped → ℕ → Type 0
IsOnTheWay ped now = 3 * now < ped.setback + ped.width

-- a pedestrian who set out from the setback when the walk began, at 3 feet a second, is across before walk,
-- clearance, yellow and red are over, one after the other
abbrev pub CrossesFromSetback : Phase → Ped → Type 0
CrossesFromSetback phase ped = (now : ℕ) → IsOnTheWay ped now → now < clear_end phase ped

-- a pedestrian, from the curb or from the setback, is across before walk, clearance, yellow and red are over, one
-- after the other
abbrev pub WalkersCross : Phase → Ped → Type 0
WalkersCross phase ped = CrossesInTime phase ped × CrossesFromSetback phase ped
