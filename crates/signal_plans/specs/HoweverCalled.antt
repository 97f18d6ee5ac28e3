-- What a timing set without violations and warnings means on the street beyond the laws of one without violations: a
-- walk has its time, whatever calls it, the split mode or a button.
use Rattle.std.specs.Prelude.{◌≡◌, ◌≢◌, ℕ, ◌+◌, ◌*◌, ◌<◌, ◌≤◌, Some, IfSome, IsTrue}
use Rattle.signal_records.specs.declared.record.Pattern.{Pattern}
use Rattle.signal_records.specs.declared.record.Ped.{Ped}
use Rattle.signal_records.specs.declared.record.Phase.{Phase}
use Rattle.signal_records.specs.declared.record.Split.{Split}
use Rattle.signal_records.specs.declared.record.SplitMode.{SplitMode}
use Rattle.signal_records.specs.declared.record.SplitMode.TheVariants.{PhaseOmitted}
use Rattle.signal_records.specs.Need.{lead_time}
use Rattle.signal_records.specs.TimingSet.{Rows}
use Rattle.signal_rules.specs.Lookup.{split_at}
use Rattle.signal_plans.specs.Intervals.{HasRoom}
use Rattle.signal_plans.specs.StreetLaws.{InEachPattern, OfEachPhase, HasTimeForWalks}

-- splitMode serves the phase, so that its walk may be called: by the mode, or by a button
abbrev pub ServesPhase : SplitMode → Type 0
ServesPhase mode = mode ≢ PhaseOmitted

-- each split of a pattern that is not omitted has room for the crossing of its phase
abbrev pub CrossingHasRoom : Rows → Pattern → ℕ → Phase → Ped → Type 0
CrossingHasRoom set pattern p phase ped =
    (split : Split) → split_at set pattern.split p ≡ Some split → ServesPhase split.mode
    → HasRoom phase split ped

-- green ends so early that all of yellow and red follow it within the split, and so late that at
-- least one second of it is over, after the lead of a walk that may be called; its end is in tenths of
-- a second from where the phase begins
pub record HasGreen (phase : Phase) (split : Split) : Type 0 where
  pub green_end : ℕ
  pub cleared : green_end + phase.yellow + phase.red ≡ 10 * split.time
  pub green : 10 * (lead_time phase.ped + 1) ≤ green_end

-- a phase that splitCoordPhase marks in a pattern has green
abbrev pub CoordinatedHasGreen : Rows → Pattern → ℕ → Phase → Type 0
CoordinatedHasGreen set pattern p phase =
    (split : Split) → split_at set pattern.split p ≡ Some split → IsTrue split.coord
    → HasGreen phase split

-- each crossing is measured, and has room in each split that is not omitted, so that walks have their
-- time and walkers the street, whatever calls the walk; each coordinated phase has green
pub record LawsHoweverCalled (set : Rows) : Type 0 where
  pub measured : OfEachPhase set (λ p phase. IfSome phase.ped (λ ped. 0 < ped.width))
  pub room : InEachPattern set (λ pattern. OfEachPhase set (λ p phase. IfSome phase.ped (CrossingHasRoom set pattern p phase)))
  pub walks : InEachPattern set (HasTimeForWalks ServesPhase set)
  pub green : InEachPattern set (λ pattern. OfEachPhase set (CoordinatedHasGreen set pattern))
