-- The chart of a pattern, which a reader takes from its picture: which phase each ring has from which second of the
-- cycle to which, and where all rings change phase.
use Rattle.std.specs.Prelude.{◌≡◌, ℕ, ◌+◌, ◌==◌, ◌&&◌, ◌||◌, not, max, if◌then◌else◌, nat_lt, nat_le, ⊤, Bool, List, [], ◌∷◌, All, map, filter, find, length, Option, option_map, slice_get}
use Rattle.std.specs.List.{list_any, list_all, fold, range_with_len}
use Rattle.signal_records.specs.declared.record.Pattern.{Pattern}
use Rattle.signal_records.specs.TimingSet.{Rows}
use Rattle.signal_rules.specs.SequenceRule.{ring_row}
use Rattle.signal_rules.specs.PatternRules.{lane, lanes_fill_cycle, used_rings}
use Rattle.signal_rules.specs.Lanes.{list_each_other}
use Rattle.signal_rules.specs.Starts.{times}
use Rattle.signal_diagram.specs.declared.chart.Bar.{Bar}
use Rattle.signal_diagram.specs.Lane.{RingLane}

-- ---- the lanes

-- the phases that have time
abbrev pub with_time : (ℕ → ℕ) → List ℕ → List ℕ
with_time time row = filter (λ p. nat_lt 0 (time p)) row

-- some phases, the first from a second on, each from where the one before ends
abbrev pub bars_from : (ℕ → ℕ) → ℕ → List ℕ → List Bar
bars_from time from [] = []
bars_from time from (p ∷ ps) =
    record { phase = p; from = from; to = from + time p } ∷ bars_from time (from + time p) ps

-- the lane of a ring: the phases in its row of the pattern's sequence, without those that have no time in the
-- pattern's splits
abbrev pub lane_of : Rows → Pattern → ℕ → RingLane
lane_of set pattern ring =
    let time = times set pattern.split in
    record { ring = ring; bars = bars_from time 0 (with_time time (ring_row set pattern.seq ring)) }

-- the lanes of the rings that have a phase, in the order of their numbers
abbrev pub lanes_of : Rows → Pattern → List RingLane
lanes_of set pattern = map (lane_of set pattern) (used_rings set)

-- the second at which the last of these phases ends; the given one if there is none
abbrev pub end_of : ℕ → List Bar → ℕ
end_of second bars = fold (λ _ bar. bar.to) second bars

-- each lane ends at the second at which the cycle ends
abbrev pub lanes_end : ℕ → List RingLane → Bool
lanes_end cycle lanes = list_all (λ shown. end_of 0 shown.bars == cycle) lanes

-- the greatest of a number of seconds and the seconds at which lanes end
abbrev pub longest : ℕ → List RingLane → ℕ
longest seconds lanes = fold (λ most shown. max most (end_of 0 shown.bars)) seconds lanes

-- ---- where all rings change phase

-- a ring changes phase: one of its phases ends at second `ends`, and one begins at second `begins`
abbrev pub changes : ℕ → ℕ → RingLane → Bool
changes ends begins shown =
    list_any (λ bar. bar.to == ends) shown.bars && list_any (λ bar. bar.from == begins) shown.bars

-- each ring has a phase that ends at second `ends`, and one that begins at second `begins`; without a ring nothing changes
abbrev pub all_change : ℕ → ℕ → List RingLane → Bool
all_change ends begins lanes = nat_lt 0 (length lanes) && list_all (changes ends begins) lanes

-- a line is at the end of the cycle, and before it where all rings change phase: none at second 0, where no phase
-- ends
abbrev pub has_line : ℕ → List RingLane → ℕ → Bool
has_line cycle lanes second = second == cycle || all_change second second lanes

-- the seconds at which there is a line, ascending
abbrev pub line_seconds : ℕ → List RingLane → List ℕ
line_seconds cycle lanes = filter (has_line cycle lanes) (range_with_len 1 cycle)

-- the second at which the phases after a line begin: 0 after the end of the cycle, where the first ones follow
abbrev pub behind : ℕ → ℕ → ℕ
behind cycle second = if second == cycle then 0 else second

-- a phase may time together with no phase of a lane that begins at a second
abbrev pub conflicts_with_lane : Rows → ℕ → ℕ → RingLane → Bool
conflicts_with_lane set begins p shown = list_all (λ bar. not (bar.from == begins) || not (list_each_other set p bar.phase)) shown.bars

-- a phase may time together with no phase of these lanes that begins at a second
abbrev pub conflicts_with_all : Rows → ℕ → ℕ → List RingLane → Bool
conflicts_with_all set begins p lanes = list_all (conflicts_with_lane set begins p) lanes

-- no phase of a lane that ends at second `ends` may time together with one that begins at second `begins`
abbrev pub lane_conflicts : Rows → ℕ → ℕ → List RingLane → RingLane → Bool
lane_conflicts set ends begins lanes shown = list_all (λ bar. not (bar.to == ends) || conflicts_with_all set begins bar.phase lanes) shown.bars

-- a barrier: all rings change phase, and no phase that ends there may time together with one that begins there (at the end of the cycle: at second 0)
abbrev pub is_barrier : Rows → ℕ → List RingLane → ℕ → Bool
is_barrier set cycle lanes second =
    all_change second (behind cycle second) lanes
    && list_all (lane_conflicts set second (behind cycle second) lanes) lanes

-- ---- what holds of the lanes

-- the first phase begins at this second, and each other one where the one before it ends
abbrev pub Follow : ℕ → List Bar → Type 0
Follow second [] = ⊤
Follow second (bar ∷ bars) = (bar.from ≡ second) × Follow bar.to bars

-- a phase covers a second: it begins there or before, and ends later
abbrev pub covers : ℕ → Bar → Bool
covers second bar = nat_le bar.from second && nat_lt second bar.to

-- the phase of a lane that covers a second, if one does
abbrev pub phase_at_second : List Bar → ℕ → Option ℕ
phase_at_second bars second = option_map (λ bar. bar.phase) (find (covers second) bars)

-- The phases that have time follow each other from second 0 on, in the order of the sequence, each for the seconds of
-- its split; so each second has the phase that rule V13 compares there with the phases of the other rings.
pub record IsLane (set : Rows) (pattern : Pattern) (shown : RingLane) : Type 0 where
  pub order : map (λ bar. bar.phase) shown.bars
      ≡ with_time (times set pattern.split) (ring_row set pattern.seq shown.ring)
  pub follow : Follow 0 shown.bars
  pub lasts : All (λ bar. bar.to ≡ bar.from + times set pattern.split bar.phase) shown.bars
  pub seconds : (second : ℕ) → phase_at_second shown.bars second
      ≡ slice_get (lane set pattern.seq pattern.split shown.ring) second

-- Each ring that has a phase has a lane; the lanes end with the cycle exactly if the pattern keeps rule V12, which
-- asks for that.
pub record IsChart (set : Rows) (pattern : Pattern) (lanes : List RingLane) : Type 0 where
  pub rings : map (λ shown. shown.ring) lanes ≡ used_rings set
  pub each : All (IsLane set pattern) lanes
  pub together : lanes_fill_cycle set pattern ≡ lanes_end pattern.cycle lanes
