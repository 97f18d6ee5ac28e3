-- The lanes of a pattern, which V12 and V13 are about. A lane is a ring's row of phases with an entry for each second.
use Rattle.std.specs.Prelude.{ℕ, Bool, true, ◌&&◌, List, [], ◌∷◌, filter, map, length, slice_index, replicate, Option, Some, None}
use Rattle.std.specs.List.{list_any, list_all, flat_map}
use Rattle.signal_records.specs.declared.record.Split.{Split}
use Rattle.signal_records.specs.declared.record.Pattern.{Pattern}
use Rattle.signal_records.specs.TimingSet.{Rows}
use Rattle.signal_rules.specs.Lookup.{phase_at, split_at, phase_numbers, ring_numbers, lists}
use Rattle.signal_rules.specs.SequenceRule.{in_ring, ring_row}

-- splitTime of a split row, in seconds; 0 for a phase without one
abbrev pub time_of : Option Split → ℕ
time_of None = 0
time_of (Some split) = split.time

-- the lane of a ring: each phase of sequenceData, in order, once for each second of its splitTime
abbrev pub lane : Rows → ℕ → ℕ → ℕ → List ℕ
lane set seq split ring = flat_map (λ p. replicate (time_of (split_at set split p)) p) (ring_row set seq ring)

-- a phase of the set is in the ring (phaseRing)
abbrev pub is_used : Rows → ℕ → Bool
is_used set ring = list_any (λ p. in_ring ring (phase_at set p)) phase_numbers

-- the rings that have a phase, ascending
abbrev pub used_rings : Rows → List ℕ
used_rings set = filter (is_used set) ring_numbers

-- the lanes of the rings that have a phase, by ascending ring
abbrev pub lanes : Rows → Pattern → List (List ℕ)
lanes set pattern = map (lane set pattern.seq pattern.split) (used_rings set)

-- how many seconds the lane of a ring in a pattern has
abbrev pub ring_sum : Rows → Pattern → ℕ → ℕ
ring_sum set pattern ring = length (lane set pattern.seq pattern.split ring)

-- two phases list each other (phaseConcurrency), so that they may time together
abbrev pub list_each_other : Rows → ℕ → ℕ → Bool
list_each_other set p q = lists set p q && lists set q p

-- any two of some phases list each other
abbrev pub all_list_each_other : Rows → List ℕ → Bool
all_list_each_other set [] = true
all_list_each_other set (p ∷ ps) = list_all (list_each_other set p) ps && all_list_each_other set ps

-- the phases that the lanes have at a second; seconds count from 0, and a lane that is over has 0
abbrev pub phases_at : List (List ℕ) → ℕ → List ℕ
phases_at lanes second = map (λ lane. slice_index lane second) lanes
