-- What an engineer is warned of in a pattern: coordinated phases (splitCoordPhase) that time at no common second, and
-- a long split (splitTime) that leaves another phase of its ring no second more than it needs.
use Rattle.std.specs.Prelude.{◌==◌, ◌+◌, ◌-◌, ◌*◌, ℕ, nat_lt, Bool, true, false, not, ◌&&◌, if◌then◌else◌, List, [], ◌∷◌, ◌++◌, map, filter, length, Option, Some, None}
use Rattle.signal_records.specs.declared.record.Phase.{Phase}
use Rattle.signal_records.specs.declared.record.Pattern.{Pattern}
use Rattle.signal_records.specs.declared.record.Split.{Split}
use Rattle.signal_records.specs.Need.{need_of}
use Rattle.signal_records.specs.TimingSet.{Rows}
use Rattle.signal_rules.specs.Cases.{Cases, first_true}
use Rattle.signal_rules.specs.Lanes.{time_of}
use Rattle.signal_rules.specs.Lookup.{phase_at, split_at, phases}
use Rattle.signal_rules.specs.PatternRules.{is_coordinated}
use Rattle.signal_rules.specs.SequenceRule.{ring_row}
use Rattle.signal_rules.specs.SplitRule.{is_omitted}
use Rattle.signal_plans.specs.declared.warning.Advice.{Advice}
use Rattle.signal_plans.specs.declared.warning.Advice.TheVariants.{AllCoordinated, CoordinatedApart, LongSplit}

-- the phases of the set that splitCoordPhase marks in a split number, ascending
abbrev pub coordinated_phases : Rows → ℕ → List ℕ
coordinated_phases set n = filter (λ p. is_coordinated (split_at set n p)) (phases set)

-- splitTime of a phase in a pattern, in seconds; 0 for a phase without a split row
abbrev pub seconds_of : Rows → Pattern → ℕ → ℕ
seconds_of set pattern p = time_of (split_at set pattern.split p)

-- the seconds of the phases before a phase in a row; of all phases, if the phase is not in the row
abbrev pub seconds_before : (ℕ → ℕ) → ℕ → List ℕ → ℕ
seconds_before time p [] = 0
seconds_before time p (q ∷ qs) = if q == p then 0 else time q + seconds_before time p qs

-- sequenceData of a sequence for the ring of a phase; empty, if the set does not have the phase
abbrev pub own_row : Rows → ℕ → Option Phase → List ℕ
own_row set seq None = []
own_row set seq (Some phase) = ring_row set seq phase.ring

-- the second of the cycle at which a phase begins: the phases before it in the row of its ring are over
abbrev pub begin_of : Rows → Pattern → ℕ → ℕ
begin_of set pattern p =
    seconds_before (seconds_of set pattern) p (own_row set pattern.seq (phase_at set p))

-- the second of the cycle at which a phase is over
abbrev pub phase_end : Rows → Pattern → ℕ → ℕ
phase_end set pattern p = begin_of set pattern p + seconds_of set pattern p

-- each of two phases begins before the other is over, so that two phases that have time do time together at some second
abbrev pub time_together : Rows → Pattern → ℕ → ℕ → Bool
time_together set pattern p q =
    nat_lt (begin_of set pattern p) (phase_end set pattern q) && nat_lt (begin_of set pattern q) (phase_end set pattern p)

-- coordinated-apart, for a phase and each of some others, in their order: the two time at no common second
abbrev pub apart_from : Rows → Pattern → ℕ → List ℕ → Cases Advice
apart_from set pattern p qs =
    map (λ q. (not (time_together set pattern p q), CoordinatedApart p q)) qs

-- coordinated-apart: two of some phases time at no common second, each with each later one
abbrev pub apart_cases : Rows → Pattern → List ℕ → Cases Advice
apart_cases set pattern [] = []
apart_cases set pattern (p ∷ ps) = apart_from set pattern p ps ++ apart_cases set pattern ps

-- the advice on two phases that are apart, if there is one; in its place all-coordinated, if all of so many phases are
-- coordinated
abbrev pub or_all : Bool → ℕ → Option Advice → Option Advice
or_all true count (Some apart) = Some (AllCoordinated count)
or_all _ count apart = apart

-- what an engineer is warned of in a pattern, if two of its coordinated phases are apart: the first two such phases
-- or, if every phase of the set is coordinated, that this is so
abbrev pub coordination_advice : Rows → Pattern → Option Advice
coordination_advice set pattern =
    or_all (length (coordinated_phases set pattern.split) == length (phases set)) (length (phases set))
    (first_true (apart_cases set pattern (coordinated_phases set pattern.split)))

-- a phase takes more than half of patternCycleTime
abbrev pub takes_half : Rows → Pattern → ℕ → Bool
takes_half set pattern p = nat_lt pattern.cycle (2 * seconds_of set pattern p)

-- a phase that splitMode does not omit has no whole second more than it needs
abbrev pub is_at_need : Option Phase → Option Split → Bool
is_at_need (Some phase) (Some split) =
    not (is_omitted split.mode) && nat_lt (10 * (split.time - 1)) (need_of phase split.mode)
is_at_need _ _ = false

-- two phases of the set are in one ring (phaseRing), so that they share its cycle
abbrev pub share_ring : Option Phase → Option Phase → Bool
share_ring (Some phase) (Some other) = phase.ring == other.ring
share_ring _ _ = false

-- a phase takes more than half of the cycle, and another one in its ring has no second more than it needs
abbrev pub is_crowded : Rows → Pattern → ℕ → ℕ → Bool
is_crowded set pattern p q =
    not (p == q) && takes_half set pattern p && share_ring (phase_at set p) (phase_at set q)
    && is_at_need (phase_at set q) (split_at set pattern.split q)

-- the advice on two such phases
abbrev pub long_split : Rows → Pattern → ℕ → ℕ → Advice
long_split set pattern p q = LongSplit p (seconds_of set pattern p) pattern.cycle q

-- long-split, for a phase and each of some others, in their order
abbrev pub crowded_by : Rows → Pattern → ℕ → List ℕ → Cases Advice
crowded_by set pattern p qs = map (λ q. (is_crowded set pattern p q, long_split set pattern p q)) qs

-- long-split: one of some phases takes more than half of the cycle, and one of the others has no second more than it
-- needs
abbrev pub crowded_cases : Rows → Pattern → (others : List ℕ) → List ℕ → Cases Advice
crowded_cases set pattern others [] = []
crowded_cases set pattern others (p ∷ ps) =
    crowded_by set pattern p others ++ crowded_cases set pattern others ps

-- what an engineer is warned of in a pattern, if a phase takes more than half of the cycle and another one in its
-- ring has no second more than it needs: the first two such phases
abbrev pub crowding_advice : Rows → Pattern → Option Advice
crowding_advice set pattern = first_true (crowded_cases set pattern (phases set) (phases set))
