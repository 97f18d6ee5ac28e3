-- V9 to V13, the rules of a pattern.
use Rattle.std.specs.Prelude.{◌==◌, ℕ, nat_lt, Bool, false, not, if◌then◌else◌, List, [], ◌∷◌, map, Option, Some, None, is_some}
use Rattle.std.specs.List.{list_any, list_all}
use Rattle.signal_records.specs.declared.record.Split.{Split}
use Rattle.signal_records.specs.declared.record.Pattern.{Pattern}
use Rattle.signal_records.specs.TimingSet.{Rows}
use Rattle.signal_values.specs.Numbers.{numbers}
use Rattle.signal_rules.specs.Cases.{Cases, holds}
use Rattle.signal_rules.specs.Lookup.{split_at, phases, has_sequence}
use Rattle.signal_rules.specs.declared.reason.Reason.{Reason}
use Rattle.signal_rules.specs.declared.reason.Reason.TheVariants as reason
use Rattle.signal_rules.specs.declared.reason.PatternReason.TheVariants.{NoSequence, NoSplit, LateOffset, NoneCoordinated, OtherSum}
pub use Rattle.signal_rules.specs.Lanes.{time_of, lane, is_used, used_rings}
use Rattle.signal_rules.specs.Lanes.{ring_sum, lanes, phases_at, all_list_each_other}
use Rattle.signal_rules.specs.Slots.{spans_of, conflicts_in}

-- the split number has a row for each phase of the set
abbrev pub has_splits : Rows → ℕ → Bool
has_splits set n = list_all (λ p. is_some (split_at set n p)) (phases set)

-- V9 of a split number and some phases, in their order: the split number has a row for each
abbrev pub splits_cases : Rows → ℕ → List ℕ → Cases Reason
splits_cases set n ps = map (λ p. (not (is_some (split_at set n p)), reason.Pattern (NoSplit n p))) ps

-- V9: patternSequenceNumber has a row, and patternSplitNumber has a row for each phase of the set
abbrev pub rows_cases : Rows → Pattern → Cases Reason
rows_cases set pattern =
    (not (has_sequence set pattern.seq), reason.Pattern (NoSequence pattern.seq)) ∷ splits_cases set pattern.split (phases set)

-- V9 holds: the pattern has its sequence and its splits
abbrev pub has_rows : Rows → Pattern → Bool
has_rows set pattern = holds (rows_cases set pattern)

-- V10: patternOffsetTime is less than patternCycleTime
abbrev pub offset_is_right : Pattern → Bool
offset_is_right pattern = nat_lt pattern.offset pattern.cycle

-- the reason that breaks V10: the offset is a cycle or more
abbrev pub offset_cases : Pattern → Cases Reason
offset_cases pattern = (
  not (offset_is_right pattern),
  reason.Pattern (LateOffset pattern.offset pattern.cycle),
) ∷ []

-- splitCoordPhase of a split row; without a row a phase is not coordinated
abbrev pub is_coordinated : Option Split → Bool
is_coordinated None = false
is_coordinated (Some split) = split.coord

-- V11 of a split number: its splitCoordPhase marks some phase of the set
abbrev pub has_coordinated : Rows → ℕ → Bool
has_coordinated set n = list_any (λ p. is_coordinated (split_at set n p)) (phases set)

-- V11: splitCoordPhase marks a phase of the set in patternSplitNumber
abbrev pub coordination_cases : Rows → Pattern → Cases Reason
coordination_cases set pattern = (not (has_coordinated set pattern.split), reason.Pattern (NoneCoordinated pattern.split)) ∷ []

-- the lane of each of some rings is as long as patternCycleTime
abbrev pub rings_cases : Rows → Pattern → List ℕ → Cases Reason
rings_cases set pattern rings =
    map (λ ring. (not (ring_sum set pattern ring == pattern.cycle), reason.Pattern (OtherSum ring (ring_sum set pattern ring) pattern.cycle))) rings

-- V12: the lane of each ring that has a phase is as long as patternCycleTime
abbrev pub sum_cases : Rows → Pattern → Cases Reason
sum_cases set pattern = rings_cases set pattern (used_rings set)

-- V12 holds: the lane of each ring that has a phase is as long as patternCycleTime
abbrev pub lanes_fill_cycle : Rows → Pattern → Bool
lanes_fill_cycle set pattern = holds (sum_cases set pattern)

-- at each second of a cycle, the phases of any two lanes list each other
abbrev pub agree_throughout : Rows → List (List ℕ) → ℕ → Bool
agree_throughout set lanes cycle = list_all (λ second. all_list_each_other set (phases_at lanes second)) (numbers cycle 0)

-- V13: at each second of patternCycleTime, the phases of any two lanes list each other
abbrev pub lanes_agree : Rows → Pattern → Bool
lanes_agree set pattern = agree_throughout set (lanes set pattern) pattern.cycle

-- V13: no reason if at each second the phases of any two lanes list each other; else, second by second, any two
-- phases that time together, with whether they fail to list each other
abbrev pub conflict_cases : Rows → Pattern → Cases Reason
conflict_cases set pattern =
    if lanes_agree set pattern then [] else conflicts_in pattern.cycle (spans_of set pattern (used_rings set))
