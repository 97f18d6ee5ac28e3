-- What a timing set has, by the objects of NTCIP 1202 v03.
use Rattle.std.specs.Prelude.{◌==◌, ℕ, Bool, List, [], filter, Option, Some, None, is_some}
use Rattle.std.specs.FinMap.{get}
use Rattle.std.specs.List.{list_any}
use Rattle.signal_records.specs.declared.key.Key.TheVariants as key
use Rattle.signal_records.specs.declared.record.Phase.{Phase}
use Rattle.signal_records.specs.declared.record.Split.{Split}
use Rattle.signal_records.specs.declared.record.Pattern.{Pattern}
use Rattle.signal_records.specs.declared.record.Row.{Row}
use Rattle.signal_records.specs.declared.record.Row.TheVariants as row
use Rattle.signal_values.specs.Numbers.{numbers}
use Rattle.signal_values.specs.declared.number.TheConstants.{PHASES, RINGS}
use Rattle.signal_records.specs.TimingSet.{Rows}

-- the record of a phase, if this is a phase row
abbrev pub the_phase : Option Row → Option Phase
the_phase (Some (row.Phase p phase)) = Some phase
the_phase _ = None

-- the phases of a sequence row, if this is one
abbrev pub the_list : Option Row → Option (List ℕ)
the_list (Some (row.Seq n ring r)) = Some r.list
the_list _ = None

-- the record of a split, if this is a split row
abbrev pub the_split : Option Row → Option Split
the_split (Some (row.Split n p split)) = Some split
the_split _ = None

-- the record of a pattern, if this is a pattern row
abbrev pub the_pattern : Option Row → Option Pattern
the_pattern (Some (row.Pattern n pattern)) = Some pattern
the_pattern _ = None

-- the objects of a phase (phaseTable), if the set has it
abbrev pub phase_at : Rows → ℕ → Option Phase
phase_at set p = the_phase (get set (key.Phase p))

-- sequenceData of a sequence and ring, if they have a row
abbrev pub sequence_at : Rows → ℕ → ℕ → Option (List ℕ)
sequence_at set n ring = the_list (get set (key.Seq n ring))

-- splitTime, splitMode and splitCoordPhase of a split number and phase, if they have a row
abbrev pub split_at : Rows → ℕ → ℕ → Option Split
split_at set n p = the_split (get set (key.Split n p))

-- the objects of a pattern (patternTable), if the set has it
abbrev pub pattern_at : Rows → ℕ → Option Pattern
pattern_at set n = the_pattern (get set (key.Pattern n))

-- the greatest sequence number that an intersection can have, as in `SeqNo`
abbrev pub last_sequence : ℕ
last_sequence = 20

-- the greatest split number that an intersection can have, as in `SplitNo`
abbrev pub last_split : ℕ
last_split = 20

-- the greatest pattern number that an intersection can have, as in `PatternNo`
abbrev pub last_pattern : ℕ
last_pattern = 48

-- the phases that a controller can have, ascending
abbrev pub phase_numbers : List ℕ
phase_numbers = numbers PHASES 1

-- the rings that a controller can have, ascending
abbrev pub ring_numbers : List ℕ
ring_numbers = numbers RINGS 1

-- the sequences that a controller can have, ascending
abbrev pub sequence_numbers : List ℕ
sequence_numbers = numbers last_sequence 1

-- the split numbers that a controller can have, ascending
abbrev pub split_numbers : List ℕ
split_numbers = numbers last_split 1

-- the patterns that a controller can have, ascending
abbrev pub pattern_numbers : List ℕ
pattern_numbers = numbers last_pattern 1

-- a number is among some numbers
abbrev pub is_in : ℕ → List ℕ → Bool
is_in n ns = list_any (λ m. m == n) ns

-- the phases of the set, ascending
abbrev pub phases : Rows → List ℕ
phases set = filter (λ p. is_some (phase_at set p)) phase_numbers

-- the set has a sequence if one of its rings has a row
abbrev pub has_sequence : Rows → ℕ → Bool
has_sequence set n = list_any (λ ring. is_some (sequence_at set n ring)) ring_numbers

-- phaseConcurrency of a phase; a phase that is not in the set has none
abbrev pub the_mates : Option Phase → List ℕ
the_mates (Some phase) = phase.mates
the_mates None = []

-- p lists q: phaseConcurrency of p has q
abbrev pub lists : Rows → ℕ → ℕ → Bool
lists set p q = is_in q (the_mates (phase_at set p))
