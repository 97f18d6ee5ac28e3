-- How far counts rise (none passes `u64::MAX`), and at how many seconds of a cycle judging the rules compares phases
-- at most. A second counts once for each phase that starts there.
use Rattle.std.specs.Prelude.{◌≡◌, ℕ, ◌+◌, ◌-◌, ◌^◌, ◌<◌, ◌≤◌, List, [], ◌∷◌, length, Option, Some, None}
use Rattle.signal_records.specs.declared.record.Pattern.{Pattern}
use Rattle.signal_records.specs.TimingSet.{Rows}
use Rattle.signal_rules.specs.declared.violation.Subject.{Subject}
use Rattle.signal_rules.specs.declared.violation.Subject.TheVariants as subject
use Rattle.signal_rules.specs.Lookup.{pattern_at, ring_numbers}
use Rattle.signal_rules.specs.SequenceRule.{ring_row}

-- the greatest value of a count: `u64::MAX`
abbrev pub greatest : ℕ
greatest = 2 ^ 64 - 1

-- a count that rises by at most this much, and stays at `u64::MAX` once there
abbrev pub RisesAtMost : ℕ → ℕ → ℕ → Type 0
RisesAtMost most before after = (before ≤ after) × (after ≤ before + most) × (before ≡ greatest → after ≡ greatest)

-- a count that rises by at least this much, unless it comes to `u64::MAX`
abbrev pub RisesAtLeast : ℕ → ℕ → ℕ → Type 0
RisesAtLeast least before after = after < greatest → before + least ≤ after

-- the total length of a sequence's rows for some rings
abbrev pub entries_of : Rows → ℕ → List ℕ → ℕ
entries_of set seq [] = 0
entries_of set seq (ring ∷ rings) = length (ring_row set seq ring) + entries_of set seq rings

-- the total length of a sequence's rows
abbrev pub sequence_entries : Rows → ℕ → ℕ
sequence_entries set seq = entries_of set seq ring_numbers

-- at how many seconds phases are compared at most for a pattern, if there is one: the total length of its sequence's
-- rows
abbrev pattern_seconds : Rows → Option Pattern → ℕ
pattern_seconds set None = 0
pattern_seconds set (Some pattern) = sequence_entries set pattern.seq

-- at how many seconds phases are compared at most for a subject: for a pattern, the total length of its sequence's
-- rows, and for any other subject none
abbrev pub most_seconds : Rows → Subject → ℕ
most_seconds set (subject.Pattern n) = pattern_seconds set (pattern_at set n)
most_seconds set _ = 0

-- at how many seconds phases are compared at most for some subjects, together
abbrev pub most_seconds_of : Rows → List Subject → ℕ
most_seconds_of set [] = 0
most_seconds_of set (s ∷ ss) = most_seconds set s + most_seconds_of set ss
