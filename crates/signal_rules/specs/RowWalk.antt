-- What one walk over the rows of a set finds. The rows are in the order of their keys.
use Rattle.std.specs.Prelude.{◌==◌, ℕ, Bool, ◌&&◌, nat_le, if◌then◌else◌, List, [], ◌∷◌, map, Option, Some, None}
use Rattle.std.specs.List.{cons_option}
use Rattle.std.specs.Option.{unwrap_or}
use Rattle.signal_records.specs.declared.key.Key.{Key}
use Rattle.signal_values.specs.declared.number.TheConstants.{PHASES, RINGS}
use Rattle.signal_records.specs.declared.record.Row.{Row}
use Rattle.signal_records.specs.declared.record.Row.TheVariants as row
use Rattle.signal_records.specs.Key.{kind_of}
use Rattle.signal_records.specs.Row.{key_of}
use Rattle.signal_rules.specs.declared.violation.Subject.{Subject}
use Rattle.signal_rules.specs.declared.violation.Subject.TheVariants as subject
use Rattle.signal_rules.specs.Lookup.{last_sequence, last_split, last_pattern}

-- each of some rows with its key, in their order
abbrev pub with_keys : List Row → List (Key × Row)
with_keys rows = map (λ r. (key_of r, r)) rows

-- the subject that a row is, or is a part of
abbrev pub subject_of : Row → Subject
subject_of (row.Phase p phase) = subject.Phase p
subject_of (row.Seq n ring r) = subject.Seq n
subject_of (row.Split n p split) = subject.Split n p
subject_of (row.Pattern n pattern) = subject.Pattern n

-- the subject of a row as a list of one, if the row is of this kind; else none
abbrev pub of_kind : ℕ → Row → List Subject
of_kind kind r = if kind_of (key_of r) == kind then subject_of r ∷ [] else []

-- the sequence number of a sequence row; another row has none
abbrev pub sequence_of : Row → Option ℕ
sequence_of (row.Seq n ring r) = Some n
sequence_of _ = None

-- the number, if there is one and it differs from the last one
abbrev pub other_than : ℕ → Option ℕ → Option ℕ
other_than last None = None
other_than last (Some n) = if n == last then None else Some n

-- the sequences of rows in the order of their keys, each once, without the last one before these rows
abbrev pub sequences_after : ℕ → List Row → List ℕ
sequences_after last [] = []
sequences_after last (r ∷ rows) =
    cons_option (other_than last (sequence_of r)) (sequences_after (unwrap_or (other_than last (sequence_of r)) last) rows)

-- a number is from low to high
abbrev pub is_from_to : ℕ → ℕ → ℕ → Bool
is_from_to low high n = nat_le low n && nat_le n high

-- the numbers in the key of a row are in the ranges that a controller can have
abbrev pub is_within : Row → Bool
is_within (row.Phase p phase) = is_from_to 1 PHASES p
is_within (row.Seq n ring r) = is_from_to 1 last_sequence n && is_from_to 1 RINGS ring
is_within (row.Split n p split) = is_from_to 1 last_split n && is_from_to 1 PHASES p
is_within (row.Pattern n pattern) = is_from_to 1 last_pattern n
