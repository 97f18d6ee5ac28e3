-- V7, the rule of a sequence.
use Rattle.std.specs.Prelude.{◌==◌, ℕ, nat_lt, Bool, true, false, not, List, [], ◌∷◌, ◌++◌, count_by, Option, Some, None}
use Rattle.std.specs.List.{flat_map}
use Rattle.signal_records.specs.declared.record.Phase.{Phase}
use Rattle.signal_records.specs.TimingSet.{Rows}
use Rattle.signal_rules.specs.Cases.{Cases}
use Rattle.signal_rules.specs.Lookup.{phase_at, phases, sequence_at, ring_numbers}
use Rattle.signal_rules.specs.declared.reason.Reason.{Reason}
use Rattle.signal_rules.specs.declared.reason.Reason.TheVariants as reason
use Rattle.signal_rules.specs.declared.reason.SequenceReason.TheVariants as sequence

-- phaseRing of a phase is this ring; a phase that is not in the set is in no ring
abbrev pub in_ring : ℕ → Option Phase → Bool
in_ring ring None = false
in_ring ring (Some phase) = phase.ring == ring

-- the phases of a sequence row; none if there is no row
abbrev pub or_empty : Option (List ℕ) → List ℕ
or_empty None = []
or_empty (Some ns) = ns

-- sequenceData of a sequence and ring; empty, where they have no row
abbrev pub ring_row : Rows → ℕ → ℕ → List ℕ
ring_row set n ring = or_empty (sequence_at set n ring)

-- V7 of a phase in the row of a ring: it is in the set, and in that ring (phaseRing)
abbrev pub place_cases : ℕ → ℕ → Option Phase → Cases Reason
place_cases ring p None = (true, reason.Sequence (sequence.NotInPlan p)) ∷ []
place_cases ring p (Some phase) = (not (phase.ring == ring), reason.Sequence (sequence.OtherRing p ring phase.ring)) ∷ []

-- V7 of a ring's row, phase by phase in its order: each is in the set, and in that ring
abbrev pub row_cases : Rows → ℕ → ℕ → Cases Reason
row_cases set n ring = flat_map (λ p. place_cases ring p (phase_at set p)) (ring_row set n ring)

-- how often a number occurs in a row
abbrev pub times_in : List ℕ → ℕ → ℕ
times_in row p = count_by (λ m. m == p) row

-- V7 of a phase of the set: it is exactly once in the row of its ring
abbrev pub once_cases : Rows → ℕ → ℕ → Option Phase → Cases Reason
once_cases set n p None = []
once_cases set n p (Some phase) =
    (times_in (ring_row set n phase.ring) p == 0, reason.Sequence (sequence.Missing p phase.ring))
    ∷ (nat_lt 1 (times_in (ring_row set n phase.ring) p), reason.Sequence (sequence.Repeated p))
    ∷ []

-- V7: each row has only phases of its ring, and each phase of the set is exactly once in the row of its ring
abbrev pub sequence_cases : Rows → ℕ → Cases Reason
sequence_cases set n =
    flat_map (row_cases set n) ring_numbers ++ flat_map (λ p. once_cases set n p (phase_at set p)) (phases set)
