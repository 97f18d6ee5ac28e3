-- The lanes of a pattern as slots: each phase that has any time is looked up once.
use Rattle.std.specs.Prelude.{◌≡◌, ◌<◌, ◌≤◌, ℕ, ◌+◌, nat_le, nat_lt, min, Bool, true, false, not, ◌&&◌, if◌then◌else◌, List, [], ◌∷◌, ◌++◌, map, filter}
use Rattle.std.specs.List.{AllByRecursion, list_all, flat_map}
use Rattle.signal_values.specs.Numbers.{numbers}
use Rattle.signal_records.specs.declared.record.Pattern.{Pattern}
use Rattle.signal_records.specs.TimingSet.{Rows}
use Rattle.signal_rules.specs.Lookup.{phase_at, the_mates, is_in}
use Rattle.signal_rules.specs.SequenceRule.{ring_row}
use Rattle.signal_rules.specs.CutPoints.{start_of}
use Rattle.signal_rules.specs.Starts.{times}
use Rattle.signal_rules.specs.Cases.{Cases, holds}
use Rattle.signal_rules.specs.declared.reason.Reason.{Reason}
use Rattle.signal_rules.specs.declared.reason.Reason.TheVariants as reason
use Rattle.signal_rules.specs.declared.reason.PatternReason.TheVariants.{Conflict}

-- a phase, with its phaseConcurrency
pub record PhaseMates : Type 0 where
  pub phase : ℕ
  pub mates : List ℕ

-- a slot: the phase has its ring's lane from a second of the cycle until another, the first after it
pub record Span : Type 0 where
  pub from : ℕ
  pub until : ℕ
  pub listing : PhaseMates

-- a phase of the set, with its phaseConcurrency
abbrev pub listing_at : Rows → ℕ → PhaseMates
listing_at set p = record { phase = p; mates = the_mates (phase_at set p) }

-- the span of a phase that starts at a second and lasts a time, in seconds; a phase with no time has none
abbrev pub spans_at : Rows → ℕ → ℕ → ℕ → List Span
spans_at set p time second =
    map (λ from. record { from = from; until = from + time; listing = listing_at set p })
    (start_of time second)

-- the spans of the phases of a row that begins at a second, in its order
abbrev pub spans_from : Rows → ℕ → ℕ → List ℕ → List Span
spans_from set split second [] = []
spans_from set split second (p ∷ ps) =
    spans_at set p (times set split p) second ++ spans_from set split (second + times set split p) ps

-- the spans of some rings' rows, each of which begins at second 0, ring by ring
abbrev pub spans_of : Rows → Pattern → List ℕ → List Span
spans_of set pattern rings =
    flat_map (λ ring. spans_from set pattern.split 0 (ring_row set pattern.seq ring)) rings

-- a span covers a second
abbrev pub has_second : ℕ → Span → Bool
has_second second span = nat_le span.from second && nat_lt second span.until

-- two phases list each other
abbrev pub are_mates : PhaseMates → PhaseMates → Bool
are_mates p q = is_in q.phase p.mates && is_in p.phase q.mates

-- the spans that cover a second
abbrev pub spans_in : ℕ → List Span → List Span
spans_in second spans = filter (has_second second) spans

-- V13 of a span and each of some later ones, which all cover a second: the two phases list each other. Else they time
-- together from that second until one of them is over.
abbrev pub later_cases : ℕ → Span → List Span → Cases Reason
later_cases second span later =
    map (λ other. (
      not (are_mates span.listing other.listing),
      reason.Pattern (Conflict second (min span.until other.until) span.listing.phase other.listing.phase),
    )) later

-- V13 of a span and each later one at a second, if the span covers it and the later one does: the two phases list
-- each other
abbrev pub slot_cases : ℕ → Span → List Span → Cases Reason
slot_cases second span later = if has_second second span then later_cases second span (spans_in second later) else []

-- V13 of any two of some spans, which all cover a second: the two phases list each other
abbrev pub pair_cases : ℕ → List Span → Cases Reason
pair_cases second [] = []
pair_cases second (span ∷ later) = later_cases second span later ++ pair_cases second later

-- at each second at which one of some spans begins, the phases of the spans that cover it list each other
abbrev pub agree_where_begun : List Span → List Span → Bool
agree_where_begun spans begun = list_all (λ span. holds (pair_cases span.from (spans_in span.from spans))) begun

-- the second is the first before `end` at which one of some spans begins and two phases whose spans cover it do not
-- list each other; or it is `end`, and there is no such second
pub record IsFirstConflict (spans begun : List Span) (end second : ℕ) : Type 0 where
  pub within : second ≤ end
  pub broken : second < end → holds (pair_cases second (spans_in second spans)) ≡ false
  pub before : AllByRecursion (λ span. span.from < second → holds (pair_cases span.from (spans_in span.from spans)) ≡ true) begun

-- V13 of spans, at each second of the cycle in turn: any two phases whose spans cover it list each other
abbrev pub conflicts_in : ℕ → List Span → Cases Reason
conflicts_in cycle spans = flat_map (λ second. pair_cases second (spans_in second spans)) (numbers cycle 0)
