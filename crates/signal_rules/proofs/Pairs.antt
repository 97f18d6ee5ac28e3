-- The first of some spans, before the later ones.
use Rattle.std.proofs.Common.{◌≡◌, ℕ, ◌-◌, ◌≤◌, Bool, true, false, if◌then◌else◌, take, drop, length, get_or, List, [], ◌∷◌, ◌++◌, Some, None, refl, sym, ap, ◌∙◌, arith}
use Rattle.std.proofs.lemmas.List.{take_all}
use Rattle.signal_rules.specs.declared.reason.Reason.{Reason}
use Rattle.signal_rules.specs.Cases.{first_true}
use Rattle.signal_rules.specs.Slots.{Span, has_second, spans_in, later_cases, slot_cases, pair_cases}
use Rattle.signal_rules.proofs.Cases.{first_here, first_past}

pub parts : (second : ℕ) (span : Span) (later : List Span) → pair_cases second (spans_in second (span ∷ later)) ≡ slot_cases second span later ++ pair_cases second (spans_in second later)
parts second span later = by_test (has_second second span) where
  by_test : (b : Bool) → pair_cases second (if b then span ∷ spans_in second later else spans_in second later) ≡ (if b then later_cases second span (spans_in second later) else []) ++ pair_cases second (spans_in second later)
  by_test true = refl
  by_test false = refl

pub pair_here : (second : ℕ) (span : Span) (later : List Span) (why : Reason) → first_true (slot_cases second span later) ≡ Some why → first_true (pair_cases second (spans_in second (span ∷ later))) ≡ Some why
pair_here second span later why e = ap first_true (parts second span later) ∙ first_here (slot_cases second span later) (pair_cases second (spans_in second later)) why e

pub pair_past : (second : ℕ) (span : Span) (later : List Span) → first_true (slot_cases second span later) ≡ None → first_true (pair_cases second (spans_in second (span ∷ later))) ≡ first_true (pair_cases second (spans_in second later))
pair_past second span later e = ap first_true (parts second span later) ∙ first_past (slot_cases second span later) (pair_cases second (spans_in second later)) e

-- a list by its first item and those after it
pub parted : {A : Type 0} (items : List A) (item : A) → 1 ≤ length items → item ≡ get_or items 0 item → items ≡ item ∷ take (length items - 1) (drop 1 items)
parted [] item le is = absurd (omega arith)
parted {A = A} (x ∷ later) item le is = ap (λ (y : A). y ∷ later) (sym is) ∙ ap (λ l. item ∷ l) (sym (take_all (length (x ∷ later) - 1) later (omega arith)))
