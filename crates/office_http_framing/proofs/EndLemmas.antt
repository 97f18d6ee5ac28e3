-- Counts that grow from call to call.
use Rattle.std.proofs.Common.{◌≡◌, ◌∙◌, ℕ, ◌≤◌, ap, cond, inl, inr, refl, arith}
use Rattle.std.specs.Prelude.{◌==◌, ◌⊎◌, Result, Ok, Err, true, false}
use Rattle.std.specs.Result.{is_err}
use Rattle.std.proofs.lemmas.Bool.{cases_lt, Decides.nat_tests}
use Rattle.office_http_framing.specs.{declared.ends.Counts.Counts, Ends.count_limit, Ends.raised_count, Ends.Rose, Ends.Grows}
use Rattle.office_http_framing.specs.Ends.{NoneStops, OneFails, OneIsEmpty, StopsAtOnce}

pub Grows-refl : (c : Counts) → Grows c c
Grows-refl c = record { calls = omega arith; failures = omega arith; empties = omega arith }

pub Grows-trans : {a b c : Counts} → Grows a b → Grows b c → Grows a c
Grows-trans x y = record { calls = omega arith; failures = omega arith; empties = omega arith }

-- calls of which none stops, one after the other
pub NoneStops-refl : (c : Counts) → NoneStops c c
NoneStops-refl c = record { failures = refl; empties = refl }

pub NoneStops-trans : {a b c : Counts} → NoneStops a b → NoneStops b c → NoneStops a c
NoneStops-trans x y = record { failures = y.failures ∙ x.failures; empties = y.empties ∙ x.empties }

-- and then one that does
pub then-fails : {a b c : Counts} → NoneStops a b → OneFails b c → OneFails a c
then-fails x y = record { failures = y.failures ∙ ap raised_count x.failures; empties = y.empties ∙ x.empties }

pub then-is-empty : {a b c : Counts} → NoneStops a b → OneIsEmpty b c → OneIsEmpty a c
then-is-empty x y = record { failures = y.failures ∙ x.failures; empties = y.empties ∙ ap raised_count x.empties }

pub then-stops : {a b c : Counts} → NoneStops a b → OneFails b c ⊎ OneIsEmpty b c → OneFails a c ⊎ OneIsEmpty a c
then-stops x y = elim y [ inl fails ↦ inl (then-fails x fails) | inr empty ↦ inr (then-is-empty x empty) ]

-- what the calls of a write did
pub wrote : {T E : Type 0} (r : Result T E) (old new : Counts) → is_err r ≡ false → StopsAtOnce r old new → NoneStops old new
wrote (Ok x) old new whole stops = stops
wrote (Err e) old new whole stops = cc

pub wrote-in-part : {T E : Type 0} (r : Result T E) (old new : Counts) → is_err r ≡ true → StopsAtOnce r old new → OneFails old new ⊎ OneIsEmpty old new
wrote-in-part (Ok x) old new broken stops = cc
wrote-in-part (Err e) old new broken stops = stops

-- a call that rose a count is seen, whatever calls were before it
pub Rose-after : (a b c : ℕ) → a ≤ b → Rose b c → Rose a c
Rose-after a b c grows (inl below) = inl (omega arith)
Rose-after a b c grows (inr full) = inr full

-- a call that answered 0 bytes is seen
pub Rose-empty : (old new n : ℕ) → n ≡ 0 → new ≡ cond (n == 0) (raised_count old) old → Rose old new
Rose-empty old new n zero is = elim (cases_lt old count_limit) [
  | inl below ↦ inl (grind (arith, nat_tests))
  | inr full ↦ inr (grind (arith, nat_tests))
]
