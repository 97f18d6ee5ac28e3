-- What tests of whole lists tell of their members.
use Rattle.std.proofs.Common.{◌≡◌, ℕ, zero, suc, ◌+◌, ◌<◌, ◌≤◌, Bool, true, ◌&&◌, eqb, leb, ltb, List, [], ◌∷◌, filter, Contains, inl, inr, sym, ap, ◌∙◌, arith}
use Rattle.std.proofs.lemmas.Bool.{and_from, and_parts, eqb-true, false≢true, le-leb, lt-ltb, or_cases}
use Rattle.std.proofs.{lemmas.Bool.Decides.nat_tests, lemmas.List.Folds.list_any_at, lemmas.Map.Views.any-filter_same}
use Rattle.std.specs.{Prelude.◌||◌, List.list_all, List.list_any}
use Rattle.signal_values.specs.Numbers.{numbers}
use Rattle.signal_rules.specs.Lookup.{is_in}

-- the numbers that follow each other
pub is_number : (n first t : ℕ) → is_in t (numbers n first) ≡ (leb first t && ltb t (first + n))
is_number zero first t = grind (arith, nat_tests)
is_number (suc n) first t =
    ap (λ b. eqb first t || b) (is_number n (first + 1) t) ∙ grind (arith, nat_tests)

pub in_numbers : (n first t : ℕ) → first ≤ t → t < first + n → is_in t (numbers n first) ≡ true
in_numbers n first t low high =
    is_number n first t ∙ and_from _ _ (le-leb first t low) (lt-ltb t (first + n) high)

-- the members that pass a filter
pub is_filtered : (P : ℕ → Bool) (ns : List ℕ) (t : ℕ) → is_in t (filter P ns) ≡ (P t && is_in t ns)
is_filtered P ns t =
    any-filter_same (λ m. eqb m t) P (P t) (λ m same. ap P (eqb-true m t same)) ns

pub in_filter : (P : ℕ → Bool) (ns : List ℕ) (t : ℕ) → P t ≡ true → is_in t ns ≡ true
    → is_in t (filter P ns) ≡ true
in_filter P ns t is among = is_filtered P ns t ∙ and_from _ _ is among

-- a test of all members, at one
pub all_at : (T : ℕ → Bool) (ns : List ℕ) (t : ℕ) → list_all T ns ≡ true → is_in t ns ≡ true
    → T t ≡ true
all_at T [] t all among = absurd (false≢true among)
all_at T (n ∷ ns) t all among =
    let parts = and_parts (T n) (list_all T ns) all in
    elim (or_cases (eqb n t) (is_in t ns) among) [
      | inl here ↦ ap T (sym (eqb-true n t here)) ∙ parts.0
      | inr later ↦ all_at T ns t parts.1 later
    ]

-- a member has a place
pub contains : (ns : List ℕ) (t : ℕ) → is_in t ns ≡ true → Contains ns t
contains [] t among = absurd (false≢true among)
contains (n ∷ ns) t among =
    elim (or_cases (eqb n t) (is_in t ns) among) [
      | inl here ↦ (0, omega arith, eqb-true n t here)
      | inr later ↦ let rest = contains ns t later in (suc rest.0, omega (arith, rest.1), rest.2)
    ]

pub any_at : (T : ℕ → Bool) (ns : List ℕ) (t : ℕ) → is_in t ns ≡ true → T t ≡ true
    → list_any T ns ≡ true
any_at T ns t among is =
    let place = contains ns t among in list_any_at T ns place.0 t place.1 (ap T place.2 ∙ is)
