-- Two spans conflict first where the later of the two begins.
use Rattle.std.proofs.Common.{◌≡◌, ◌⊎◌, ℕ, zero, suc, ◌+◌, ◌<◌, ◌≤◌, Bool, true, false, cond, ◌&&◌, List, [], ◌∷◌, ◌++◌, Option, Some, None, inl, inr, refl, sym, ap, ◌∙◌, arith}
use Rattle.std.proofs.lemmas.Bool.{and_from, and_parts, le-leb, leb-true, lt-ltb, ltb-true}
use Rattle.std.specs.Prelude.{is_none, is_some}
use Rattle.std.specs.List.{AllByRecursion, flat_map, list_all}
use Rattle.signal_values.specs.Numbers.{numbers}
use Rattle.signal_rules.specs.Cases.{Cases, first_true, holds}
use Rattle.signal_rules.specs.Slots.{IsFirstConflict, Span, are_mates, conflicts_in, has_second, later_cases, pair_cases, slot_cases, spans_in}
use Rattle.signal_rules.specs.declared.reason.Reason.{Reason}
use Rattle.signal_rules.proofs.Cases.{first_past, holds-append, holds-cons}
use Rattle.signal_rules.proofs.Pairs.{parts}

-- ---- spans that fit at a second

-- two spans that both last then list each other
abbrev fits : ℕ → Span → Span → Bool
fits t x y = cond (has_second t x && has_second t y) (are_mates x.listing y.listing) true

abbrev all_fit : ℕ → List Span → Bool
all_fit t [] = true
all_fit t (x ∷ later) = list_all (fits t x) later && all_fit t later

laters_fit : (b : Bool) (t : ℕ) (x : Span) (later : List Span)
    → holds (cond b (later_cases t x (spans_in t later)) [])
    ≡ list_all (λ y. cond (b && has_second t y) (are_mates x.listing y.listing) true) later
laters_fit true t x [] = refl
laters_fit false t x [] = refl
laters_fit false t x (y ∷ later) = laters_fit false t x later
laters_fit true t x (y ∷ later) = by_test (has_second t y) (laters_fit true t x later)
  where
    by_test : (c : Bool)
        → holds (later_cases t x (spans_in t later))
        ≡ list_all (λ z. cond (has_second t z) (are_mates x.listing z.listing) true) later
        → holds (later_cases t x (cond c (y ∷ spans_in t later) (spans_in t later)))
        ≡ (cond c (are_mates x.listing y.listing) true
        && list_all (λ z. cond (has_second t z) (are_mates x.listing z.listing) true) later)
    by_test true rest =
        holds-cons (are_mates x.listing y.listing) _ (later_cases t x (spans_in t later))
        ∙ ap (λ b. are_mates x.listing y.listing && b) rest
    by_test false rest = rest

abbrev at_second : List Span → ℕ → Cases Reason
at_second spans t = pair_cases t (spans_in t spans)

hold_where_fit : (t : ℕ) (spans : List Span) → holds (at_second spans t) ≡ all_fit t spans
hold_where_fit t [] = refl
hold_where_fit t (x ∷ later) = ap holds (parts t x later)
    ∙ holds-append (slot_cases t x later) (at_second later t)
    ∙ (λ i. laters_fit (has_second t x) t x later i && hold_where_fit t later i)

-- ---- what fits where each of two begins fits

fits_then : (t : ℕ) (x y : Span) → (x.from ≤ t → fits x.from x y ≡ true)
    → (y.from ≤ t → fits y.from x y ≡ true) → fits t x y ≡ true
fits_then t x y of_x of_y = by_test (has_second t x && has_second t y) refl
  where
    mates : (from : ℕ) → has_second from x ≡ true → has_second from y ≡ true
        → fits from x y ≡ true → are_mates x.listing y.listing ≡ true
    mates from in_x in_y fit =
        ap (λ b. cond b (are_mates x.listing y.listing) true) (sym (and_from _ _ in_x in_y)) ∙ fit

    order : (a b : ℕ) → (a ≤ b) ⊎ (b ≤ a)
    order a b = grind arith

    both : x.from ≤ t → t < x.until → y.from ≤ t → t < y.until
        → (x.from ≤ y.from) ⊎ (y.from ≤ x.from) → are_mates x.listing y.listing ≡ true
    both low_x high_x low_y high_y (inl le) = mates y.from
        (and_from _ _ (le-leb x.from y.from le) (lt-ltb y.from x.until (omega arith)))
        (and_from _ _ (le-leb y.from y.from (omega arith)) (lt-ltb y.from y.until (omega arith)))
        (of_y low_y)
    both low_x high_x low_y high_y (inr le) = mates x.from
        (and_from _ _ (le-leb x.from x.from (omega arith)) (lt-ltb x.from x.until (omega arith)))
        (and_from _ _ (le-leb y.from x.from le) (lt-ltb x.from y.until (omega arith)))
        (of_x low_x)

    by_test : (b : Bool) → (has_second t x && has_second t y) ≡ b → fits t x y ≡ true
    by_test false e = rw e refl
    by_test true e =
        let last = and_parts (has_second t x) (has_second t y) e in
        let of_first = and_parts _ _ last.0 in
        let of_second = and_parts _ _ last.1 in
        rw e (both (leb-true x.from t of_first.0) (ltb-true t x.until of_first.1)
        (leb-true y.from t of_second.0) (ltb-true t y.until of_second.1) (order x.from y.from))

pub weaker : (P Q : Span → Type 0) (spans : List Span) → ((x : Span) → P x → Q x)
    → AllByRecursion P spans → AllByRecursion Q spans
weaker P Q [] f all = tt
weaker P Q (x ∷ spans) f all = (f x all.0, weaker P Q spans f all.1)

module _ (t : ℕ) where
  head_fits : (x : Span) (rest : List Span)
      → (x.from ≤ t → list_all (fits x.from x) rest ≡ true)
      → AllByRecursion (λ y. y.from ≤ t → list_all (fits y.from x) rest ≡ true) rest
      → list_all (fits t x) rest ≡ true
  head_fits x [] first others = refl
  head_fits x (y ∷ rest) first others = and_from (fits t x y) (list_all (fits t x) rest)
      (fits_then t x y (λ le. (and_parts (fits x.from x y) (list_all (fits x.from x) rest) (first le)).0)
      (λ le. (and_parts (fits y.from x y) (list_all (fits y.from x) rest) (others.0 le)).0))
      (head_fits x rest
      (λ le. (and_parts (fits x.from x y) (list_all (fits x.from x) rest) (first le)).1)
      (weaker (λ z. z.from ≤ t → list_all (fits z.from x) (y ∷ rest) ≡ true)
      (λ z. z.from ≤ t → list_all (fits z.from x) rest ≡ true) rest
      (λ z all le. (and_parts (fits z.from x y) (list_all (fits z.from x) rest) (all le)).1) others.1))

  -- spans that fit where each of them begins fit
  all_fits : (spans : List Span)
      → AllByRecursion (λ x. x.from ≤ t → all_fit x.from spans ≡ true) spans
      → all_fit t spans ≡ true
  all_fits [] all = refl
  all_fits (x ∷ later) all = and_from (list_all (fits t x) later) (all_fit t later)
      (head_fits x later (λ le. (parts_at x (all.0 le)).0)
      (weaker Fits (λ z. z.from ≤ t → list_all (fits z.from x) later ≡ true) later
      (λ z fit le. (parts_at z (fit le)).0) all.1))
      (all_fits later (weaker Fits (λ z. z.from ≤ t → all_fit z.from later ≡ true) later
      (λ z fit le. (parts_at z (fit le)).1) all.1))
    where
      Fits : Span → Type 0
      Fits z = z.from ≤ t → all_fit z.from (x ∷ later) ≡ true

      parts_at : (z : Span) → all_fit z.from (x ∷ later) ≡ true
          → (list_all (fits z.from x) later ≡ true) × (all_fit z.from later ≡ true)
      parts_at z fit = and_parts (list_all (fits z.from x) later) (all_fit z.from later) fit

-- ---- the first of some seconds at which there is a reason

no_reason : {A : Type 0} (found : Option A) → is_none found ≡ true → found ≡ None
no_reason None e = refl
no_reason (Some why) e = absurd (let f : false ≡ true = e in cc)

pub some_is_found : {A : Type 0} (found : Option A) → is_some found ≡ true → is_none found ≡ false
some_is_found None e = absurd (let f : false ≡ true = e in cc)
some_is_found (Some why) e = refl

here_first : {A : Type 0} (cs ds : Cases A) → holds cs ≡ false
    → first_true (cs ++ ds) ≡ first_true cs
here_first [] ds e = absurd (let f : true ≡ false = e in cc)
here_first ((true, why) ∷ cs) ds e = refl
here_first ((false, why) ∷ cs) ds e = here_first cs ds e

module _ (f : ℕ → Cases Reason) where
  none_in : (n from : ℕ) → ((t : ℕ) → t < from + n → holds (f t) ≡ true)
      → first_true (flat_map f (numbers n from)) ≡ None
  none_in zero from quiet = refl
  none_in (suc n) from quiet =
      first_past (f from) (flat_map f (numbers n (from + 1)))
      (no_reason (first_true (f from)) (quiet from (omega arith)))
      ∙ none_in n (from + 1) (λ t lt. quiet t (omega (arith, lt)))

  first_in : (n from first : ℕ) → from ≤ first → first < from + n
      → ((t : ℕ) → t < first → holds (f t) ≡ true) → holds (f first) ≡ false
      → first_true (flat_map f (numbers n from)) ≡ first_true (f first)
  first_in zero from first low high quiet some = absurd (omega (arith, low, high))
  first_in (suc n) from first low high quiet some =
      by_place (places from first low) (λ lt. first_in n (from + 1) first (omega (arith, lt))
      (omega (arith, high)) quiet some)
    where
      places : (a b : ℕ) → a ≤ b → (a ≡ b) ⊎ (a < b)
      places a b le = grind arith

      by_place : (from ≡ first) ⊎ (from < first)
          → (from < first
          → first_true (flat_map f (numbers n (from + 1))) ≡ first_true (f first))
          → first_true (f from ++ flat_map f (numbers n (from + 1))) ≡ first_true (f first)
      by_place (inl is) later =
          here_first (f from) (flat_map f (numbers n (from + 1))) (ap (λ t. holds (f t)) is ∙ some)
          ∙ ap (λ t. first_true (f t)) is
      by_place (inr lt) later =
          first_past (f from) (flat_map f (numbers n (from + 1)))
          (no_reason (first_true (f from)) (quiet from lt))
          ∙ later lt

module _ (spans : List Span) (cycle first : ℕ) (is : IsFirstConflict spans spans cycle first) where
  quiet_before : (t : ℕ) → t < first → holds (at_second spans t) ≡ true
  quiet_before t lt = hold_where_fit t spans ∙ all_fits t spans
      (weaker (λ x. x.from < first → holds (at_second spans x.from) ≡ true)
      (λ x. x.from ≤ t → all_fit x.from spans ≡ true) spans
      (λ x quiet le. sym (hold_where_fit x.from spans) ∙ quiet (omega (arith, le, lt))) is.before)

  pub conflict_found : first < cycle
      → first_true (at_second spans first) ≡ first_true (conflicts_in cycle spans)
  conflict_found lt = sym (first_in (at_second spans) cycle 0 first (omega arith) (omega (arith, lt))
      quiet_before (is.broken lt))

  pub none_found : first ≡ cycle → None ≡ first_true (conflicts_in cycle spans)
  none_found same = sym (none_in (at_second spans) cycle 0
      (λ t lt. quiet_before t (omega (arith, same, lt))))
