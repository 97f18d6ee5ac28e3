-- Numbers that rise, within bounds, and the numbers of a range that are among them.
use Rattle.std.proofs.Common.{◌≡◌, ℕ, zero, suc, ◌+◌, ◌<◌, ◌≤◌, Bool, true, false, cond, eqb, List, [], ◌∷◌, ◌++◌, map, filter, Option, Some, None, ◌⊎◌, inl, inr, refl, sym, ap, subst, ◌∙◌, arith}
use Rattle.std.proofs.lemmas.Bool.{eqb-true, eqb-false, eq-eqb, ne_eqb, or_left, or_from}
use Rattle.std.specs.{Prelude.◌||◌, List.filter_map, List.flat_map, List.cons_option}
use Rattle.signal_values.specs.Numbers.{numbers}
use Rattle.signal_rules.specs.Lookup.{is_in}

-- from the least on and below the end, each at least so much more than the one before it
abbrev pub Rising : ℕ → ℕ → ℕ → List ℕ → Type 0
Rising gap least end [] = Unit {0}
Rising gap least end (x ∷ xs) = (least ≤ x) × (x < end) × Rising gap (x + gap) end xs

-- fewer are asked for
pub rising_from : (gap least lower end : ℕ) (xs : List ℕ) → lower ≤ least → Rising gap least end xs → Rising gap lower end xs
rising_from gap least lower end [] le h = tt
rising_from gap least lower end (x ∷ xs) le h =
    let a : least ≤ x = h.0 in
    let b : lower ≤ x = omega arith in
    (b, h.1, h.2)

-- a number below the least
pub missing : (gap least end p : ℕ) (xs : List ℕ) → Rising gap least end xs → p < least → is_in p xs ≡ false
missing gap least end p [] h lt = refl
missing gap least end p (x ∷ xs) h lt =
    let a : least ≤ x = h.0 in
    or_from (eqb x p) (is_in p xs) (ne_eqb x p (λ e. omega arith)) (missing gap (x + gap) end p xs h.2 (omega arith))

pub cases_first : (a b : ℕ) → a ≤ b → (a ≡ b) ⊎ (a + 1 ≤ b)
cases_first a b le = grind arith

not_first : (x p : ℕ) (xs : List ℕ) → x + 1 ≤ p → is_in p (x ∷ xs) ≡ is_in p xs
not_first x p xs lt = ap (λ b. b || is_in p xs) (ne_eqb x p (λ e. omega arith))

-- the numbers of a range that are among rising numbers are these numbers
pub in_order : (P : ℕ → Bool) (n first end : ℕ) (xs : List ℕ) → first + n ≡ end → Rising 1 first end xs
    → ((p : ℕ) → first ≤ p → p < end → P p ≡ is_in p xs) → filter P (numbers n first) ≡ xs
in_order P zero first end [] e up same = refl
in_order P zero first end (x ∷ xs) e up same = let a : first ≤ x = up.0 in let b : x < end = up.1 in absurd (omega arith)
in_order P (suc n) first end [] e up same =
    let gone : P first ≡ false = same first (omega arith) (omega arith) in
    ap (λ b. cond b (first ∷ filter P (numbers n (first + 1))) (filter P (numbers n (first + 1)))) gone
    ∙ in_order P n (first + 1) end [] (omega arith) tt (λ p low high. same p (omega arith) high)
in_order P (suc n) first end (x ∷ xs) e up same =
    by_place (cases_first first x up.0) (in_order P n (first + 1) end xs (omega arith)) (in_order P n (first + 1) end (x ∷ xs) (omega arith)) where
      by_place : (first ≡ x) ⊎ (first + 1 ≤ x)
          → (Rising 1 (first + 1) end xs → ((p : ℕ) → first + 1 ≤ p → p < end → P p ≡ is_in p xs) → filter P (numbers n (first + 1)) ≡ xs)
          → (Rising 1 (first + 1) end (x ∷ xs) → ((p : ℕ) → first + 1 ≤ p → p < end → P p ≡ is_in p (x ∷ xs)) → filter P (numbers n (first + 1)) ≡ x ∷ xs)
          → cond (P first) (first ∷ filter P (numbers n (first + 1))) (filter P (numbers n (first + 1))) ≡ x ∷ xs
      by_place (inl here) without with_it =
          let kept : P first ≡ true = same first (omega arith) (omega arith) ∙ or_left (eqb x first) (is_in first xs) (eq-eqb x first (sym here)) in
          let up_from : Rising 1 (first + 1) end xs = subst (λ k. Rising 1 (k + 1) end xs) (sym here) up.2 in
          let after : filter P (numbers n (first + 1)) ≡ xs =
          without up_from (λ p low high. same p (omega arith) high ∙ not_first x p xs (omega arith)) in
          ap (λ b. cond b (first ∷ filter P (numbers n (first + 1))) (filter P (numbers n (first + 1)))) kept ∙ (λ i. here i ∷ after i)
      by_place (inr more) without with_it =
          let above : Rising 1 (first + 1) end (x ∷ xs) = (more, up.1, up.2) in
          let gone : P first ≡ false = same first (omega arith) (omega arith) ∙ missing 1 (first + 1) end first (x ∷ xs) above (omega arith) in
          ap (λ b. cond b (first ∷ filter P (numbers n (first + 1))) (filter P (numbers n (first + 1)))) gone
          ∙ with_it above (λ p low high. same p (omega arith) high)

-- ---- numbers of which some follow themselves

-- the first of each run
abbrev pub firsts : ℕ → List ℕ → List ℕ
firsts last [] = []
firsts last (x ∷ xs) = cond (eqb x last) (firsts last xs) (x ∷ firsts x xs)

pub firsts_rise : (last end : ℕ) (xs : List ℕ) → Rising 0 last end xs → Rising 1 (last + 1) end (firsts last xs)
firsts_rise last end [] h = tt
firsts_rise last end (x ∷ xs) h = by_test (eqb x last) refl (firsts_rise last end xs) (firsts_rise x end xs) where
  by_test : (b : Bool) → eqb x last ≡ b → (Rising 0 last end xs → Rising 1 (last + 1) end (firsts last xs))
      → (Rising 0 x end xs → Rising 1 (x + 1) end (firsts x xs)) → Rising 1 (last + 1) end (cond b (firsts last xs) (x ∷ firsts x xs))
  by_test true e same other =
      let a : last ≤ x = h.0 in
      same (rising_from 0 (x + 0) last end xs (omega arith) h.2)
  by_test false e same other =
      let a : last ≤ x = h.0 in
      let above : last + 1 ≤ x = elim (cases_first last x a) [ inl here ↦ absurd (eqb-false x last e (sym here)) | inr more ↦ more ] in
      (above, h.1, other (rising_from 0 (x + 0) x end xs (omega arith) h.2))

pub firsts_are : (last p : ℕ) (xs : List ℕ) → eqb last p ≡ false → is_in p (firsts last xs) ≡ is_in p xs
firsts_are last p [] apart = refl
firsts_are last p (x ∷ xs) apart = by_test (eqb x last) refl (eqb x p) refl (firsts_are last p xs apart) (firsts_are x p xs) where
  by_test : (b : Bool) → eqb x last ≡ b → (c : Bool) → eqb x p ≡ c → is_in p (firsts last xs) ≡ is_in p xs
      → (eqb x p ≡ false → is_in p (firsts x xs) ≡ is_in p xs)
      → is_in p (cond b (firsts last xs) (x ∷ firsts x xs)) ≡ (eqb x p || is_in p xs)
  by_test true e c f same other =
      let gone : eqb x p ≡ false = ap (λ y. eqb y p) (eqb-true x last e) ∙ apart in
      same ∙ sym (ap (λ t. t || is_in p xs) gone)
  by_test false e true f same other = ap (λ t. t || is_in p (firsts x xs)) f ∙ sym (ap (λ t. t || is_in p xs) f)
  by_test false e false f same other = ap (λ t. eqb x p || t) (other f)

-- ---- pairs, by their first number

abbrev pub second_at : ℕ → ℕ × ℕ → Option ℕ
second_at n q = cond (eqb q.0 n) (Some q.1) None

no_seconds : (end n least : ℕ) (qs : List (ℕ × ℕ)) → Rising 0 least end (map (λ q. q.0) qs) → n < least → filter_map (second_at n) qs ≡ []
no_seconds end n least [] h lt = refl
no_seconds end n least (q ∷ qs) h lt =
    let a : least ≤ q.0 = h.0 in
    ap (λ b. cons_option (cond b (Some q.1) None) (filter_map (second_at n) qs)) (ne_eqb q.0 n (λ e. omega arith))
    ∙ no_seconds end n (q.0 + 0) qs h.2 (omega arith)

module _ {S : Type 0} (make : ℕ → ℕ → S) where
  -- for each number of a range, the second numbers of its pairs
  abbrev by_numbers : List (ℕ × ℕ) → ℕ → ℕ → List S
  by_numbers qs n first = flat_map (λ m. map (make m) (filter_map (second_at m) qs)) (numbers n first)

  before_all : (n first : ℕ) (q : ℕ × ℕ) (qs : List (ℕ × ℕ)) → q.0 + 1 ≤ first → by_numbers (q ∷ qs) n first ≡ by_numbers qs n first
  before_all zero first q qs lt = refl
  before_all (suc n) first q qs lt =
      ap (λ b. map (make first) (cons_option (cond b (Some q.1) None) (filter_map (second_at first) qs)) ++ by_numbers (q ∷ qs) n (first + 1)) (ne_eqb q.0 first (λ e. omega arith))
      ∙ ap (λ l. map (make first) (filter_map (second_at first) qs) ++ l) (before_all n (first + 1) q qs (omega arith))

  group_first : (end n first : ℕ)
      → ((qs : List (ℕ × ℕ)) → Rising 0 (first + 1) end (map (λ q. q.0) qs) → by_numbers qs n (first + 1) ≡ map (λ q. make q.0 q.1) qs)
      → (qs : List (ℕ × ℕ)) → Rising 0 first end (map (λ q. q.0) qs) → by_numbers qs (suc n) first ≡ map (λ q. make q.0 q.1) qs
  group_first end n first later [] up = later [] tt
  group_first end n first later (q ∷ qs) up = by_place (cases_first first q.0 up.0) (group_first end n first later qs) where
    by_place : (first ≡ q.0) ⊎ (first + 1 ≤ q.0)
        → (Rising 0 first end (map (λ p. p.0) qs) → by_numbers qs (suc n) first ≡ map (λ p. make p.0 p.1) qs)
        → by_numbers (q ∷ qs) (suc n) first ≡ make q.0 q.1 ∷ map (λ p. make p.0 p.1) qs
    by_place (inl here) rest =
        let after : by_numbers qs (suc n) first ≡ map (λ p. make p.0 p.1) qs = rest (rising_from 0 (q.0 + 0) first end (map (λ p. p.0) qs) (omega arith) up.2) in
        ap (λ b. map (make first) (cons_option (cond b (Some q.1) None) (filter_map (second_at first) qs)) ++ by_numbers (q ∷ qs) n (first + 1)) (eq-eqb q.0 first (sym here))
        ∙ ap (λ l. make first q.1 ∷ (map (make first) (filter_map (second_at first) qs) ++ l)) (before_all n (first + 1) q qs (omega arith))
        ∙ (λ i. make (here i) q.1 ∷ after i)
    by_place (inr more) rest =
        let above : Rising 0 (first + 1) end (map (λ p. p.0) (q ∷ qs)) = (more, up.1, up.2) in
        ap (λ l. map (make first) l ++ by_numbers (q ∷ qs) n (first + 1)) (no_seconds end first (first + 1) (q ∷ qs) above (omega arith))
        ∙ later (q ∷ qs) above

  -- pairs whose first numbers do not fall, taken number by number, are the pairs
  pub grouped : (end n first : ℕ) (qs : List (ℕ × ℕ)) → first + n ≡ end → Rising 0 first end (map (λ q. q.0) qs)
      → flat_map (λ m. map (make m) (filter_map (second_at m) qs)) (numbers n first) ≡ map (λ q. make q.0 q.1) qs
  grouped end zero first [] e up = refl
  grouped end zero first (q ∷ qs) e up = let a : first ≤ q.0 = up.0 in let b : q.0 < end = up.1 in absurd (omega arith)
  grouped end (suc n) first qs e up = group_first end n first (λ rs high. grouped end n (first + 1) rs (omega arith) high) qs up
