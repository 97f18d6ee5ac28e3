-- The rows of each kind: their numbers rise, a key is found where its number is among them, and they are the subjects.
use Rattle.std.proofs.Common.{◌≡◌, ℕ, ◌+◌, ◌<◌, ◌≤◌, Bool, true, false, cond, eqb, leb, ◌&&◌, List, [], ◌∷◌, map, Option, Some, None, is_some, inl, inr, refl, ap, ◌∙◌, arith}
use Rattle.std.proofs.lemmas.Bool.{and_parts, leb-true, eqb-true, eq-eqb}
use Rattle.std.specs.{Prelude.◌||◌, FinMap.find, Option.unwrap_or, declared.cmp.Ordering.TheVariants.Less, declared.cmp.Ordering.TheVariants.Equal, List.list_any, List.list_all, List.filter_map, List.flat_map, List.cons_option, Ordering.nat_cmp, Ordering.eq_by_cmp}
use Rattle.signal_records.specs.declared.key.Key.TheVariants as key
use Rattle.signal_values.specs.declared.number.TheConstants.{PHASES, RINGS}
use Rattle.signal_records.specs.{declared.record.Row.Row, Key.key_cmp, Row.key_of}
use Rattle.signal_records.specs.declared.record.Row.TheVariants as row
use Rattle.signal_rules.specs.declared.violation.Subject.TheVariants as subject
use Rattle.signal_rules.specs.Lookup.{the_phase, the_list, the_split, the_pattern, last_sequence, last_split, last_pattern, ring_numbers, is_in}
use Rattle.signal_rules.specs.RowWalk.{with_keys, of_kind, sequence_of, sequences_after, is_from_to, is_within}
use Rattle.signal_rules.proofs.{Among.any_at, Among.in_numbers, InOrder.firsts, InOrder.second_at, KeyOrder.number_less, KeyOrder.pair_less, KeyOrder.pair_tied, KeyOrder.tied_alone, RowNumbers.within_bounds, RowNumbers.found_or}
use Rattle.signal_rules.proofs.Unreached.{list_any_same}
use Rattle.signal_values.proofs.Ties.{numbers_tie}

-- ---- phases

abbrev pub phase_of : Row → Option ℕ
phase_of (row.Phase p phase) = Some p
phase_of _ = None

pub phase_rises : (a b : Row) (p q : ℕ) → key_cmp (key_of a) (key_of b) ≡ Less → phase_of a ≡ Some p → phase_of b ≡ Some q → p + 1 ≤ q
phase_rises (row.Phase m x) (row.Phase n y) p q lt e f =
    let same_p : m ≡ p = cc in let same_q : n ≡ q = cc in
    elim (pair_less m n Equal lt) [
      | inl below ↦ omega arith
      | inr level ↦ let other : Equal ≡ Less = level.1 in absurd (cc)
    ]
phase_rises a b p q lt e f = absurd (cc)

pub phase_inside : (r : Row) (p : ℕ) → is_within r ≡ true → phase_of r ≡ Some p → (1 ≤ p) × (p < 33)
phase_inside (row.Phase m x) p h e = within_bounds PHASES m p h e
phase_inside _ p h e = absurd (cc)

pub phase_found : (p : ℕ) (rows : List Row) → is_some (the_phase (find key_cmp (key.Phase p) (with_keys rows))) ≡ is_in p (filter_map phase_of rows)
phase_found p [] = refl
phase_found p (row.Phase m x ∷ rows) =
    found_or the_phase (row.Phase m x) (find key_cmp (key.Phase p) (with_keys rows)) (eq_by_cmp key_cmp (key.Phase p) (key.Phase m)) _ refl (phase_found p rows)
    ∙ ap (λ b. b || is_in p (filter_map phase_of rows)) (tied_alone p m)
phase_found p (_ ∷ rows) = phase_found p rows

pub phase_subjects : (rows : List Row) → flat_map (of_kind 1) rows ≡ map (λ p. subject.Phase p) (filter_map phase_of rows)
phase_subjects [] = refl
phase_subjects (row.Phase m x ∷ rows) = ap (λ l. subject.Phase m ∷ l) (phase_subjects rows)
phase_subjects (_ ∷ rows) = phase_subjects rows

-- ---- patterns

abbrev pub pattern_of : Row → Option ℕ
pattern_of (row.Pattern n pattern) = Some n
pattern_of _ = None

pub pattern_rises : (a b : Row) (p q : ℕ) → key_cmp (key_of a) (key_of b) ≡ Less → pattern_of a ≡ Some p → pattern_of b ≡ Some q → p + 1 ≤ q
pattern_rises (row.Pattern m x) (row.Pattern n y) p q lt e f =
    let same_p : m ≡ p = cc in let same_q : n ≡ q = cc in
    elim (pair_less m n Equal lt) [
      | inl below ↦ omega arith
      | inr level ↦ let other : Equal ≡ Less = level.1 in absurd (cc)
    ]
pattern_rises a b p q lt e f = absurd (cc)

pub pattern_inside : (r : Row) (p : ℕ) → is_within r ≡ true → pattern_of r ≡ Some p → (1 ≤ p) × (p < 49)
pattern_inside (row.Pattern n x) p h e = within_bounds last_pattern n p h e
pattern_inside _ p h e = absurd (cc)

pub pattern_found : (p : ℕ) (rows : List Row) → is_some (the_pattern (find key_cmp (key.Pattern p) (with_keys rows))) ≡ is_in p (filter_map pattern_of rows)
pattern_found p [] = refl
pattern_found p (row.Pattern m x ∷ rows) =
    found_or the_pattern (row.Pattern m x) (find key_cmp (key.Pattern p) (with_keys rows)) (eq_by_cmp key_cmp (key.Pattern p) (key.Pattern m)) _ refl (pattern_found p rows)
    ∙ ap (λ b. b || is_in p (filter_map pattern_of rows)) (tied_alone p m)
pattern_found p (_ ∷ rows) = pattern_found p rows

pub pattern_subjects : (rows : List Row) → flat_map (of_kind 4) rows ≡ map (λ p. subject.Pattern p) (filter_map pattern_of rows)
pattern_subjects [] = refl
pattern_subjects (row.Pattern m x ∷ rows) = ap (λ l. subject.Pattern m ∷ l) (pattern_subjects rows)
pattern_subjects (_ ∷ rows) = pattern_subjects rows

-- ---- sequences

pub sequence_rises : (a b : Row) (p q : ℕ) → key_cmp (key_of a) (key_of b) ≡ Less → sequence_of a ≡ Some p → sequence_of b ≡ Some q → p + 0 ≤ q
sequence_rises (row.Seq m r x) (row.Seq n s y) p q lt e f =
    let same_p : m ≡ p = cc in let same_q : n ≡ q = cc in
    elim (pair_less m n (nat_cmp r s) lt) [
      | inl below ↦ omega arith
      | inr level ↦ let same = level.0 in omega arith
    ]
sequence_rises a b p q lt e f = absurd (cc)

pub sequence_inside : (r : Row) (p : ℕ) → is_within r ≡ true → sequence_of r ≡ Some p → (1 ≤ p) × (p < 21)
sequence_inside (row.Seq n ring x) p h e = within_bounds last_sequence n p (and_parts _ _ h).0 e
sequence_inside _ p h e = absurd (cc)

either : (f g : ℕ → Bool) (xs : List ℕ) → list_any (λ x. f x || g x) xs ≡ (list_any f xs || list_any g xs)
either f g [] = refl
either f g (x ∷ xs) = step (f x) (g x) _ (list_any f xs) (list_any g xs) (either f g xs) where
  step : (a b c d e : Bool) → c ≡ (d || e) → ((a || b) || c) ≡ ((a || d) || (b || e))
  step true b c d e h = refl
  step false true c true e h = refl
  step false true c false e h = refl
  step false false c d e h = h

any_ring : (b : Bool) (ring : ℕ) → 1 ≤ ring → ring ≤ RINGS → list_any (λ s. b && eqb ring s) ring_numbers ≡ b
any_ring true ring low high =
    any_at (λ s. eqb ring s) ring_numbers ring (in_numbers RINGS 1 ring low (omega arith))
    (eq-eqb ring ring refl)
any_ring false ring low high = refl

pub sequence_found : (n : ℕ) (rows : List Row) → list_all is_within rows ≡ true
    → list_any (λ ring. is_some (the_list (find key_cmp (key.Seq n ring) (with_keys rows)))) ring_numbers ≡ is_in n (filter_map sequence_of rows)
sequence_found n [] within = refl
sequence_found n (row.Seq m r x ∷ rows) within =
    let both = and_parts (is_within (row.Seq m r x)) (list_all is_within rows) within in
    let bounds = and_parts (is_from_to 1 last_sequence m) (is_from_to 1 RINGS r) both.0 in
    let ring = and_parts (leb 1 r) (leb r RINGS) bounds.1 in
    list_any_same (λ s. is_some (the_list (find key_cmp (key.Seq n s) (with_keys (row.Seq m r x ∷ rows))))) (λ s. (eqb m n && eqb r s) || is_some (the_list (find key_cmp (key.Seq n s) (with_keys rows)))) ring_numbers
    (λ s. found_or the_list (row.Seq m r x) (find key_cmp (key.Seq n s) (with_keys rows)) (eq_by_cmp key_cmp (key.Seq n s) (key.Seq m r)) _ refl refl
    ∙ ap (λ b. b || is_some (the_list (find key_cmp (key.Seq n s) (with_keys rows)))) (pair_tied n m (nat_cmp s r) ∙ ap (λ b. eqb m n && b) (numbers_tie s r)))
    ∙ either (λ s. eqb m n && eqb r s) (λ s. is_some (the_list (find key_cmp (key.Seq n s) (with_keys rows)))) ring_numbers
    ∙ ap (λ b. b || list_any (λ s. is_some (the_list (find key_cmp (key.Seq n s) (with_keys rows)))) ring_numbers) (any_ring (eqb m n) r (leb-true 1 r ring.0) (leb-true r RINGS ring.1))
    ∙ ap (λ b. eqb m n || b) (sequence_found n rows both.1)
sequence_found n (_ ∷ rows) within = sequence_found n rows (and_parts _ _ within).1

pub walked_firsts : (last : ℕ) (rows : List Row) → sequences_after last rows ≡ firsts last (filter_map sequence_of rows)
walked_firsts last [] = refl
walked_firsts last (row.Seq m r x ∷ rows) = by_test (eqb m last) (λ k. walked_firsts k rows) where
  by_test : (b : Bool) → ((k : ℕ) → sequences_after k rows ≡ firsts k (filter_map sequence_of rows))
      → cons_option (cond b None (Some m)) (sequences_after (unwrap_or (cond b None (Some m)) last) rows)
      ≡ cond b (firsts last (filter_map sequence_of rows)) (m ∷ firsts m (filter_map sequence_of rows))
  by_test true later = later last
  by_test false later = ap (λ l. m ∷ l) (later m)
walked_firsts last (_ ∷ rows) = walked_firsts last rows

-- ---- split rows

abbrev pub pair_of : Row → Option (ℕ × ℕ)
pair_of (row.Split n p split) = Some (n, p)
pair_of _ = None

abbrev pub split_of : Row → Option ℕ
split_of (row.Split n p split) = Some n
split_of _ = None

abbrev pub phase_split : ℕ → Row → Option ℕ
phase_split n (row.Split m p split) = second_at n (m, p)
phase_split n _ = None

pub split_rises : (a b : Row) (p q : ℕ) → key_cmp (key_of a) (key_of b) ≡ Less → split_of a ≡ Some p → split_of b ≡ Some q → p + 0 ≤ q
split_rises (row.Split m r x) (row.Split n s y) p q lt e f =
    let same_p : m ≡ p = cc in let same_q : n ≡ q = cc in
    elim (pair_less m n (nat_cmp r s) lt) [
      | inl below ↦ omega arith
      | inr level ↦ let same = level.0 in omega arith
    ]
split_rises a b p q lt e f = absurd (cc)

pub split_inside : (r : Row) (p : ℕ) → is_within r ≡ true → split_of r ≡ Some p → (1 ≤ p) × (p < 21)
split_inside (row.Split n m x) p h e = within_bounds last_split n p (and_parts _ _ h).0 e
split_inside _ p h e = absurd (cc)

-- the pair of a split number
chosen : (n m r p : ℕ) → second_at n (m, r) ≡ Some p → (m ≡ n) × (r ≡ p)
chosen n m r p e = by_test (eqb m n) refl e where
  by_test : (b : Bool) → eqb m n ≡ b → cond b (Some r) None ≡ Some p → (m ≡ n) × (r ≡ p)
  by_test true same is = (eqb-true m n same, cc)
  by_test false same is = absurd (cc)

pub phase_split_rises : (k : ℕ) (a b : Row) (p q : ℕ) → key_cmp (key_of a) (key_of b) ≡ Less → phase_split k a ≡ Some p → phase_split k b ≡ Some q → p + 1 ≤ q
phase_split_rises k (row.Split m r x) (row.Split n s y) p q lt e f =
    let one = chosen k m r p e in let two = chosen k n s q f in
    let mk : m ≡ k = one.0 in let rp : r ≡ p = one.1 in let nk : n ≡ k = two.0 in let sq : s ≡ q = two.1 in
    elim (pair_less m n (nat_cmp r s) lt) [
      | inl below ↦ omega arith
      | inr level ↦ let below : r < s = number_less r s level.1 in omega arith
    ]
phase_split_rises k a b p q lt e f = absurd (cc)

pub phase_split_inside : (k : ℕ) (r : Row) (p : ℕ) → is_within r ≡ true → phase_split k r ≡ Some p → (1 ≤ p) × (p < 33)
phase_split_inside k (row.Split n m x) p h e = within_bounds PHASES m p (and_parts _ _ h).1 (ap (λ t. Some t) (chosen k n m p e).1)
phase_split_inside k _ p h e = absurd (cc)

pub split_found : (n p : ℕ) (rows : List Row) → is_some (the_split (find key_cmp (key.Split n p) (with_keys rows))) ≡ is_in p (filter_map (phase_split n) rows)
split_found n p [] = refl
split_found n p (row.Split m r x ∷ rows) =
    found_or the_split (row.Split m r x) (find key_cmp (key.Split n p) (with_keys rows)) (eq_by_cmp key_cmp (key.Split n p) (key.Split m r)) _ refl (split_found n p rows)
    ∙ ap (λ b. b || is_in p (filter_map (phase_split n) rows)) (pair_tied n m (nat_cmp p r) ∙ ap (λ b. eqb m n && b) (numbers_tie p r))
    ∙ by_test (eqb m n) where
      by_test : (b : Bool) → ((b && eqb r p) || is_in p (filter_map (phase_split n) rows)) ≡ is_in p (cons_option (cond b (Some r) None) (filter_map (phase_split n) rows))
      by_test true = refl
      by_test false = refl
split_found n p (_ ∷ rows) = split_found n p rows

pub split_pairs : (n : ℕ) (rows : List Row) → filter_map (phase_split n) rows ≡ filter_map (second_at n) (filter_map pair_of rows)
split_pairs n [] = refl
split_pairs n (row.Split m r x ∷ rows) = ap (cons_option (second_at n (m, r))) (split_pairs n rows)
split_pairs n (_ ∷ rows) = split_pairs n rows

pub first_numbers : (rows : List Row) → filter_map split_of rows ≡ map (λ q. q.0) (filter_map pair_of rows)
first_numbers [] = refl
first_numbers (row.Split m r x ∷ rows) = ap (λ l. m ∷ l) (first_numbers rows)
first_numbers (_ ∷ rows) = first_numbers rows

pub pair_subjects : (rows : List Row) → flat_map (of_kind 3) rows ≡ map (λ q. subject.Split q.0 q.1) (filter_map pair_of rows)
pair_subjects [] = refl
pair_subjects (row.Split m r x ∷ rows) = ap (λ l. subject.Split m r ∷ l) (pair_subjects rows)
pair_subjects (_ ∷ rows) = pair_subjects rows
