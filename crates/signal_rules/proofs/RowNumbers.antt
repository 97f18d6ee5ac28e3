-- The rows of a set in the order of their keys, and the numbers of the rows of a kind.
use Rattle.std.proofs.Common.{◌≡◌, ℕ, ◌+◌, ◌<◌, ◌≤◌, Bool, true, false, cond, leb, T, List, [], ◌∷◌, Option, Some, None, is_some, refl, sym, ap, subst, ◌∙◌, arith}
use Rattle.std.proofs.lemmas.Bool.{and_parts, leb-true}
use Rattle.std.specs.{Prelude.◌||◌, declared.cmp.Ordering.TheVariants.Less, Ordering.is_lt}
use Rattle.std.specs.FinMap.{find, get, entries, entries_sorted, values, get-entries}
use Rattle.std.specs.FinMap.Entries.{below_all, is_sorted}
use Rattle.std.specs.List.{AllByRecursion, list_all, filter_map, cons_option}
use Rattle.signal_records.specs.{declared.key.Key.Key, declared.record.Row.Row, Key.key_cmp, Row.key_of, TimingSet.Rows, TimingSet.AreKeyed}
use Rattle.signal_rules.specs.RowWalk.{with_keys, is_from_to, is_within}
use Rattle.signal_rules.proofs.InOrder.{Rising}
use Rattle.signal_records.proofs.Sets.{keyed_values}
use Rattle.signal_values.proofs.Ties.{is_less, parts}

-- ---- the rows of a set

-- the rows of a set, in the order of their keys
pub record AreRowsOf (set : Rows) (rows : List Row) : Type 0 where
  pub are : rows ≡ values set
  pub stand : AreKeyed (entries set)
  pub within : list_all is_within rows ≡ true

keyed_rows : (set : Rows) (rows : List Row) → AreRowsOf set rows → with_keys rows ≡ entries set
keyed_rows set rows of = ap with_keys of.are ∙ keyed_values (entries set) of.stand

pub sorted_rows : (set : Rows) (rows : List Row) → AreRowsOf set rows → T (is_sorted key_cmp (with_keys rows))
sorted_rows set rows of = subst (λ es. T (is_sorted key_cmp es)) (sym (keyed_rows set rows of)) (entries_sorted set)

pub found : (set : Rows) (rows : List Row) → AreRowsOf set rows → (q : Key) → get set q ≡ find key_cmp q (with_keys rows)
found set rows of q = get-entries set q ∙ ap (find key_cmp q) (sym (keyed_rows set rows of))

-- ---- the numbers of the rows of a kind rise

abbrev pub IsFrom : (Row → Option ℕ) → ℕ → Row → Type 0
IsFrom number least r = (p : ℕ) → number r ≡ Some p → least ≤ p

module _ (number : Row → Option ℕ) (gap end : ℕ)
    (rises : (a b : Row) (p q : ℕ) → key_cmp (key_of a) (key_of b) ≡ Less → number a ≡ Some p → number b ≡ Some q → p + gap ≤ q)
    (inside : (r : Row) (p : ℕ) → is_within r ≡ true → number r ≡ Some p → (1 ≤ p) × (p < end)) where
  after_row : (a : Row) (p : ℕ) → number a ≡ Some p → (rows : List Row) → T (below_all key_cmp (key_of a) (with_keys rows)) → AllByRecursion (IsFrom number (p + gap)) rows
  after_row a p e [] h = tt
  after_row a p e (r ∷ rows) h =
      let each = parts (is_lt (key_cmp (key_of a) (key_of r))) (below_all key_cmp (key_of a) (with_keys rows)) h in
      (λ q f. rises a r p q (is_less (key_cmp (key_of a) (key_of r)) each.0) e f, after_row a p e rows each.1)

  all_rise : (least : ℕ) (rows : List Row) → T (is_sorted key_cmp (with_keys rows)) → list_all is_within rows ≡ true → AllByRecursion (IsFrom number least) rows → Rising gap least end (filter_map number rows)
  all_rise least [] sorted within from = tt
  all_rise least (r ∷ rows) sorted within from =
      let each = parts (below_all key_cmp (key_of r) (with_keys rows)) (is_sorted key_cmp (with_keys rows)) sorted in
      let both = and_parts (is_within r) (list_all is_within rows) within in
      by_number (number r) refl (both.0) (each.0) (λ low high. all_rise low rows each.1 both.1 high) where
        by_number : (o : Option ℕ) → number r ≡ o → is_within r ≡ true → T (below_all key_cmp (key_of r) (with_keys rows))
            → ((low : ℕ) → AllByRecursion (IsFrom number low) rows → Rising gap low end (filter_map number rows))
            → Rising gap least end (cons_option o (filter_map number rows))
        by_number None e in_range below later = later least from.1
        by_number (Some p) e in_range below later =
            (from.0 p e, (inside r p in_range e).1, later (p + gap) (after_row r p e rows below))

  from_one : (rows : List Row) → list_all is_within rows ≡ true → AllByRecursion (IsFrom number 1) rows
  from_one [] within = tt
  from_one (r ∷ rows) within =
      let both = and_parts (is_within r) (list_all is_within rows) within in
      (λ p e. (inside r p both.0 e).0, from_one rows both.1)

  pub rise : (rows : List Row) → T (is_sorted key_cmp (with_keys rows)) → list_all is_within rows ≡ true → Rising gap 1 end (filter_map number rows)
  rise rows sorted within = all_rise 1 rows sorted within (from_one rows within)

pub within_bounds : (high p q : ℕ) → is_from_to 1 high p ≡ true → Some p ≡ Some q → (1 ≤ q) × (q < high + 1)
within_bounds high p q h e =
    let both = and_parts (leb 1 p) (leb p high) h in
    let same : p ≡ q = cc in
    let a : 1 ≤ p = leb-true 1 p both.0 in
    let b : p ≤ high = leb-true p high both.1 in
    (omega arith, omega arith)

-- a row under the key that is looked for, or the others
pub found_or : {A : Type 0} (of : Option Row → Option A) (r : Row) (rest : Option Row) (b c : Bool) → is_some (of (Some r)) ≡ true
    → is_some (of rest) ≡ c → is_some (of (cond b (Some r) rest)) ≡ (b || c)
found_or of r rest true c there others = there
found_or of r rest false c there others = others
