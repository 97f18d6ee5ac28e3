-- The keys that rows have beside their intersection: their cells, how they compare, and the first and the last of them.
use Rattle.std.proofs.Common.{◌≡◌, ℕ, pos, true, false, List, [], ◌∷◌, Ordering, nat_cmp, refl, sym, ◌∙◌, arith}
use Rattle.std.proofs.lemmas.{Bool.Decides.nat_tests, Map.Lookups.CmpEqualImpliesEq, Map.Lookups.exact_pairs, Map.Lookups.exact_unsigned}
use Rattle.std.specs.{Int.IsInRange, Ordering.is_le, Ordering.is_lt, Ordering.ordering_then, declared.cmp.Ordering.TheVariants.Equal}
use Rattle.signal_records.specs.{Key.kind_of, Key.first_of, Key.second_of, Key.key_cmp, KeyOrder.key_exact, Within.IsKeyWithin, Within.current_limits, declared.key.Key.Key, declared.key.Key.TheVariants.Phase, declared.key.Key.TheVariants.Pattern}
use Rattle.office_tables_shelf.specs.Cells.{Cell, number, cell_cmp, cells_cmp}
use Rattle.office_tables_shelf.proofs.TreeLemmas.{number_order, ranged_cmp, then_last}

-- the cells of keys, their limits, and the first and the last of them
pub record Keys (K : Type 0) : Type 1 where
  pub cells : K → List Cell
  pub is_key : K → Type 0
  pub first : K
  pub last : K

-- the cells are ordered as the keys are, which tie only where they are equal, and keys within their limits lie from the
-- first to the last
pub record AreKeyLaws {K : Type 0} (R : K → K → Ordering) (keys : Keys K) : Type 0 where
  pub ordered : (a b : K) → cells_cmp (keys.cells a) (keys.cells b) ≡ R a b
  pub exact : CmpEqualImpliesEq R
  pub from_first : (k : K) → keys.is_key k → is_le (R keys.first k) ≡ true
  pub to_last : (k : K) → keys.is_key k → is_lt (R keys.last k) ≡ false
  pub last_is_key : keys.is_key keys.last

-- the last or only number of a key is ordered as a number of a range
pub last_order : (a b : ℕ) → cells_cmp (number (pos a) ∷ []) (number (pos b) ∷ []) ≡ ranged_cmp a b
last_order a b i = ordering_then (number_order a b i) Equal

-- another number is ordered so too
pub ranged_order : (a b : ℕ) → cell_cmp (number (pos a)) (number (pos b)) ≡ ranged_cmp a b
ranged_order a b = number_order a b ∙ sym (then_last (nat_cmp a b))

-- numbers of a range tie only where they are equal
pub number_exact : CmpEqualImpliesEq ranged_cmp
number_exact a b tie = exact_unsigned a b (sym (then_last (nat_cmp a b)) ∙ tie)

-- a number, and another part beside it
abbrev pub beside : {K : Type 0} → (K → K → Ordering) → ℕ × K → ℕ × K → Ordering
beside R a b = ordering_then (ranged_cmp a.0 b.0) (R a.1 b.1)

-- keys of a plan: kind and two numbers, from phase 1 to pattern 48
abbrev pub plan_keys : Keys Key
plan_keys = record {
  cells = λ key. number (pos (kind_of key)) ∷ number (pos (first_of key)) ∷ number (pos (second_of key)) ∷ [];
  is_key = IsKeyWithin current_limits;
  first = Phase 1;
  last = Pattern 48;
}

first_key : (key : Key) → IsKeyWithin current_limits key → is_le (key_cmp (Phase 1) key) ≡ true
first_key (Phase p) h = grind (arith, nat_tests)
first_key _ h = refl

last_key : (key : Key) → IsKeyWithin current_limits key → is_lt (key_cmp (Pattern 48) key) ≡ false
last_key (Pattern n) h = grind (arith, nat_tests)
last_key _ h = refl

-- keys of a plan do so
pub plan_laws : AreKeyLaws key_cmp plan_keys
plan_laws = record {
  ordered = λ a b i. ordering_then (number_order (kind_of a) (kind_of b) i)
      (ordering_then (number_order (first_of a) (first_of b) i)
      ((then_last _ ∙ number_order (second_of a) (second_of b)) i));
  exact = key_exact;
  from_first = first_key;
  to_last = last_key;
  last_is_key = (omega arith, omega arith);
}

-- numbers of inspections and of orders: 1 to 999,999
abbrev pub record_keys : Keys ℕ
record_keys = record {
  cells = λ n. number (pos n) ∷ [];
  is_key = IsInRange 1 999_999;
  first = 1;
  last = 999_999;
}

-- numbers of inspections and of orders do so
pub record_laws : AreKeyLaws ranged_cmp record_keys
record_laws = record {
  ordered = last_order;
  exact = number_exact;
  from_first = λ n h. grind (arith, nat_tests);
  to_last = λ n h. grind (arith, nat_tests);
  last_is_key = (omega arith, omega arith);
}

-- numbers of orders with lines: line 1 of order 1 to line 99 of order 999,999
abbrev pub line_keys : Keys (ℕ × ℕ)
line_keys = record {
  cells = λ k. number (pos k.0) ∷ number (pos k.1) ∷ [];
  is_key = λ k. IsInRange 1 999_999 k.0 × IsInRange 1 99 k.1;
  first = (1, 1);
  last = (999_999, 99);
}

-- numbers of orders with lines do so
pub line_laws : AreKeyLaws (beside ranged_cmp) line_keys
line_laws = record {
  ordered = λ a b i. ordering_then (ranged_order a.0 b.0 i) (last_order a.1 b.1 i);
  exact = exact_pairs ranged_cmp ranged_cmp number_exact number_exact;
  from_first = λ k h. grind (arith, nat_tests);
  to_last = λ k h. grind (arith, nat_tests);
  last_is_key = ((omega arith, omega arith), (omega arith, omega arith));
}
