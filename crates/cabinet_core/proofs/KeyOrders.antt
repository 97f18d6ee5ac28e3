-- The orders of the register's keys are total, only equal keys tie, and when they do.
use Rattle.std.proofs.Common.{◌≡◌, ℕ, ◌&&◌, ◌==◌, List, Ordering, nat_cmp, sym, ◌∙◌}
use Rattle.std.proofs.{lemmas.Bool.Decides.same_from_decides, lemmas.Bool.Decides.Decides-like, lemmas.Cmp.on_total, lemmas.Cmp.then_total, lemmas.Cmp.nat_cmp_total, lemmas.Cmp.nat_list_cmp_total, lemmas.Map.Lookups.exact_pairs, lemmas.Map.Text.is_eq-slice_cmp, lemmas.Slice.Eq.bytes_eq-Decides}
use Rattle.std.specs.{Cmp.IsTotalOrder, Cmp.Lexicographic.slice_cmp, Ordering.eq_by_cmp, FinMap.IsAntisymmetric, FinMap.nat_cmp-IsAntisymmetric, FinMap.slice_cmp-IsAntisymmetric, Str.bytes_eq}
use Rattle.cabinet_core.specs.Register.{pair_cmp, record_cmp, line_cmp, delivery_cmp}
pub use Rattle.signal_values.proofs.Ties.{numbers_tie, then_ties}

pairs_total : {A B : Type 0} {P : A → A → Ordering} {Q : B → B → Ordering} → IsTotalOrder P → IsTotalOrder Q → IsTotalOrder (pair_cmp P Q)
pairs_total {A} {B} first second = then_total (on_total (λ (p : A × B). p.0) first) (on_total (λ (p : A × B). p.1) second)

pub record_total : IsTotalOrder record_cmp
record_total = pairs_total nat_cmp_total nat_cmp_total

pub record_exact : IsAntisymmetric record_cmp
record_exact = exact_pairs nat_cmp nat_cmp nat_cmp-IsAntisymmetric nat_cmp-IsAntisymmetric

pub line_total : IsTotalOrder line_cmp
line_total = pairs_total nat_cmp_total record_total

pub line_exact : IsAntisymmetric line_cmp
line_exact = exact_pairs nat_cmp record_cmp nat_cmp-IsAntisymmetric record_exact

pub delivery_total : IsTotalOrder delivery_cmp
delivery_total = pairs_total nat_list_cmp_total nat_cmp_total

pub delivery_exact : IsAntisymmetric delivery_cmp
delivery_exact = exact_pairs _ nat_cmp (slice_cmp-IsAntisymmetric nat_cmp-IsAntisymmetric) nat_cmp-IsAntisymmetric

-- ---- ties

-- the keys of two numbers on intersections
pub record_ties : (id n of m : ℕ) → eq_by_cmp record_cmp (id, n) (of, m) ≡ (of == id && m == n)
record_ties id n of m = then_ties (nat_cmp id of) (nat_cmp n m) ∙ (λ i. numbers_tie id of i && numbers_tie n m i)

-- of lines
pub line_ties : (id order line of m n : ℕ) → eq_by_cmp line_cmp (id, (order, line)) (of, (m, n)) ≡ (of == id && (m == order && n == line))
line_ties id order line of m n = then_ties (nat_cmp id of) (record_cmp (order, line) (m, n)) ∙ (λ i. numbers_tie id of i && record_ties order line m n i)

-- of the codes of parts
pub codes_tie : (a b : List ℕ) → eq_by_cmp (slice_cmp nat_cmp) a b ≡ bytes_eq b a
codes_tie a b = is_eq-slice_cmp a b ∙ same_from_decides (bytes_eq a b) (bytes_eq b a) (bytes_eq-Decides a b) (Decides-like (bytes_eq b a) sym sym (bytes_eq-Decides b a))

-- of deliveries
pub delivery_ties : (code : List ℕ) (n : ℕ) (part : List ℕ) (m : ℕ) → eq_by_cmp delivery_cmp (code, n) (part, m) ≡ (bytes_eq part code && m == n)
delivery_ties code n part m = then_ties (slice_cmp nat_cmp code part) (nat_cmp n m) ∙ (λ i. codes_tie code part i && numbers_tie n m i)
