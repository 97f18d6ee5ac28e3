-- What a map by the numbers of intersections has at a number.
use Rattle.std.proofs.Common.{◌≡◌, ℕ, ◌==◌, Bool, cond, List, Option, sym, ap, ◌∙◌, arith}
use Rattle.std.proofs.lemmas.{Bool.Decides.nat_tests}
use Rattle.std.specs.{BTreeMap.is_at, Map.lookup}
use Rattle.office_tables_shelf.proofs.TreeLemmas.{ranged_cmp}

-- a key of the map is the number, or is not
pub number_test : (n m : ℕ) → is_at (ranged_cmp n) m ≡ (m == n)
number_test n m = grind (arith, nat_tests)

pub at_number : {X : Type 0} (es : List (ℕ × X)) (n : ℕ)
    → lookup (is_at (ranged_cmp n)) es ≡ lookup (λ m. m == n) es
at_number es n = λ i. lookup (λ m. number_test n m i) es

through : {X Y : Type 0} (show : X → Y) (b : Bool) (x y : X)
    → show (cond b x y) ≡ cond b (show x) (show y)
through show b x y = grind arith

-- one that was put at a number, or taken from it, leaves what is shown of the others
pub shown_change : {X Y : Type 0} (show : Option X → Y) (es fs : List (ℕ × X)) (id : ℕ)
    (next : Option X) → ((n : ℕ) → lookup (is_at (ranged_cmp n)) fs
    ≡ cond (is_at (ranged_cmp id) n) next (lookup (is_at (ranged_cmp n)) es))
    → (n : ℕ) → show (lookup (λ m. m == n) fs)
    ≡ cond (n == id) (show next) (show (lookup (λ m. m == n) es))
shown_change show es fs id next updates n =
    ap show (sym (at_number fs n) ∙ updates n
    ∙ (λ i. cond (number_test id n i) next (at_number es n i))) ∙ through show (n == id) next _

-- what is put where something was taken stands in its place
pub in_its_place : {Y : Type 0} (b : Bool) (y none old : Y)
    → cond b y (cond b none old) ≡ cond b y old
in_its_place b y none old = grind arith
