-- What the order of keys says of their numbers.
use Rattle.std.proofs.Common.{◌≡◌, ℕ, ◌<◌, Bool, true, false, eqb, ◌&&◌, ◌⊎◌, inl, inr, refl, ap, ◌∙◌, arith}
use Rattle.std.proofs.lemmas.Bool.Decides.{nat_tests}
use Rattle.std.specs.{declared.cmp.Ordering.Ordering, FinMap.nat_cmp-IsAntisymmetric}
use Rattle.std.specs.declared.cmp.Ordering.TheVariants.{Less, Equal, Greater}
use Rattle.std.specs.Ordering.{nat_cmp, ordering_then, is_eq}
use Rattle.signal_values.proofs.Ties.{numbers_tie, then_ties}

pub number_less : (a b : ℕ) → nat_cmp a b ≡ Less → a < b
number_less a b e = grind (arith, nat_tests)

then_less : (r s : Ordering) → ordering_then r s ≡ Less → (r ≡ Less) ⊎ ((r ≡ Equal) × (s ≡ Less))
then_less Less s e = inl refl
then_less Equal s e = inr (refl, e)
then_less Greater s e = absurd (cc)

-- pairs, by their first number and then by what comes after it
pub pair_less : (a b : ℕ) (o : Ordering) → ordering_then (nat_cmp a b) o ≡ Less
    → (a < b) ⊎ ((a ≡ b) × (o ≡ Less))
pair_less a b o e =
    elim (then_less (nat_cmp a b) o e) [
      | inl below ↦ inl (number_less a b below)
      | inr level ↦ inr (nat_cmp-IsAntisymmetric a b level.0, level.1)
    ]

pub pair_tied : (a b : ℕ) (o : Ordering)
    → is_eq (ordering_then (nat_cmp a b) o) ≡ (eqb b a && is_eq o)
pair_tied a b o = then_ties (nat_cmp a b) o ∙ ap (λ t. t && is_eq o) (numbers_tie a b)

pub tied_alone : (a b : ℕ) → is_eq (ordering_then (nat_cmp a b) Equal) ≡ eqb b a
tied_alone a b = pair_tied a b Equal ∙ and_true (eqb b a) where
  and_true : (t : Bool) → (t && true) ≡ t
  and_true true = refl
  and_true false = refl
