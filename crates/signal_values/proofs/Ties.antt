-- Two tests at once, and what an order of numbers tells.
use Rattle.std.proofs.Common.{◌≡◌, ℕ, eqb, arith, Bool, true, false, T, refl}
use Rattle.std.specs.{declared.cmp.Ordering.Ordering, declared.cmp.Ordering.TheVariants.Less, declared.cmp.Ordering.TheVariants.Equal, Ordering.is_lt, Ordering.is_eq, Ordering.nat_cmp, Ordering.ordering_then}
use Rattle.std.specs.Prelude.{◌&&◌}
use Rattle.std.proofs.lemmas.Bool.Decides.{nat_tests}

pub both : (a b : Bool) → T a → T b → T (a && b)
both true b p q = q
both false b p q = absurd p

pub parts : (a b : Bool) → T (a && b) → T a × T b
parts true b h = (tt, h)
parts false b h = absurd h

pub is_less : (o : Ordering) → T (is_lt o) → o ≡ Less
is_less Less h = refl
is_less _ h = absurd h

pub tied : (o : Ordering) → is_eq o ≡ true → o ≡ Equal
tied Equal h = refl
tied _ h = cc

pub then_ties : (r s : Ordering) → is_eq (ordering_then r s) ≡ (is_eq r && is_eq s)
then_ties Equal s = refl
then_ties _ s = refl

pub numbers_tie : (a b : ℕ) → is_eq (nat_cmp a b) ≡ eqb b a
numbers_tie a b = grind (arith, nat_tests)
