-- The first reason that is true.
use Rattle.std.proofs.Common.{◌≡◌, ℕ, zero, suc, ◌<◌, Bool, true, false, cond, not, ◌&&◌, List, [], ◌∷◌, ◌++◌, map, length, get_or, Option, Some, None, is_some, refl, sym, ap, ◌∙◌, arith}
use Rattle.std.proofs.lemmas.Option.{none-some}
use Rattle.std.specs.List.{flat_map, list_all}
use Rattle.signal_rules.specs.Cases.{Cases, first_true, holds, IsTrueIn}

-- a reason that is true shows that its rule does not hold
pub true_shows : {A : Type 0} (cs : Cases A) (why : A) → IsTrueIn cs why → is_some (first_true cs) ≡ true
true_shows cs why h = at_place cs h.0 h.1 h.2 where
  at_place : {A : Type 0} {why : A} (cs : Cases A) (i : ℕ) → i < length cs → get_or cs i (true, why) ≡ (true, why) → is_some (first_true cs) ≡ true
  at_place [] i lt e = absurd (omega arith)
  at_place ((true, x) ∷ cs) i lt e = refl
  at_place ((false, x) ∷ cs) zero lt e = ap (λ c. cond c.0 true (is_some (first_true cs))) e
  at_place ((false, x) ∷ cs) (suc i) lt e = at_place cs i (omega arith) e

-- ---- tables one after the other

pub first_past : {A : Type 0} (cs ds : Cases A) → first_true cs ≡ None → first_true (cs ++ ds) ≡ first_true ds
first_past [] ds e = refl
first_past ((true, x) ∷ cs) ds e = absurd (none-some x (sym e))
first_past ((false, x) ∷ cs) ds e = first_past cs ds e

pub first_here : {A : Type 0} (cs ds : Cases A) (why : A) → first_true cs ≡ Some why → first_true (cs ++ ds) ≡ Some why
first_here [] ds why e = absurd (none-some why e)
first_here ((true, x) ∷ cs) ds why e = e
first_here ((false, x) ∷ cs) ds why e = first_here cs ds why e

-- the tables of some items, of which the first is at hand
pub flat_here : {X A : Type 0} (f : X → Cases A) (items rest : List X) (x : X) (whole : Option A) (why : A) → items ≡ x ∷ rest → first_true (flat_map f items) ≡ whole → first_true (f x) ≡ Some why → Some why ≡ whole
flat_here f items rest x whole why e so_far h =
    sym (first_here (f x) (flat_map f rest) why h) ∙ ap (λ l. first_true (flat_map f l)) (sym e) ∙ so_far

pub flat_past : {X A : Type 0} (f : X → Cases A) (items rest : List X) (x : X) (whole : Option A) → items ≡ x ∷ rest → first_true (flat_map f items) ≡ whole → first_true (f x) ≡ None → first_true (flat_map f rest) ≡ whole
flat_past f items rest x whole e so_far h =
    sym (first_past (f x) (flat_map f rest) h) ∙ ap (λ l. first_true (flat_map f l)) (sym e) ∙ so_far

-- ---- rules of several parts

pub holds-append : {A : Type 0} (cs ds : Cases A) → holds (cs ++ ds) ≡ (holds cs && holds ds)
holds-append [] ds = refl
holds-append ((true, x) ∷ cs) ds = refl
holds-append ((false, x) ∷ cs) ds = holds-append cs ds

pub holds-flat_map : {X A : Type 0} (f : X → Cases A) (xs : List X) → holds (flat_map f xs) ≡ list_all (λ x. holds (f x)) xs
holds-flat_map f [] = refl
holds-flat_map f (x ∷ xs) = holds-append (f x) (flat_map f xs) ∙ ap (λ b. holds (f x) && b) (holds-flat_map f xs)

pub holds-cons : {A : Type 0} (b : Bool) (why : A) (cs : Cases A) → holds ((not b, why) ∷ cs) ≡ (b && holds cs)
holds-cons true why cs = refl
holds-cons false why cs = refl

pub holds-map : {X A : Type 0} (T : X → Bool) (why : X → A) (xs : List X) → holds (map (λ x. (not (T x), why x)) xs) ≡ list_all T xs
holds-map T why [] = refl
holds-map T why (x ∷ xs) = holds-cons (T x) (why x) (map (λ x. (not (T x), why x)) xs) ∙ ap (λ b. T x && b) (holds-map T why xs)

-- the test of a rule with one reason
pub test_holds : {A : Type 0} (b : Bool) (why : A) → holds ((not b, why) ∷ []) ≡ true → b ≡ true
test_holds true why h = refl
test_holds false why h = absurd (cc)
