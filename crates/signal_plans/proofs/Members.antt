-- What tests of whole lists tell of their members.
use Rattle.std.proofs.Common.{◌≡◌, ◌≢◌, ℕ, Bool, true, eqb, List, [], ◌∷◌, ◌++◌, length, map, get_or, is_some, Option, Some, None, ◌⊎◌, inl, inr, refl, sym, ap, ◌∙◌, arith}
use Rattle.std.proofs.lemmas.Bool.{false≢true, and_parts, and_from, or_cases, eqb-true}
use Rattle.std.proofs.lemmas.List.Folds.{list_all-append, list_all-map}
use Rattle.std.specs.List.{list_all}
use Rattle.signal_records.specs.TimingSet.{Rows}
use Rattle.signal_rules.specs.Lookup.{is_in, lists}
use Rattle.signal_rules.proofs.Among.{all_at}
use Rattle.signal_rules.specs.Lanes.{list_each_other, all_list_each_other, phases_at}

-- a test of all members, at one in the middle
pub all_middle : (T : ℕ → Bool) (before after : List ℕ) (p : ℕ) → list_all T (before ++ p ∷ after) ≡ true → T p ≡ true
all_middle T before after p all =
    let parts : (list_all T before ≡ true) × (list_all T (p ∷ after) ≡ true) = and_parts (list_all T before) (list_all T (p ∷ after)) (sym (list_all-append T before (p ∷ after)) ∙ all) in
    (and_parts (T p) (list_all T after) parts.1).0

pub some_value : {A : Type 0} (o : Option A) → is_some o ≡ true → (x : A) × (o ≡ Some x)
some_value None is = absurd (false≢true is)
some_value (Some x) is = (x, refl)

-- a list whose length is 0 has no items
pub no_items : {A : Type 0} (xs : List A) (n : ℕ) → n ≡ length xs → n ≡ 0 → xs ≡ []
no_items [] n e none = λ _. []
no_items (x ∷ xs) n e none = absurd (omega arith)

-- the phases of lanes at a second, where any two of them list each other
module _ (set : Rows) (lane_of : ℕ → List ℕ) (second : ℕ) where
  abbrev there : ℕ → ℕ
  there ring = get_or (lane_of ring) second 0

  lane_at : (T : ℕ → Bool) (rings : List ℕ) (ring : ℕ) → list_all T (phases_at (map lane_of rings) second) ≡ true → is_in ring rings ≡ true → T (there ring) ≡ true
  lane_at T rings ring all among =
      let each = list_all-map T (λ (l : List ℕ). get_or l second 0) (map lane_of rings)
      ∙ list_all-map (λ (l : List ℕ). T (get_or l second 0)) lane_of rings in
      all_at (λ r. T (there r)) rings ring (sym each ∙ all) among

  flipped : (p q : ℕ) → list_each_other set p q ≡ true → list_each_other set q p ≡ true
  flipped p q h = let parts : (lists set p q ≡ true) × (lists set q p ≡ true) = and_parts (lists set p q) (lists set q p) h in and_from (lists set q p) (lists set p q) parts.1 parts.0

  pub pair_at : (rings : List ℕ) (r s : ℕ) → all_list_each_other set (phases_at (map lane_of rings) second) ≡ true → is_in r rings ≡ true → is_in s rings ≡ true → r ≢ s → list_each_other set (there r) (there s) ≡ true
  pair_at [] r s all first second_one apart = absurd (false≢true first)
  pair_at (x ∷ rings) r s all first second_one apart =
      let parts : (list_all (list_each_other set (there x)) (phases_at (map lane_of rings) second) ≡ true) × (all_list_each_other set (phases_at (map lane_of rings) second) ≡ true) = and_parts (list_all (list_each_other set (there x)) (phases_at (map lane_of rings) second)) (all_list_each_other set (phases_at (map lane_of rings) second)) all in
      by_places (or_cases (eqb x r) (is_in r rings) first) (or_cases (eqb x s) (is_in s rings) second_one) (lane_at (list_each_other set (there x)) rings r parts.0) (lane_at (list_each_other set (there x)) rings s parts.0) (λ f g. pair_at rings r s parts.1 f g apart) where
        by_places : (eqb x r ≡ true) ⊎ (is_in r rings ≡ true) → (eqb x s ≡ true) ⊎ (is_in s rings ≡ true)
            → (is_in r rings ≡ true → list_each_other set (there x) (there r) ≡ true) → (is_in s rings ≡ true → list_each_other set (there x) (there s) ≡ true)
            → (is_in r rings ≡ true → is_in s rings ≡ true → list_each_other set (there r) (there s) ≡ true) → list_each_other set (there r) (there s) ≡ true
        by_places (inl e) (inl f) with_r with_s later = absurd (apart (sym (eqb-true x r e) ∙ eqb-true x s f))
        by_places (inl e) (inr g) with_r with_s later = ap (λ k. list_each_other set (there k) (there s)) (sym (eqb-true x r e)) ∙ with_s g
        by_places (inr f) (inl e) with_r with_s later = ap (λ k. list_each_other set (there r) (there k)) (sym (eqb-true x s e)) ∙ flipped (there x) (there r) (with_r f)
        by_places (inr f) (inr g) with_r with_s later = later f g
