-- What the loops over a head's fields keep.
use Rattle.std.proofs.Common.{◌≡◌, ℕ, ◌<◌, ◌+◌, Bool, true, false, cond, ◌||◌, ltb, List, [], ◌∷◌, map, length, get_or, take, drop, Some, None, refl, sym, ap, ◌∙◌, arith}
use Rattle.std.specs.Prelude.{Option, Result, Err, unwrap_or, is_some, filter}
use Rattle.std.specs.List.{list_any, before_first, position_or_len}
use Rattle.std.proofs.lemmas.{List.take_all, List.drop_more, Bool.Decides.nat_tests}
use Rattle.office_http_framing.specs.declared.front.Fault.{Fault}
use Rattle.office_http_framing.specs.declared.front.Fault.TheVariants as fault
use Rattle.office_http_framing.specs.Fields.{Field, eq_ignore_case, is_named, values_named, length_of, length_among}

pub list_any-map : {X Y : Type 0} (p : Y → Bool) (f : X → Y) (xs : List X) → list_any p (map f xs) ≡ list_any (λ x. p (f x)) xs
list_any-map p f [] = refl
list_any-map p f (x ∷ xs) = ap (λ t. p (f x) || t) (list_any-map p f xs)

-- what `length_among` gives of all the values, from what the values so far gave and those that are left
abbrev pub length_from : Option (Result ℕ Fault) → List (List ℕ) → Result ℕ Fault
length_from None values = length_among values
length_from (Some outcome) [] = outcome
length_from (Some outcome) (value ∷ values) = Err fault.Length

-- the first value gives the outcome
pub length_from-first : (before : Option (Result ℕ Fault)) (outcome : Result ℕ Fault) (value : List ℕ) (all values : List (List ℕ))
    → is_some before ≡ false → all ≡ value ∷ values → outcome ≡ length_of value → length_from (Some outcome) values ≡ length_from before all
length_from-first None outcome value all [] none are is = is ∙ ap length_among (sym are)
length_from-first None outcome value all (second ∷ more) none are is = ap length_among (sym are)
length_from-first (Some earlier) outcome value all values none are is = cc

-- the first place that passes ends what is before it
pub before_first-found : (p : ℕ → Bool) (xs : List ℕ) (i : ℕ) → Some i ≡ cond (ltb (position_or_len p xs) (length xs)) (Some (position_or_len p xs)) None → take i xs ≡ before_first p xs
before_first-found p xs i found = by_test (ltb (position_or_len p xs) (length xs)) found
  where
    by_test : (b : Bool) → Some i ≡ cond b (Some (position_or_len p xs)) None → take i xs ≡ before_first p xs
    by_test true e = ap (λ o. take (unwrap_or o 0) xs) e
    by_test false e = cc

pub before_first-none : (p : ℕ → Bool) (xs : List ℕ) → None ≡ cond (ltb (position_or_len p xs) (length xs)) (Some (position_or_len p xs)) None → xs ≡ before_first p xs
before_first-none p xs none = sym (take_all (position_or_len p xs) xs (grind (arith, nat_tests)))

-- a second value is refused
pub length_from-second : (length : Option (Result ℕ Fault)) (value : List ℕ) (values : List (List ℕ)) → is_some length ≡ true → length_from length (value ∷ values) ≡ Err fault.Length
length_from-second None value values some = cc
length_from-second (Some outcome) value values some = refl

-- the values that are left at a field, by whether it has the name; show is what is seen of a field
module _ {X : Type 0} (show : X → Field) (name : List ℕ) (fields : List X) (i : ℕ) (d : X) (text : List ℕ) (inside : i < length fields) (is : text ≡ (show (get_or fields i d)).0) where
  pub values_named-here : eq_ignore_case text name ≡ true
      → values_named name (map show (drop i fields)) ≡ (show (get_or fields i d)).1 ∷ values_named name (map show (drop (i + 1) fields))
  values_named-here named =
      ap (λ fs. values_named name (map show fs)) (drop_more fields i d inside) ∙ by_test _ (ap (λ t. eq_ignore_case t name) (sym is) ∙ named)
    where
      by_test : (b : Bool) → b ≡ true → map (λ field. field.1) (cond b (show (get_or fields i d) ∷ filter (is_named name) (map show (drop (i + 1) fields))) (filter (is_named name) (map show (drop (i + 1) fields)))) ≡ (show (get_or fields i d)).1 ∷ values_named name (map show (drop (i + 1) fields))
      by_test true e = refl
      by_test false e = cc

  pub values_named-passed : eq_ignore_case text name ≡ false
      → values_named name (map show (drop i fields)) ≡ values_named name (map show (drop (i + 1) fields))
  values_named-passed other =
      ap (λ fs. values_named name (map show fs)) (drop_more fields i d inside) ∙ by_test _ (ap (λ t. eq_ignore_case t name) (sym is) ∙ other)
    where
      by_test : (b : Bool) → b ≡ false → map (λ field. field.1) (cond b (show (get_or fields i d) ∷ filter (is_named name) (map show (drop (i + 1) fields))) (filter (is_named name) (map show (drop (i + 1) fields)))) ≡ values_named name (map show (drop (i + 1) fields))
      by_test true e = cc
      by_test false e = refl
