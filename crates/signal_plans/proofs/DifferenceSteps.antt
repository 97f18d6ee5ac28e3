-- A row before all others, or two of one key, and the differences of the rows after them.
use Rattle.std.proofs.Common.{◌≡◌, ◌≢◌, Bool, true, false, cond, T, List, [], ◌∷◌, ◌++◌, Option, Some, None, get_or, drop, refl, sym, ap, subst, ◌∙◌, append_assoc, append-nil, inl, inr}
use Rattle.std.specs.{declared.cmp.Ordering.Ordering, declared.cmp.Ordering.TheVariants.Less, declared.cmp.Ordering.TheVariants.Equal, declared.cmp.Ordering.TheVariants.Greater, Ordering.is_lt, Ordering.is_eq, Ordering.ordering_reverse, FinMap.find}
use Rattle.std.specs.FinMap.Entries.{below_all}
use Rattle.signal_records.specs.{declared.key.Key.Key, declared.record.Row.Row, Key.key_cmp, KeyOrder.key_total, KeyOrder.key_exact}
use Rattle.signal_records.specs.Row.{key_of}
use Rattle.signal_records.proofs.Sets.{not_found}
use Rattle.signal_values.proofs.Ties.{both, is_less, parts, tied}
use Rattle.signal_plans.specs.{declared.difference.Difference.Difference, declared.difference.Difference.TheVariants.Added, Difference.difference_at, Difference.Explains, Difference.place_of, Merging.under_keys, Merging.KeysAscend}
use Rattle.signal_plans.specs.declared.difference.Difference.TheVariants.{Removed, Changed}
use Rattle.signal_plans.specs.Merging.{AreDifferences, TellsChange, next_order}

pub less : (o : Ordering) → o ≡ Less → T (is_lt o)
less o e = subst (λ p. T (is_lt p)) (sym e) tt

-- a key below another is below all that the other is below
pub below_further : {X : Type 0} (k j : Key) (es : List (Key × X)) → key_cmp k j ≡ Less
    → T (below_all key_cmp j es) → T (below_all key_cmp k es)
below_further k j [] low h = tt
below_further k j (e ∷ es) low h =
    let each = parts (is_lt (key_cmp j e.0)) (below_all key_cmp j es) h in
    both _ _ (less _ (key_total.trans k j e.0 low (is_less _ each.0)))
    (below_further k j es low each.1)

same_key : (q k : Key) → is_eq (key_cmp q k) ≡ true → q ≡ k
same_key q k e = key_exact q k (tied (key_cmp q k) e)

-- the same, where the key is given as another one
pub found_nowhere : {X : Type 0} (q k : Key) (es : List (Key × X)) → is_eq (key_cmp q k) ≡ true
    → T (below_all key_cmp k es) → find key_cmp q es ≡ None
found_nowhere q k es e low = ap (λ j. find key_cmp j es) (same_key q k e) ∙ not_found k es low

-- a row that only the first list has
explains_removed : (t : Bool) (row : Row) (first second : Option Row) (rest : Option Difference)
    → (t ≡ true → second ≡ None) → Explains first second rest
    → Explains (cond t (Some row) first) second (cond t (Some (Removed row)) rest)
explains_removed true row first second rest none told = (refl, none refl)
explains_removed false row first second rest none told = told

explains_added : (t : Bool) (row : Row) (first second : Option Row) (rest : Option Difference)
    → (t ≡ true → first ≡ None) → Explains first second rest
    → Explains first (cond t (Some row) second) (cond t (Some (Added row)) rest)
explains_added true row first second rest none told = (none refl, refl)
explains_added false row first second rest none told = told

explains_changed : (t : Bool) (before after : Row) (first second : Option Row)
    (rest : Option Difference) → before ≢ after → Explains first second rest
    → Explains (cond t (Some before) first) (cond t (Some after) second)
    (cond t (Some (Changed before after)) rest)
explains_changed true before after first second rest differ told = (refl, refl, differ)
explains_changed false before after first second rest differ told = told

explains_same : (t : Bool) (row : Row) (first second : Option Row) (rest : Option Difference)
    → (t ≡ true → rest ≡ None) → Explains first second rest
    → Explains (cond t (Some row) first) (cond t (Some row) second) rest
explains_same true row first second rest none told =
    subst (Explains (Some row) (Some row)) (sym (none refl)) refl
explains_same false row first second rest none told = told

pub nothing_left : AreDifferences [] [] []
nothing_left = record { sorted = tt; explained = λ key. refl; above = λ key one other. tt }

pub removed_first : (a : Row) (first second : List Row) (rest : List Difference)
    → KeysAscend (a ∷ first) → T (below_all key_cmp (key_of a) (under_keys key_of second))
    → AreDifferences first second rest → AreDifferences (a ∷ first) second (Removed a ∷ rest)
removed_first a first second rest order low are =
    let own = parts (below_all key_cmp (key_of a) (under_keys key_of first)) _ order in
    record {
      sorted = both _ _ (are.above (key_of a) own.0 low) are.sorted;
      explained = λ key. explains_removed (is_eq (key_cmp key (key_of a))) a _ _ _
          (λ e. found_nowhere key (key_of a) (under_keys key_of second) e low) (are.explained key);
      above = λ key one other. let here = parts (is_lt (key_cmp key (key_of a))) _ one in both _ _
          here.0 (are.above key here.1 other);
    }

pub added_first : (b : Row) (first second : List Row) (rest : List Difference)
    → KeysAscend (b ∷ second) → T (below_all key_cmp (key_of b) (under_keys key_of first))
    → AreDifferences first second rest → AreDifferences first (b ∷ second) (Added b ∷ rest)
added_first b first second rest order low are =
    let own = parts (below_all key_cmp (key_of b) (under_keys key_of second)) _ order in
    record {
      sorted = both _ _ (are.above (key_of b) low own.0) are.sorted;
      explained = λ key. explains_added (is_eq (key_cmp key (key_of b))) b _ _ _
          (λ e. found_nowhere key (key_of b) (under_keys key_of first) e low) (are.explained key);
      above = λ key one other. let here = parts (is_lt (key_cmp key (key_of b))) _ other in both _ _
          here.0 (are.above key one here.1);
    }

pub changed_first : (a b : Row) (first second : List Row) (rest : List Difference)
    → key_of a ≡ key_of b → a ≢ b → KeysAscend (a ∷ first) → KeysAscend (b ∷ second)
    → AreDifferences first second rest → AreDifferences (a ∷ first) (b ∷ second)
    (Changed a b ∷ rest)
changed_first a b first second rest same differ order_a order_b are =
    let own_a = parts (below_all key_cmp (key_of a) (under_keys key_of first)) _ order_a in
    let own_b = parts (below_all key_cmp (key_of b) (under_keys key_of second)) _ order_b in
    record {
      sorted = both _ _ (are.above (key_of b) (subst (λ k. T (below_all key_cmp k (under_keys key_of first)))
          same own_a.0) own_b.0) are.sorted;
      explained = λ key.
          subst (λ k. Explains (cond (is_eq (key_cmp key k)) (Some a)
          (find key_cmp key (under_keys key_of first))) (find key_cmp key (under_keys key_of (b ∷ second)))
          (difference_at key (Changed a b ∷ rest))) (sym same)
          (explains_changed (is_eq (key_cmp key (key_of b))) a b _ _ _ differ (are.explained key));
      above = λ key one other.
          let here_a = parts (is_lt (key_cmp key (key_of a))) _ one in
          let here_b = parts (is_lt (key_cmp key (key_of b))) _ other in
          both _ _ here_b.0 (are.above key here_a.1 here_b.1);
    }

pub same_first : (a : Row) (first second : List Row) (rest : List Difference)
    → KeysAscend (a ∷ first) → KeysAscend (a ∷ second) → AreDifferences first second rest
    → AreDifferences (a ∷ first) (a ∷ second) rest
same_first a first second rest order_a order_b are =
    let own_a = parts (below_all key_cmp (key_of a) (under_keys key_of first)) _ order_a in
    let own_b = parts (below_all key_cmp (key_of a) (under_keys key_of second)) _ order_b in
    record {
      sorted = are.sorted;
      explained = λ key. explains_same (is_eq (key_cmp key (key_of a))) a _ _ _
          (λ e. found_nowhere key (key_of a) (under_keys place_of rest) e (are.above (key_of a) own_a.0 own_b.0))
          (are.explained key);
      above = λ key one other.
          let here_a = parts (is_lt (key_cmp key (key_of a))) _ one in
          let here_b = parts (is_lt (key_cmp key (key_of a))) _ other in
          are.above key here_a.1 here_b.1;
    }

-- the rows after the first are in order
pub in_order_after : (rows next : List Row) → next ≡ drop 1 rows → KeysAscend rows → KeysAscend next
in_order_after [] next is order = subst KeysAscend (sym is) tt
in_order_after (r ∷ rows) next is order =
    subst KeysAscend (sym is) (parts (below_all key_cmp (key_of r) (under_keys key_of rows)) _ order).1

some_same : (o p : Ordering) → Some o ≡ Some p → o ≡ p
some_same o p e = cc

-- what is left, and what comes before it
abbrev Continues : List Row → List Row → List Row → List Row → List Difference → Type 0
Continues whole_first whole_second first second old =
    (rest : List Difference) → AreDifferences first second rest
    → AreDifferences whole_first whole_second (old ++ rest)

module _ (whole_first whole_second : List Row) where
  pub after_less : (first second next : List Row) (row copy : Row) (old new : List Difference)
      → next_order first second ≡ Some Less → KeysAscend first → KeysAscend second
      → row ≡ get_or first 0 row → copy ≡ row → next ≡ drop 1 first → new ≡ old ++ Removed copy ∷ []
      → Continues whole_first whole_second first second old
      → Continues whole_first whole_second next second new
  after_less [] [] next row copy old new lt = absurd cc
  after_less [] (b ∷ second) next row copy old new lt = absurd cc
  after_less (a ∷ first) [] next row copy old new lt =
      λ order_a order_b at same after pushed so_far rest are.
      let one : copy ≡ a = same ∙ at in
      rw (pushed, append_assoc, one) (so_far (Removed a ∷ rest)
      (removed_first a first [] rest order_a tt
      (subst (λ n. AreDifferences n [] rest) after are)))
  after_less (a ∷ first) (b ∷ second) next row copy old new lt =
      λ order_a order_b at same after pushed so_far rest are.
      let one : copy ≡ a = same ∙ at in
      let lower : key_cmp (key_of a) (key_of b) ≡ Less = some_same _ _ lt in
      let low = both _ _ (less _ lower) (below_further (key_of a) (key_of b) (under_keys key_of second) lower
      (parts (below_all key_cmp (key_of b) (under_keys key_of second)) _ order_b).0) in
      rw (pushed, append_assoc, one) (so_far (Removed a ∷ rest)
      (removed_first a first (b ∷ second) rest order_a low
      (subst (λ n. AreDifferences n (b ∷ second) rest) after are)))

  pub after_greater : (first second next : List Row) (row copy : Row) (old new : List Difference)
      → next_order first second ≡ Some Greater → KeysAscend first → KeysAscend second
      → row ≡ get_or second 0 row → copy ≡ row → next ≡ drop 1 second → new ≡ old ++ Added copy ∷ []
      → Continues whole_first whole_second first second old
      → Continues whole_first whole_second first next new
  after_greater [] [] next row copy old new greater = absurd cc
  after_greater (a ∷ first) [] next row copy old new greater = absurd cc
  after_greater [] (b ∷ second) next row copy old new greater =
      λ order_a order_b at same after pushed so_far rest are.
      let one : copy ≡ b = same ∙ at in
      rw (pushed, append_assoc, one) (so_far (Added b ∷ rest)
      (added_first b [] second rest order_b tt
      (subst (λ n. AreDifferences [] n rest) after are)))
  after_greater (a ∷ first) (b ∷ second) next row copy old new greater =
      λ order_a order_b at same after pushed so_far rest are.
      let one : copy ≡ b = same ∙ at in
      let lower : key_cmp (key_of b) (key_of a) ≡ Less =
      key_total.antisymm (key_of b) (key_of a) ∙ ap ordering_reverse (some_same _ _ greater) in
      let low = both _ _ (less _ lower) (below_further (key_of b) (key_of a) (under_keys key_of first) lower
      (parts (below_all key_cmp (key_of a) (under_keys key_of first)) _ order_a).0) in
      rw (pushed, append_assoc, one) (so_far (Added b ∷ rest)
      (added_first b (a ∷ first) second rest order_b low
      (subst (λ n. AreDifferences (a ∷ first) n rest) after are)))

  pub after_equal : (first second next_first next_second : List Row) (a b : Row)
      (old new : List Difference) → next_order first second ≡ Some Equal → KeysAscend first
      → KeysAscend second → a ≡ get_or first 0 a → b ≡ get_or second 0 b → next_first ≡ drop 1 first
      → next_second ≡ drop 1 second → TellsChange a b old new
      → Continues whole_first whole_second first second old
      → Continues whole_first whole_second next_first next_second new
  after_equal [] [] nf ns a b old new equal = absurd cc
  after_equal [] (y ∷ second) nf ns a b old new equal = absurd cc
  after_equal (x ∷ first) [] nf ns a b old new equal = absurd cc
  after_equal (x ∷ first) (y ∷ second) nf ns a b old new equal =
      λ order_a order_b at_a at_b after_a after_b told so_far rest are.
      let left : AreDifferences first second rest = rw (← after_a, ← after_b) are in
      elim told [
        | inl same ↦
            let one : x ≡ y = sym at_a ∙ same.0 ∙ at_b in
            rw same.1 (so_far rest (subst (λ z. AreDifferences (x ∷ first) (z ∷ second) rest) one
            (same_first x first second rest order_a
            (subst (λ z. KeysAscend (z ∷ second)) (sym one) order_b) left)))
        | inr differ ↦
            let other : x ≢ y = λ e. differ.0 (at_a ∙ e ∙ sym at_b) in
            let key : key_of x ≡ key_of y = key_exact (key_of x) (key_of y) (some_same _ _ equal) in
            rw (differ.1, append_assoc, at_a, at_b)
            (so_far (Changed x y ∷ rest) (changed_first x y first second rest key other order_a
            order_b left))
      ]

  -- where no row is left
  pub at_the_end : (first second : List Row) (old : List Difference)
      → next_order first second ≡ None → Continues whole_first whole_second first second old
      → AreDifferences whole_first whole_second old
  at_the_end [] [] old none so_far = subst (AreDifferences whole_first whole_second)
      (append-nil old) (so_far [] nothing_left)
  at_the_end (a ∷ first) [] old none so_far = cc
  at_the_end _ _ old none so_far = cc
