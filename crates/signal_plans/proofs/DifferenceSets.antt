-- The differences of the rows of two sets are those of the sets.
use Rattle.std.proofs.Common.{◌≡◌, Bool, true, false, cond, T, List, [], ◌∷◌, Option, Some, None, Result, Ok, Err, map, refl, sym, ap, subst, ◌∙◌}
use Rattle.std.specs.Prelude.{IfOk}
use Rattle.std.specs.{Ordering.is_lt, Ordering.eq_by_cmp, List.AllByRecursion, List.Sorted.IsStrictlySortedBy, declared.cmp.Ordering.TheVariants.Less, FinMap.find, FinMap.get, FinMap.entries, FinMap.entries_sorted, FinMap.values, FinMap.get-entries, FinMap.get-insert, FinMap.get-remove, FinMap.same_map, FinMap.Entries.below_all}
use Rattle.std.specs.FinMap.Entries.{is_sorted}
use Rattle.signal_records.specs.{declared.key.Key.Key, declared.record.Row.Row, Key.key_cmp, KeyOrder.key_total, KeyOrder.key_exact, Row.key_of, TimingSet.Rows, TimingSet.AreKeyed, TimingSet.after_change, TimingSet.after_changes}
use Rattle.signal_plans.specs.{declared.difference.Difference.Difference, declared.difference.Difference.TheVariants.Added}
use Rattle.signal_plans.specs.declared.difference.Difference.TheVariants.{Removed, Changed}
use Rattle.signal_plans.specs.Difference.{place_of, change_of, difference_changes, difference_at, AreTold, Explains}
use Rattle.signal_plans.specs.Merging.{under_keys, KeysAscend, AreDifferences}
use Rattle.signal_records.proofs.Sets.{keyed_values}
use Rattle.signal_values.proofs.Ties.{is_less, parts}
use Rattle.signal_plans.proofs.DifferenceSteps.{found_nowhere}

-- the rows of a set, in the order of their keys
pub record AreRowsOf (set : Rows) (rows : List Row) : Type 0 where
  pub are : rows ≡ values set
  pub stand : AreKeyed (entries set)

pub rows_of : {set : Rows} {rows shown : List Row} → shown ≡ rows → rows ≡ values set
    → AreKeyed (entries set) → AreRowsOf set shown
rows_of same are stand = record { are = same ∙ are; stand = stand }

keyed_rows : (set : Rows) (rows : List Row) → AreRowsOf set rows → under_keys key_of rows ≡ entries set
keyed_rows set rows of = ap (under_keys key_of) of.are ∙ keyed_values (entries set) of.stand

pub in_order : (set : Rows) (rows : List Row) → AreRowsOf set rows → KeysAscend rows
in_order set rows of = subst (λ es. T (is_sorted key_cmp es)) (sym (keyed_rows set rows of))
    (entries_sorted set)

found : (set : Rows) (rows : List Row) → AreRowsOf set rows → (q : Key)
    → find key_cmp q (under_keys key_of rows) ≡ get set q
found set rows of q = ap (find key_cmp q) (keyed_rows set rows of) ∙ sym (get-entries set q)

-- the keys of the differences ascend
below_each : (k : Key) (ds : List Difference) → T (below_all key_cmp k (under_keys place_of ds))
    → AllByRecursion (λ j. key_cmp k j ≡ Less) (map place_of ds)
below_each k [] h = tt
below_each k (d ∷ ds) h =
    let each = parts (is_lt (key_cmp k (place_of d))) _ h in
    (is_less _ each.0, below_each k ds each.1)

ascend : (ds : List Difference) → T (is_sorted key_cmp (under_keys place_of ds))
    → IsStrictlySortedBy key_cmp (map place_of ds)
unfolding IsStrictlySortedBy
ascend [] h = tt
ascend (d ∷ ds) h =
    let each = parts (below_all key_cmp (place_of d) (under_keys place_of ds)) _ h in
    (below_each (place_of d) ds each.0, ascend ds each.1)

-- what a key has after its difference was made
abbrev made : Option Difference → Option Row → Option Row
made None there = there
made (Some (Added row)) there = Some row
made (Some (Removed row)) there = None
made (Some (Changed before after)) there = Some after

made_told : (first second : Option Row) (told : Option Difference) → Explains first second told
    → made told first ≡ second
made_told first second None h = h
made_told first second (Some (Added row)) h = sym h.1
made_told first second (Some _) h = sym h.1

after_one : (set : Rows) (d : Difference) (q : Key)
    → get (after_change set (change_of d)) q ≡ cond (eq_by_cmp key_cmp q (place_of d))
    (made (Some d) (get set q)) (get set q)
after_one set (Added row) q = get-insert key_total set (key_of row) row q
after_one set (Removed row) q = get-remove key_total set (key_of row) q
after_one set (Changed before after) q = get-insert key_total set (key_of after) after q

first_or_last : (t : Bool) (d : Difference) (later : Option Difference) (there : Option Row)
    → (t ≡ true → later ≡ None) → made later (cond t (made (Some d) there) there)
    ≡ made (cond t (Some d) later) there
first_or_last true (Added row) later there none = rw (none refl) refl
first_or_last false d later there none = refl
first_or_last true _ later there none = rw (none refl) refl

made_all : (set : Rows) (ds : List Difference) (q : Key) → T (is_sorted key_cmp (under_keys place_of ds))
    → get (after_changes set (difference_changes ds)) q ≡ made (difference_at q ds) (get set q)
made_all set [] q sorted = refl
made_all set (d ∷ ds) q sorted =
    let each = parts (below_all key_cmp (place_of d) (under_keys place_of ds)) _ sorted in
    made_all (after_change set (change_of d)) ds q each.1
    ∙ ap (made (difference_at q ds)) (after_one set d q)
    ∙ first_or_last (eq_by_cmp key_cmp q (place_of d)) d (difference_at q ds) (get set q)
    (λ e. found_nowhere q (place_of d) (under_keys place_of ds) e each.0)

module _ (first second : Rows) (before after : List Row) (of_first : AreRowsOf first before)
    (of_second : AreRowsOf second after) (ds : List Difference)
    (are : AreDifferences before after ds) where
  explained : (q : Key) → Explains (get first q) (get second q) (difference_at q ds)
  explained q = rw (← found first before of_first q, ← found second after of_second q)
      (are.explained q)

  makes : after_changes first (difference_changes ds) ≡ second
  makes = same_map key_total key_exact _ _ (λ q. made_all first ds q are.sorted
      ∙ made_told _ _ (difference_at q ds) (explained q))

-- the laws of a result
module _ {V E : Type 0} (items : V → List Difference) (first second : Rows)
    (before after : List Row) (of_first : AreRowsOf first before)
    (of_second : AreRowsOf second after) where
  abbrev Compared : Result V E → Type 0
  Compared result = IfOk result (λ v. AreDifferences before after (items v))

  pub given_told : (result : Result V E) → Compared result
      → IfOk result (λ v. AreTold first second (items v))
  given_told (Ok v) are = record {
    ascending = ascend (items v) are.sorted;
    explained = explained first second before after of_first of_second (items v) are;
  }
  given_told (Err e) are = tt

  pub given_makes : (result : Result V E) → Compared result
      → IfOk result (λ v. after_changes first (difference_changes (items v)) ≡ second)
  given_makes (Ok v) are = makes first second before after of_first of_second (items v) are
  given_makes (Err e) are = tt
