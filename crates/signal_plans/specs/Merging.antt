-- How two lists of rows, each in the order of its keys, are walked side by side.
use Rattle.std.specs.Prelude.{◌≡◌, ◌≢◌, ◌⊎◌, T, List, [], ◌∷◌, ◌++◌, map, Option, Some, None}
use Rattle.std.specs.declared.cmp.Ordering.{Ordering}
use Rattle.std.specs.declared.cmp.Ordering.TheVariants.{Less, Greater}
use Rattle.std.specs.FinMap.{find}
use Rattle.std.specs.FinMap.Entries.{below_all, is_sorted}
use Rattle.signal_records.specs.declared.key.Key.{Key}
use Rattle.signal_records.specs.declared.record.Row.{Row}
use Rattle.signal_records.specs.Key.{key_cmp}
use Rattle.signal_records.specs.Row.{key_of}
use Rattle.signal_plans.specs.declared.difference.Difference.{Difference}
use Rattle.signal_plans.specs.declared.difference.Difference.TheVariants.{Changed}
use Rattle.signal_plans.specs.Difference.{place_of, difference_at, Explains}

-- each of some values with its key, in their order
abbrev pub under_keys : {X : Type 0} → (X → Key) → List X → List (Key × X)
under_keys key xs = map (λ x. (key x, x)) xs

-- the keys of the rows ascend
abbrev pub KeysAscend : List Row → Type 0
KeysAscend rows = T (is_sorted key_cmp (under_keys key_of rows))

-- how the keys of the first rows of two lists compare; a list without a row comes last, and if neither has one there
-- is no answer
abbrev pub next_order : List Row → List Row → Option Ordering
next_order [] [] = None
next_order [] (b ∷ second) = Some Greater
next_order (a ∷ first) [] = Some Less
next_order (a ∷ first) (b ∷ second) = Some (key_cmp (key_of a) (key_of b))

-- the differences of two lists of rows, in the order of their keys
pub record AreDifferences (first second : List Row) (differences : List Difference) : Type 0 where
  pub sorted : T (is_sorted key_cmp (under_keys place_of differences))
  pub explained : (key : Key) →
      Explains (find key_cmp key (under_keys key_of first)) (find key_cmp key (under_keys key_of second))
      (difference_at key differences)
  pub above : (key : Key) → T (below_all key_cmp key (under_keys key_of first))
      → T (below_all key_cmp key (under_keys key_of second)) → T (below_all key_cmp key (under_keys place_of differences))

-- the list of differences grew by the change from one row of a key to another if the rows differ, else it is as it
-- was
abbrev pub TellsChange : Row → Row → List Difference → List Difference → Type 0
TellsChange before after old new =
    ((before ≡ after) × (new ≡ old)) ⊎ ((before ≢ after) × (new ≡ old ++ Changed before after ∷ []))
