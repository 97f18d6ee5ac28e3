-- How two timing sets differ.
use Rattle.std.specs.Prelude.{◌≡◌, ◌≢◌, List, map, Option, Some, None}
use Rattle.std.specs.FinMap.{find, get}
use Rattle.std.specs.List.Sorted.{IsStrictlySortedBy}
use Rattle.signal_records.specs.declared.key.Key.{Key}
use Rattle.signal_records.specs.declared.record.Row.{Row}
use Rattle.signal_records.specs.declared.record.Change.{Change}
use Rattle.signal_records.specs.declared.record.Change.TheVariants.{Put, Remove}
use Rattle.signal_records.specs.Key.{key_cmp}
use Rattle.signal_records.specs.Row.{key_of}
use Rattle.signal_records.specs.TimingSet.{Rows}
use Rattle.signal_plans.specs.declared.difference.Difference.{Difference}
use Rattle.signal_plans.specs.declared.difference.Difference.TheVariants.{Added, Removed, Changed}

-- the key of a difference, at which the two sets differ
abbrev pub place_of : Difference → Key
place_of (Added row) = key_of row
place_of (Removed row) = key_of row
place_of (Changed before after) = key_of after

-- the change after which the first set has at the key of a difference what the second set has there
abbrev pub change_of : Difference → Change
change_of (Added row) = Put row
change_of (Removed row) = Remove (key_of row)
change_of (Changed before after) = Put after

-- the changes that turn the first set into the second, by their differences
abbrev pub difference_changes : List Difference → List Change
difference_changes differences = map change_of differences

-- the difference at a key, if there is one
abbrev pub difference_at : Key → List Difference → Option Difference
difference_at key differences = find key_cmp key (map (λ d. (place_of d, d)) differences)

-- a difference fits what two sets have under a key: none if both have the same row or no row, else one with the rows
-- that they have
abbrev pub Explains : Option Row → Option Row → Option Difference → Type 0
Explains first second None = first ≡ second
Explains first second (Some (Added row)) = (first ≡ None) × (second ≡ Some row)
Explains first second (Some (Removed row)) = (first ≡ Some row) × (second ≡ None)
Explains first second (Some (Changed before after)) =
    (first ≡ Some before) × (second ≡ Some after) × (before ≢ after)

-- at each key, the list has no difference if the sets have the same there, else one with what they have
abbrev pub EachKeyExplained : Rows → Rows → List Difference → Type 0
EachKeyExplained first second differences =
    (key : Key) → Explains (get first key) (get second key) (difference_at key differences)

-- The list has the differences of two sets, in the order of their keys, each with the rows that the sets have there.
-- Two sets have only one such list.
pub record AreTold (first second : Rows) (found : List Difference) : Type 0 where
  pub ascending : IsStrictlySortedBy key_cmp (map place_of found)
  pub explained : EachKeyExplained first second found
