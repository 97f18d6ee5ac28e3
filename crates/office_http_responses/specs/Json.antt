-- JSON trees of numbers, texts, lists and objects.
use Rattle.std.specs.Prelude.{ℕ, List, [], ◌∷◌, map, Option, Some, None}
use Rattle.serde_json.specs.Data.{Data, null, number, string, array, object, unsigned, Members, no_members, member}
use Rattle.serde_json.specs.View.{items_of}

-- a number as a JSON tree
abbrev pub count : ℕ → Data
count n = number (unsigned n)

-- a text as a JSON tree
abbrev pub text : List ℕ → Data
text bytes = string bytes

-- a value, or null where there is none
abbrev pub or_null : {A : Type 0} → (A → Data) → Option A → Data
or_null tree None = null
or_null tree (Some x) = tree x

-- an array of the trees of a list
abbrev pub array_of : {A : Type 0} → (A → Data) → List A → Data
array_of tree xs = array (items_of (map tree xs))

-- the members of an object, by key and value, in the order of the list
abbrev pub members : List (List ℕ × Data) → Members
members [] = no_members
members (entry ∷ rest) = member entry.0 entry.1 (members rest)

-- an object of these keys, which are in ascending order
abbrev pub keys : List (List ℕ × Data) → Data
keys entries = object (members entries)
