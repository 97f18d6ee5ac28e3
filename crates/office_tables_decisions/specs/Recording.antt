-- What a decision on the register rests on: that the intersection is there.
use Rattle.std.specs.Prelude.{◌≡◌, ℕ, Bool, true, Option, Some, None, IsSomeAnd, is_some}
use Rattle.std.specs.{BTreeSet.BTreeSet, FinMap.get, List.All}
use Rattle.office_tables_shelf.specs.{Content.Content, Damage.HasDamagedIntersection, Rows.intersection_key}
use Rattle.office_machine.specs.{Office.Office, Step.is_known}
use Rattle.office_tables_decisions.specs.StandFor.{StandForSound}

-- this tells whether the intersection is there, or none is asked for, in whichever sound office the tables
-- stand for
abbrev pub IsKnownIn : Content → Option ℕ → Bool → Type 0
IsKnownIn tables about known = (office : Office) → StandForSound tables office → known ≡ is_known office about

-- an intersection is asked for, and its row is no record
abbrev pub HasDamagedAbout : Content → Option ℕ → Type 0
HasDamagedAbout tables about = IsSomeAnd about (HasDamagedIntersection tables)

-- this tells whether a row stands under the intersection's number; it is true where none is asked for
abbrev pub TellsAbout : Content → Option ℕ → Bool → Type 0
TellsAbout tables None known = known ≡ true
TellsAbout tables (Some id) known = known ≡ is_some (get tables.intersection (intersection_key id))

-- this tells whether the intersection is there, both in whichever sound office the tables stand for and by
-- its row
pub record TellsIntersection (tables : Content) (about : Option ℕ) (is_there : Bool) : Type 0 where
  pub known : IsKnownIn tables about is_there
  pub told : TellsAbout tables about is_there

-- each of these intersections is there
abbrev pub AreFound : Content → BTreeSet ℕ → Type 0
AreFound tables found = All (λ id. TellsIntersection tables (Some id) true) found.keys
