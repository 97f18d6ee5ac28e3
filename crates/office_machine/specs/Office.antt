-- What an office is, and when it is sound.
use Rattle.std.specs.Prelude.{◌≡◌, ℕ, ◌≤◌, List, [], Option, Some, None, IfSome}
use Rattle.std.specs.{Int.IsInRange, Ordering.nat_cmp, FinMap.FinMap, FinMap.get}
use Rattle.signal_values.specs.Words.{AreWords}
use Rattle.draft_core.specs.Transaction.{TimingSide}
pub use Rattle.draft_core.specs.Sound.{no_timing, Version, today, version_1, AreRecordsIn, AreRecords, IsSoundDraftIn, IsSoundDraft}
use Rattle.cabinet_core.specs.{Register.Register, Sound.IsSoundRegister}
use Rattle.signal_records.specs.declared.revision.TheConstants.{LAST_REVISION}

-- an intersection of the office: its name, the days from one inspection to the next, and its timing side
pub record Intersection : Type 0 where
  pub name : List ℕ
  pub interval : ℕ
  pub timing : TimingSide

-- an office: its intersections by number, and its cabinet register
pub record Office : Type 0 where
  pub intersections : FinMap nat_cmp Intersection
  pub register : Register

-- the timing side of an intersection; without an intersection, the side with nothing committed and no draft
abbrev pub side_of : Option Intersection → TimingSide
side_of None = no_timing
side_of (Some i) = i.timing

-- the timing side of the intersection with this number
abbrev pub side_at : Office → ℕ → TimingSide
side_at office id = side_of (get office.intersections id)

-- An intersection is sound by the limits and rules of a version of the tables: its name has at most 120 bytes, its interval
-- is 1 to 3650 days, its revision is at most 999,999, each row of its committed set is a record within the limits, the set
-- breaks no rule, and its draft, if there is one, is sound.
pub record IsSoundIntersectionIn (v : Version) (i : Intersection) : Type 0 where
  pub name : AreWords 120 i.name
  pub interval_low : 1 ≤ i.interval
  pub interval_high : i.interval ≤ 3650
  pub revision : i.timing.revision ≤ LAST_REVISION
  pub rows : AreRecordsIn v i.timing.committed
  pub no_violations : v.violations i.timing.committed ≡ []
  pub draft : IfSome i.timing.draft (IsSoundDraftIn v)

-- an intersection is sound by today's limits and rules
abbrev pub IsSoundIntersection : Intersection → Type 0
IsSoundIntersection = IsSoundIntersectionIn today

-- each intersection is sound and has a number of 1 to 9999, and the register is sound
pub record IsSoundIn (v : Version) (office : Office) : Type 0 where
  pub numbers : (id : ℕ) → IfSome (get office.intersections id) (λ _. IsInRange 1 9999 id)
  pub intersections : (id : ℕ) → IfSome (get office.intersections id) (IsSoundIntersectionIn v)
  pub register : IsSoundRegister office.register

-- an office is sound by today's limits and rules
abbrev pub IsSound : Office → Type 0
IsSound = IsSoundIn today
