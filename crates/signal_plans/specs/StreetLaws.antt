-- What a timing set without violations means on the street.
--
-- The laws speak of the plan as it is programmed: each phase times for all of its split, cycle after cycle. They
-- promise nothing about a phase that a controller ends early or skips because nobody calls it (modes 2 and 3), about
-- the change from one pattern to another, about a plan that is committed in the middle of a cycle, or about free
-- operation, which has no pattern and so no times. No rule looks at `max1` and `passage`.
use Rattle.std.specs.Prelude.{◌≡◌, ◌≢◌, ◌↔◌, ℕ, ◌+◌, ◌*◌, ◌<◌, ◌≤◌, max, Contains, Some, IfSome, IsTrue}
use Rattle.std.specs.Int.{IsInRange}
use Rattle.signal_values.specs.declared.number.TheConstants.{PHASES, RINGS}
use Rattle.signal_records.specs.declared.record.Pattern.{Pattern}
use Rattle.signal_records.specs.declared.record.Ped.{Ped}
use Rattle.signal_records.specs.declared.record.Phase.{Phase}
use Rattle.signal_records.specs.declared.record.Split.{Split}
use Rattle.signal_records.specs.declared.record.SplitMode.{SplitMode}
use Rattle.signal_records.specs.declared.record.SplitMode.TheVariants.{PhaseOmitted}
use Rattle.signal_records.specs.TimingSet.{Rows}
use Rattle.signal_rules.specs.Lookup.{phase_at, split_at}
use Rattle.signal_plans.specs.Timing.{HasPhase, HasPattern, BeginsIn, TimesIn, StartsIn, IsTiming, IsServed, InItsCycle, order, StandsBefore}
use Rattle.signal_plans.specs.Intervals.{CallsPedestrian, FitsSplit, IsCrossing, WalkersCross}

-- the set has p, and phaseConcurrency of p has q
abbrev pub Lists : Rows → ℕ → ℕ → Type 0
Lists set p q = (phase : Phase) × (phase_at set p ≡ Some phase) × Contains phase.mates q

-- two phases are concurrent: each lists the other (phaseConcurrency)
abbrev pub AreConcurrent : Rows → ℕ → ℕ → Type 0
AreConcurrent set p q = Lists set p q × Lists set q p

-- two different phases that time at one second, in whatever rings, list each other
abbrev pub OnlyConcurrentPhasesTime : Rows → Pattern → Type 0
OnlyConcurrentPhasesTime set pattern =
    (p q second : ℕ) → p ≢ q → IsTiming set pattern p second → IsTiming set pattern q second
    → AreConcurrent set p q

-- a phase times in one stretch of the cycle, in its own ring, as long as its split; the split is 0 exactly if the
-- phase is omitted, and else long enough for all that the phase shows
pub record TimesOnce (set : Rows) (pattern : Pattern) (p : ℕ) (phase : Phase) : Type 0 where
  pub split : Split
  pub row : split_at set pattern.split p ≡ Some split
  pub begin : ℕ
  pub begins : (ring second : ℕ) → IsInRange 1 RINGS ring
      → (BeginsIn set pattern ring p second ↔ ((ring ≡ phase.ring) × (second ≡ begin)))
  pub times : (second : ℕ) → (IsTiming set pattern p second ↔ ((begin ≤ second) × (second < begin + split.time)))
  pub within : begin + split.time ≤ pattern.cycle
  pub omitted : (split.time ≡ 0) ↔ (split.mode ≡ PhaseOmitted)
  pub fits : split.mode ≢ PhaseOmitted → FitsSplit phase split

-- the phases of a ring follow one another in the order of the sequence, and fill the cycle
pub record FillsCycle (set : Rows) (pattern : Pattern) (ring : ℕ) : Type 0 where
  pub filled : (second : ℕ) → second < pattern.cycle → (p : ℕ) × TimesIn set pattern ring p second
  pub within : (p second : ℕ) → TimesIn set pattern ring p second → second < pattern.cycle
  pub alone : (p q second : ℕ) → TimesIn set pattern ring p second
      → TimesIn set pattern ring q second → p ≡ q
  pub ordered : (p q s t : ℕ) → IsInRange 1 PHASES p → IsInRange 1 PHASES q
      → StandsBefore (order set pattern ring) p q → TimesIn set pattern ring p s
      → TimesIn set pattern ring q t → s < t

-- a phase is served in each cycle exactly where splitMode does not omit it
abbrev pub IsServedUnlessOmitted : Rows → Pattern → ℕ → Phase → Type 0
IsServedUnlessOmitted set pattern p phase =
    (split : Split) → split_at set pattern.split p ≡ Some split
    → (IsServed set pattern p ↔ (split.mode ≢ PhaseOmitted))

-- what times in a ring is a phase of the set, with this phaseRing
abbrev pub OnlyPhasesOfTheSetTime : Rows → Pattern → Type 0
OnlyPhasesOfTheSetTime set pattern =
    (ring p second : ℕ) → IsInRange 1 RINGS ring → TimesIn set pattern ring p second
    → (phase : Phase) × (phase_at set p ≡ Some phase) × (phase.ring ≡ ring)

-- splitCoordPhase marks a phase of the set, which is served in each cycle, and patternOffsetTime is
-- less than patternCycleTime
pub record IsCoordinated (set : Rows) (pattern : Pattern) : Type 0 where
  pub offset : pattern.offset < pattern.cycle
  pub p : ℕ
  pub phase : Phase
  pub split : Split
  pub number : IsInRange 1 PHASES p
  pub in_set : phase_at set p ≡ Some phase
  pub row : split_at set pattern.split p ≡ Some split
  pub marked : IsTrue split.coord
  pub served : HasPhase set p phase → IsServed set pattern p

-- once a phase has begun, a phase that is not concurrent with it times only when the first one's split is over, with
-- the yellow and red in it (`FitsSplit`), in the same cycle or in a later one
abbrev pub ConflictsAreCleared : Rows → Pattern → ℕ → Phase → Type 0
ConflictsAreCleared set pattern p phase =
    (split : Split) (begin q second : ℕ) → split_at set pattern.split p ≡ Some split
    → InItsCycle pattern (BeginsIn set pattern phase.ring p) begin
    → p ≢ q → ¬ AreConcurrent set p q → InItsCycle pattern (IsTiming set pattern q) second
    → begin ≤ second → begin + split.time ≤ second

-- Rings cross a barrier together: where a phase starts, each ring that timed a phase not concurrent with it in the
-- second before starts a phase too, also from one cycle to the next.
abbrev pub BarriersAreCrossedTogether : Rows → Pattern → ℕ → Phase → Type 0
BarriersAreCrossedTogether set pattern p phase =
    (ring q second : ℕ) → IsInRange 1 RINGS ring → IsInRange 1 PHASES q
    → InItsCycle pattern (StartsIn set pattern phase.ring p) (1 + second)
    → p ≢ q → ¬ AreConcurrent set p q → InItsCycle pattern (TimesIn set pattern ring q) second
    → (next : ℕ) × InItsCycle pattern (StartsIn set pattern ring next) (1 + second)

-- where splitMode is one of these modes, a walk and its clearance lie within the phase's own time, and so do its lead
-- and the minimum green after it
abbrev pub WalkLiesWithin : (SplitMode → Type 0) → Rows → Pattern → ℕ → Phase → Ped → Type 0
WalkLiesWithin IsOfModes set pattern p phase ped =
    (split : Split) (begin second : ℕ)
    → split_at set pattern.split p ≡ Some split → IsOfModes split.mode
    → BeginsIn set pattern phase.ring p begin → begin ≤ second
    → second < begin + max (ped.walk + ped.clear) (ped.lead + phase.min_green)
    → IsTiming set pattern p second

-- a phase times at a second, and each other phase that does is concurrent with it
pub record HasTheStreet (set : Rows) (pattern : Pattern) (p second : ℕ) : Type 0 where
  pub times : IsTiming set pattern p second
  pub others : (q : ℕ) → p ≢ q → IsTiming set pattern q second → AreConcurrent set p q

-- a moment of the cycle, in tenths of a second, lies in a second
abbrev pub LiesIn : ℕ → ℕ → Type 0
LiesIn moment second = (10 * second ≤ moment) × (moment < 10 * second + 10)

-- Where splitMode is one of these modes: while a pedestrian who left the curb within the walk is crossing, the phase
-- of the crossing has the street. Nothing is said of a crossing whose width is 0, so not measured.
abbrev pub WalkersHaveTheStreet : (SplitMode → Type 0) → Rows → Pattern → ℕ → Phase → Ped → Type 0
WalkersHaveTheStreet IsOfModes set pattern p phase ped =
    (split : Split) (begin left now second : ℕ)
    → split_at set pattern.split p ≡ Some split → IsOfModes split.mode
    → BeginsIn set pattern phase.ring p begin → left ≤ 10 * ped.walk → IsCrossing ped left now
    → LiesIn (10 * begin + now) second → HasTheStreet set pattern p second

-- a law holds for each pattern of a set
abbrev pub InEachPattern : Rows → (Pattern → Type 0) → Type 0
InEachPattern set Law = (n : ℕ) (pattern : Pattern) → HasPattern set n pattern → Law pattern

-- a law holds for each phase of a set
abbrev pub OfEachPhase : Rows → (ℕ → Phase → Type 0) → Type 0
OfEachPhase set Law = (p : ℕ) (phase : Phase) → HasPhase set p phase → Law p phase

-- the laws of one cycle of a pattern: which phases time in it, and when
pub record RunsItsCycle (set : Rows) (pattern : Pattern) : Type 0 where
  pub stretches : OfEachPhase set (TimesOnce set pattern)
  pub served : OfEachPhase set (IsServedUnlessOmitted set pattern)
  pub known : OnlyPhasesOfTheSetTime set pattern
  pub rings : OfEachPhase set (λ p phase. FillsCycle set pattern phase.ring)
  pub coordinated : IsCoordinated set pattern

-- phases that are not concurrent are kept apart
pub record KeepsApart (set : Rows) (pattern : Pattern) : Type 0 where
  pub concurrent : OnlyConcurrentPhasesTime set pattern
  pub cleared : OfEachPhase set (ConflictsAreCleared set pattern)
  pub barriers : OfEachPhase set (BarriersAreCrossedTogether set pattern)

-- where splitMode is one of these modes, walks have their time, and walkers the street
pub record HasTimeForWalks (IsOfModes : SplitMode → Type 0) (set : Rows) (pattern : Pattern) : Type 0 where
  pub within : OfEachPhase set (λ p phase. IfSome phase.ped (WalkLiesWithin IsOfModes set pattern p phase))
  pub walkers : OfEachPhase set (λ p phase. IfSome phase.ped (WalkersHaveTheStreet IsOfModes set pattern p phase))

-- The laws, for each pattern and each phase of a set; the last one needs no pattern. Walks have their time where the
-- split mode calls them (modes 5 and 6). In the other modes a button may call the walk, and the split need not have
-- room for it: the phase may end, and one that is not concurrent begin, while somebody still crosses. `HoweverCalled`
-- says what then holds of a plan without warnings.
pub record StreetLaws (set : Rows) : Type 0 where
  pub cycles : InEachPattern set (RunsItsCycle set)
  pub apart : InEachPattern set (KeepsApart set)
  pub walks : InEachPattern set (HasTimeForWalks CallsPedestrian set)
  pub crossings : OfEachPhase set (λ p phase. IfSome phase.ped (WalkersCross phase))
