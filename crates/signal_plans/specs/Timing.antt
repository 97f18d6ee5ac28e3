-- When the phases of a pattern time, in seconds of its cycle, which count from 0.
use Rattle.std.specs.Prelude.{◌≡◌, ℕ, ◌+◌, ◌*◌, ◌<◌, ◌≤◌, List, ◌∷◌, ◌++◌, sum_by, Some}
use Rattle.std.specs.Int.{IsInRange}
use Rattle.signal_values.specs.declared.number.TheConstants.{PHASES, RINGS}
use Rattle.signal_records.specs.declared.record.Pattern.{Pattern}
use Rattle.signal_records.specs.declared.record.Phase.{Phase}
use Rattle.signal_records.specs.TimingSet.{Rows}
use Rattle.signal_records.specs.Within.{current_limits, IsPhaseWithin, IsPatternWithin}
use Rattle.signal_rules.specs.{Lookup.phase_at, Lookup.split_at, Lookup.pattern_at, SequenceRule.ring_row, Lanes.time_of}

-- the set has the phase, with its numbers in the ranges of the program's rows
abbrev pub HasPhase : Rows → ℕ → Phase → Type 0
HasPhase set p phase = IsPhaseWithin current_limits p phase × (phase_at set p ≡ Some phase)

-- the set has the pattern, with its numbers in the ranges of the program's rows
abbrev pub HasPattern : Rows → ℕ → Pattern → Type 0
HasPattern set n pattern = IsPatternWithin n pattern × (pattern_at set n ≡ Some pattern)

-- sequenceData: the phases of a ring, in the order in which they run; a ring without a row has none
abbrev pub order : Rows → Pattern → ℕ → List ℕ
order set pattern ring = ring_row set pattern.seq ring

-- splitTime of a phase in a pattern, in seconds; 0 for a phase without a split row
abbrev pub split_time : Rows → Pattern → ℕ → ℕ
split_time set pattern p = time_of (split_at set pattern.split p)

-- in a row of phases that have times, a phase begins when the times of those before it are over
pub record Begins (time : ℕ → ℕ) (row : List ℕ) (p begin : ℕ) : Type 0 where
  pub before : List ℕ
  pub after : List ℕ
  pub placed : row ≡ before ++ p ∷ after
  pub over : begin ≡ sum_by time before

-- in a row of phases that have times, a phase times from its beginning on, for as many seconds as its time
pub record Times (time : ℕ → ℕ) (row : List ℕ) (p second : ℕ) : Type 0 where
  pub begin : ℕ
  pub begins : Begins time row p begin
  pub begun : begin ≤ second
  pub unended : second < begin + time p

-- a phase begins in a ring at a second of the cycle
abbrev pub BeginsIn : Rows → Pattern → ℕ → ℕ → ℕ → Type 0
BeginsIn set pattern ring p begin = Begins (split_time set pattern) (order set pattern ring) p begin

-- a phase times in a ring at a second of the cycle
abbrev pub TimesIn : Rows → Pattern → ℕ → ℕ → ℕ → Type 0
TimesIn set pattern ring p second = Times (split_time set pattern) (order set pattern ring) p second

-- a phase times at a second of the cycle, in whatever ring
pub record IsTiming (set : Rows) (pattern : Pattern) (p second : ℕ) : Type 0 where
  pub number : IsInRange 1 PHASES p
  pub ring : ℕ
  pub ring_number : IsInRange 1 RINGS ring
  pub times : TimesIn set pattern ring p second

-- a phase begins in a ring at a second of the cycle, and times there at that second
abbrev pub StartsIn : Rows → Pattern → ℕ → ℕ → ℕ → Type 0
StartsIn set pattern ring p second = BeginsIn set pattern ring p second × TimesIn set pattern ring p second

-- a phase times at some second of the cycle
abbrev pub IsServed : Rows → Pattern → ℕ → Type 0
IsServed set pattern p = (second : ℕ) × IsTiming set pattern p second

-- A pattern runs cycle after cycle, and its seconds are counted on from where one cycle begins: what
-- is so at a second of the cycle is so at that second of each.
pub record InItsCycle (pattern : Pattern) (IsSo : ℕ → Type 0) (second : ℕ) : Type 0 where
  pub cycles : ℕ
  pub in_cycle : ℕ
  pub counted : second ≡ cycles * pattern.cycle + in_cycle
  pub so : IsSo in_cycle

-- a phase is somewhere before another in a row
pub record StandsBefore (row : List ℕ) (p q : ℕ) : Type 0 where
  pub before : List ℕ
  pub between : List ℕ
  pub after : List ℕ
  pub placed : row ≡ before ++ (p ∷ (between ++ (q ∷ after)))
