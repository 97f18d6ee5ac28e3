-- When the source is asked for bytes: only while a request is awaited, and so never after the last one.
use Rattle.std.specs.Prelude.{◌≡◌, ℕ, zero, suc, ◌≤◌, List, [], ◌++◌, length, take, Option}
use Rattle.std.specs.List.{concat}
use Rattle.std.specs.Io.KnownBytes.{Appends, Consumes}
use Rattle.office_http_framing.specs.Ends.{NoneStops, Told, raised_count}
use Rattle.office_http_framing.specs.Front.{PlainRequest}
use Rattle.office_http_framing.specs.Stream.{unfinished, AreRequests}

-- a request is awaited after these bytes: they hold fewer requests than the limit, none of which ends the stream, and no fault
abbrev pub IsAwaited : ℕ → List ℕ → Type 0
IsAwaited limit given = (requests : List PlainRequest) × AreRequests limit given requests unfinished

-- No answer is owed after these bytes: they hold the first so many requests and a part of the next,
-- and the sink, whose bytes were `at` then, had taken the answers to all of these whole, and no more.
pub record OwesNoAnswer
    (limit : ℕ) (requests : List PlainRequest) (answers : List (List ℕ))
    (old new : Option (List ℕ)) (given : List ℕ) : Type 0 where
  pub count : ℕ
  pub at : Option (List ℕ)
  pub later : List ℕ
  pub in_range : count ≤ length requests
  pub awaited : AreRequests limit given (take count requests) unfinished
  pub taken : Appends old at (concat (take count answers))
  pub goes_on : Appends at new later

-- one call of the source, which counts it, gave these bytes; none where it failed or is at its end
pub record OneRead (old new : Told) (piece : List ℕ) : Type 0 where
  pub reads : Consumes old.bytes new.bytes piece
  pub calls : new.counts.calls ≡ raised_count old.counts.calls

-- So many calls of the source, one after the other from the first on, gave these bytes. At each, no
-- call before it had failed or given no byte, and `IsDue` holds of the bytes given so far.
abbrev pub Asks : (List ℕ → Type 0) → Told → ℕ → List ℕ → Told → Type 0
Asks IsDue first zero given source = (given ≡ []) × (source ≡ first)
Asks IsDue first (suc calls) given source =
    (before : Told) × (held piece : List ℕ) × Asks IsDue first calls held before
    × IsDue held × NoneStops first.counts before.counts
    × OneRead before source piece × (given ≡ held ++ piece)

-- if the bytes `come` had come before: the source was called only while a request was awaited, and
-- not again after a call that failed or gave no byte
abbrev pub OnlyAsksAfter : ℕ → List ℕ → Told → Told → Type 0
OnlyAsksAfter limit come first source =
    (calls : ℕ) × (given : List ℕ)
    × Asks (λ piece. IsAwaited limit (come ++ piece)) first calls given source
