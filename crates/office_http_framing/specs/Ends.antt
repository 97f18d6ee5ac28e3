-- What a source and a sink tell of themselves: their bytes, and how their calls went.
use Rattle.std.specs.Prelude.{MatchResult, ◌≡◌, ℕ, ◌+◌, ◌-◌, ◌^◌, ◌<◌, ◌≤◌, ◌⊎◌, Bool, true, false, List, ◌++◌, nat_lt, Option, Result, Ok, Err, ◌==◌, if◌then◌else◌}
use Rattle.std.specs.Io.KnownBytes.{Appends}
use Rattle.office_http_framing.specs.declared.ends.Counts.{Counts}

-- the largest count, at which a count stays
abbrev pub count_limit : ℕ
count_limit = 2 ^ 64 - 1

-- a count after one more; at its largest value it stays
abbrev pub raised_count : ℕ → ℕ
raised_count n = if nat_lt n count_limit then n + 1 else n

-- the call failed
abbrev pub is_failure : {E : Type 0} → Result ℕ E → Bool
is_failure (Ok n) = false
is_failure (Err e) = true

-- the call answered 0 bytes
abbrev pub is_empty : {E : Type 0} → Result ℕ E → Bool
is_empty (Ok n) = n == 0
is_empty (Err e) = false

-- the counts after a call with this outcome
abbrev pub call_counts_after : {E : Type 0} → Result ℕ E → Counts → Counts
call_counts_after outcome c = record {
  calls = raised_count c.calls;
  failures = if is_failure outcome then raised_count c.failures else c.failures;
  empties = if is_empty outcome then raised_count c.empties else c.empties;
}

-- the counts before the first call
abbrev pub no_calls : Counts
no_calls = record { calls = 0; failures = 0; empties = 0 }

-- a count rose, or it is at its largest value and shows nothing
abbrev pub Rose : ℕ → ℕ → Type 0
Rose old new = (old < new) ⊎ (count_limit ≤ new)

-- what an end of the stream tells: its bytes, where they are known, and how its calls went
pub record Told : Type 0 where
  pub bytes : Option (List ℕ)
  pub counts : Counts

-- no count of calls, of failures or of empties fell
pub record Grows (old new : Counts) : Type 0 where
  pub calls : old.calls ≤ new.calls
  pub failures : old.failures ≤ new.failures
  pub empties : old.empties ≤ new.empties

-- no call between these counts failed or moved no byte
pub record NoneStops (old new : Counts) : Type 0 where
  pub failures : new.failures ≡ old.failures
  pub empties : new.empties ≡ old.empties

-- one call between these counts failed, and none moved no byte
pub record OneFails (old new : Counts) : Type 0 where
  pub failures : new.failures ≡ raised_count old.failures
  pub empties : new.empties ≡ old.empties

-- one call between these counts moved no byte, and none failed
pub record OneIsEmpty (old new : Counts) : Type 0 where
  pub failures : new.failures ≡ old.failures
  pub empties : new.empties ≡ raised_count old.empties

-- The calls of a write of all the bytes: none failed or took no byte; or, on an error, one alone,
-- after which the sink was not called again.
abbrev pub StopsAtOnce : {T E : Type 0} → Result T E → Counts → Counts → Type 0
StopsAtOnce result old new =
    MatchResult result (λ _. NoneStops old new) (λ _. OneFails old new ⊎ OneIsEmpty old new)

-- a call between these counts failed, or answered 0 bytes, as far as a count at its largest value
-- can show
abbrev pub FailsOrGivesNone : Counts → Counts → Type 0
FailsOrGivesNone old new = Rose old.failures new.failures ⊎ Rose old.empties new.empties

-- the sink took a front part of the bytes, which may be none or all
pub record AppendsPart (old new : Option (List ℕ)) (bytes : List ℕ) : Type 0 where
  pub part : List ℕ
  pub rest : List ℕ
  pub front : bytes ≡ part ++ rest
  pub taken : Appends old new part

-- the sink took all the bytes, or on an error a front part of them
abbrev pub WritesOrBreaksOff : {T E : Type 0} → Result T E → Told → Told → List ℕ → Type 0
WritesOrBreaksOff result old new bytes =
    MatchResult result (λ _. Appends old.bytes new.bytes bytes)
    (λ _. AppendsPart old.bytes new.bytes bytes)
