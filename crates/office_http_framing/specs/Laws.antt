-- How far the definitions of requests and faults fix what a stream's bytes begin with, and the list
-- of its requests; and what two parts of a stream make together.
use Rattle.std.specs.Prelude.{◌≡◌, ℕ, ◌+◌, ◌-◌, ◌⊎◌, List, ◌++◌, Result, Ok, Err}
use Rattle.office_http_framing.specs.declared.engine.Part.{Part}
use Rattle.office_http_framing.specs.declared.engine.PartEnd.TheVariants as part
use Rattle.office_http_framing.specs.declared.engine.ServeFault.{ServeFault}
use Rattle.office_http_framing.specs.declared.engine.ServeFault.TheVariants as stop
use Rattle.office_http_framing.specs.declared.front.Fault.{Fault}
use Rattle.office_http_framing.specs.Front.{PlainRequest, window, BeginsWithRequest, IsIncomplete, IsFaulty, IsHopeless, IsUnfinished}
use Rattle.office_http_framing.specs.Protocol.{Protocol}
use Rattle.office_http_framing.specs.Serve.{DidPart, Ends, Runs, TellsPart}
use Rattle.office_http_framing.specs.Stream.{Ending, AreRequests}

-- What httparse leaves open: no head is whole, none of few enough fields can come, and yet the
-- request target is still being read, or a field line past the last that has room has begun.
pub record IsLeftOpen (bytes : List ℕ) : Type 0 where
  pub hopeless : IsHopeless (window bytes)
  pub unfinished : IsUnfinished (window bytes)

-- these bytes begin with one thing: one request, or a part of one, or one fault; only where
-- httparse leaves it open may they begin with a fault and also with a part or another fault
pub record HasOneFront (bytes : List ℕ) : Type 0 where
  pub requests : (r s : PlainRequest) (m n : ℕ)
      → BeginsWithRequest bytes r m → BeginsWithRequest bytes s n → (r ≡ s) × (m ≡ n)
  pub no_more : (r : PlainRequest) (m : ℕ) → BeginsWithRequest bytes r m → IsIncomplete bytes → ⊥
  pub no_fault : (r : PlainRequest) (m : ℕ) (which : Fault)
      → BeginsWithRequest bytes r m → IsFaulty bytes which → ⊥
  pub left_open : (which : Fault) → IsIncomplete bytes → IsFaulty bytes which → IsLeftOpen bytes
  pub faults : (which other : Fault)
      → IsFaulty bytes which → IsFaulty bytes other → (which ≡ other) ⊎ IsLeftOpen bytes

-- the bytes are one list of requests, under this limit, however that is found to end
abbrev pub HasOneList : ℕ → List ℕ → Type 0
HasOneList limit bytes =
    (requests others : List PlainRequest) (ending other : Ending)
    → AreRequests limit bytes requests ending → AreRequests limit bytes others other
    → requests ≡ others

-- if some requests ran as `first` says, and then more as `second` says, all of them ran as `whole`
-- says
abbrev pub RunsJoin : (first second whole : Runs) → Type 0
RunsJoin first second whole =
    (requests more : List PlainRequest) (answers others : List (List ℕ))
    → first requests answers → second more others → whole (requests ++ more) (answers ++ others)

-- the outcome of a part, with the count of the requests of the part before it added
abbrev pub after_requests : ℕ → Result Part ServeFault → Result Part ServeFault
after_requests n (Ok it) = Ok (record { requests = n + it.requests; end = it.end })
after_requests n (Err (stop.Read requests)) = Err (stop.Read (n + requests))
after_requests n (Err (stop.Write requests)) = Err (stop.Write (n + requests))
after_requests n (Err stop.NoMemory) = Err stop.NoMemory

-- THE LAW OF THE CUT. A part of a stream paused after n requests, and the next part was served from
-- there: from the bytes that the first one kept, between the moments of the ends that it left, and
-- with n requests fewer. Then both are one part, with the requests and the answers of both.
abbrev pub JoinsParts : {State : Type 0} → Protocol State → Type 1
JoinsParts protocol =
    (first second whole : Runs) → RunsJoin first second whole
    → (limit n : ℕ) (come held kept : List ℕ) (start middle last : Ends)
    (result : Result Part ServeFault) (paused : Result Part ServeFault)
    → paused ≡ Ok (record { requests = n; end = part.Paused })
    → DidPart protocol first limit come held start middle paused → TellsPart start middle paused
    → DidPart protocol second (limit - n) held kept middle last result
    → DidPart protocol whole limit come kept start last (after_requests n result)
