-- What one serving did to the machine, which answers requests, to the source of the requests and to
-- the sink of the answers: of a whole stream, or of a part of one.
use Rattle.std.specs.Prelude.{◌≡◌, ℕ, ◌<◌, ◌≤◌, ◌+◌, ◌*◌, ◌⊎◌, List, [], ◌∷◌, ◌++◌, length, Bool, true, Option, Result, Ok, Err, ⊤}
use Rattle.std.specs.List.{concat}
use Rattle.std.specs.Io.KnownBytes.{Appends, Consumes}
use Rattle.office_http_framing.specs.declared.front.Fault.{Fault}
use Rattle.office_http_framing.specs.declared.engine.Part.{Part}
use Rattle.office_http_framing.specs.declared.engine.PartEnd.{PartEnd}
use Rattle.office_http_framing.specs.declared.engine.PartEnd.TheVariants as part
use Rattle.office_http_framing.specs.declared.engine.Served.{Served}
use Rattle.office_http_framing.specs.declared.engine.ServeFault.{ServeFault}
use Rattle.office_http_framing.specs.declared.engine.ServeFault.TheVariants as stop
use Rattle.office_http_framing.specs.Asks.{Asks, OnlyAsksAfter, OwesNoAnswer}
use Rattle.office_http_framing.specs.Ends.{NoneStops, OneFails, OneIsEmpty, Rose, Told}
use Rattle.office_http_framing.specs.Front.{PlainRequest}
use Rattle.office_http_framing.specs.Limits.{longest_request}
use Rattle.office_http_framing.specs.Protocol.{Protocol, AnswersFault}
use Rattle.office_http_framing.specs.Stream.{BeginsWith, Ending, closed, unfinished, faulty, EndsAt}

-- what the two ends of a stream tell
pub record Ends : Type 0 where
  pub source : Told
  pub sink : Told

-- the two ends of a stream, by what each tells
abbrev pub ends_of : Told → Told → Ends
ends_of source sink = record { source = source; sink = sink }

-- a statement about requests and the answers to them, both in order
abbrev pub Runs : Type 1
Runs = List PlainRequest → List (List ℕ) → Type 0

-- what is written after the answers to the requests: the answer to a fault, or nothing
abbrev pub Closes : {State : Type 0} → Protocol State → Ending → List (List ℕ) → Type 0
Closes protocol closed closing = closing ≡ []
Closes protocol unfinished closing = closing ≡ []
Closes protocol (faulty which) closing =
    (answer : List ℕ) × AnswersFault protocol which answer × (closing ≡ answer ∷ [])

-- what is left after the requests of a stream: its bytes, how many requests were still allowed, and
-- what follows the answers
pub record Tail : Type 0 where
  pub rest : List ℕ
  pub left : ℕ
  pub closing : List (List ℕ)

-- the list of requests ended this way, and left this tail
pub record IsTailOf
    {State : Type 0} (protocol : Protocol State) (ending : Ending) (tail : Tail) : Type 0 where
  pub ends : EndsAt tail.rest tail.left ending
  pub closes : Closes protocol ending tail.closing

-- how many requests were dealt with, as the outcome tells
abbrev pub told_requests : Result Served ServeFault → ℕ
told_requests (Ok served) = served.requests
told_requests (Err (stop.Read requests)) = requests
told_requests (Err (stop.Write requests)) = requests
told_requests (Err stop.NoMemory) = 0

-- How the stream ended: all was answered; or the source failed; or the sink failed at the answer to
-- the last request or to a fault; or nothing was begun, since memory was refused.
abbrev pub EndsBy : {State : Type 0} →
    Protocol State → Result Served ServeFault → Tail → Ends → Ends → Type 0
EndsBy protocol (Ok served) tail start end =
    (ending : Ending) × IsTailOf protocol ending tail
    × (ending ≡ unfinished → Rose start.source.counts.empties end.source.counts.empties)
EndsBy protocol (Err (stop.Read requests)) tail start end = IsTailOf protocol unfinished tail
EndsBy protocol (Err (stop.Write requests)) tail start end =
    (tail.closing ≡ []) ⊎ ((which : Fault) × IsTailOf protocol (faulty which) tail)
EndsBy protocol (Err stop.NoMemory) tail start end = (tail.closing ≡ []) × (end ≡ start)

-- the sink took the texts in order, and of the last one a front part
pub record BreaksOff (old new : Option (List ℕ)) (texts : List (List ℕ)) : Type 0 where
  pub whole : List (List ℕ)
  pub part : List ℕ
  pub unwritten : List ℕ
  pub texts_are : texts ≡ whole ++ (part ++ unwritten) ∷ []
  pub taken : Appends old new (concat whole ++ part)

-- the sink took the texts in order: all, or, if it failed, of the last one a front part
abbrev pub SinkTook : Result Served ServeFault → Option (List ℕ) → Option (List ℕ) → List (List ℕ)
    → Type 0
SinkTook (Ok served) old new texts = Appends old new (concat texts)
SinkTook (Err (stop.Read n)) old new texts = Appends old new (concat texts)
SinkTook (Err (stop.Write n)) old new texts = BreaksOff old new texts
SinkTook (Err stop.NoMemory) old new texts = Appends old new (concat texts)

-- THE SERVING. Some bytes had come before, and the source gave more: together they begin with the
-- requests; the machine ran over these; and the sink took the answers to them, in order, and then
-- that to a fault, if one follows them: all or a part, as the outcome tells. At each call of the
-- source the sink had taken whole the answers to all requests given until then.
pub record Deed
    (runs : Runs) (limit : ℕ) (come : List ℕ) (start end : Ends) (outcome : Result Served ServeFault)
    (EndsWith : Tail → Type 0) : Type 0 where
  pub given : List ℕ
  pub requests : List PlainRequest
  pub answers : List (List ℕ)
  pub tail : Tail
  pub reads : Consumes start.source.bytes end.source.bytes given
  pub begins : BeginsWith limit (come ++ given) requests tail.rest tail.left
  pub ran : runs requests answers
  pub as_many : length answers ≡ length requests
  pub counted : told_requests outcome ≡ length requests
  pub ends : EndsWith tail
  pub writes : SinkTook outcome start.sink.bytes end.sink.bytes (answers ++ tail.closing)
  pub calls : ℕ
  pub asks : Asks
      (λ piece. OwesNoAnswer limit requests answers start.sink.bytes end.sink.bytes (come ++ piece))
      start.source calls given end.source

-- a stream was served from its first byte to its end
abbrev pub Did : {State : Type 0} →
    Protocol State → Runs → ℕ → Ends → Ends → Result Served ServeFault → Type 0
Did protocol runs limit start end result =
    Deed runs limit [] start end result (λ tail. EndsBy protocol result tail start end)

-- ---- a part of a stream

-- The stream was left before its end: more requests may come, no text follows the answers, and what
-- follows the requests is kept.
pub record IsLeft (kept : List ℕ) (tail : Tail) : Type 0 where
  pub some : 0 < tail.left
  pub closes : tail.closing ≡ []
  pub kept_is : kept ≡ tail.rest

-- the end of a part at which a stream may be left: to give way to another client, only where no byte is kept
abbrev pub MayBeLeft : PartEnd → (is_empty : Bool) → Type 0
MayBeLeft part.Ended is_empty = ⊥
MayBeLeft part.GaveWay is_empty = is_empty ≡ true
MayBeLeft part.Paused is_empty = ⊤

-- how a part of a stream ended without a fault: with the stream; or the stream was left, and if it
-- gave way to another client, between two requests, so that none is cut
abbrev pub EndsPart : {State : Type 0} →
    PartEnd → Protocol State → ℕ → (kept : List ℕ) → Tail → Ends → Ends → Type 0
EndsPart part.Ended protocol requests kept tail start end =
    EndsBy protocol (Ok (record { requests = requests })) tail start end
EndsPart part.GaveWay protocol requests kept tail start end = IsLeft kept tail × (kept ≡ [])
EndsPart part.Paused protocol requests kept tail start end = IsLeft kept tail

-- how a part of a stream ended; its buffer exists already, so memory for it is not refused
abbrev pub EndsPartBy : {State : Type 0} →
    Protocol State → Result Part ServeFault → (kept : List ℕ) → Tail → Ends → Ends → Type 0
EndsPartBy protocol (Ok it) kept tail start end =
    EndsPart it.end protocol it.requests kept tail start end
EndsPartBy protocol (Err stop.NoMemory) kept tail start end = ⊥
EndsPartBy protocol (Err why) kept tail start end = EndsBy protocol (Err why) tail start end

-- the outcome of a part, as that of a stream
abbrev pub as_served : Result Part ServeFault → Result Served ServeFault
as_served (Ok it) = Ok (record { requests = it.requests })
as_served (Err why) = Err why

-- a part of a stream was served: the bytes `come` had come before it, and the bytes `kept` are kept
-- after it
abbrev pub DidPart : {State : Type 0} → Protocol State → Runs → ℕ → (come kept : List ℕ)
    → Ends → Ends → Result Part ServeFault → Type 0
DidPart protocol runs limit come kept start end result =
    Deed runs limit come start end (as_served result)
    (λ tail. EndsPartBy protocol result kept tail start end)

-- How the calls of the two ends went, by their own counts: at most one failed or moved no byte, and
-- the outcome says which. Nothing is said if memory was refused before the first call.
abbrev pub TellsFault : Ends → Ends → Result Served ServeFault → Type 0
TellsFault start end (Ok served) =
    (NoneStops start.source.counts end.source.counts
    ⊎ OneIsEmpty start.source.counts end.source.counts)
    × NoneStops start.sink.counts end.sink.counts
TellsFault start end (Err (stop.Read requests)) =
    OneFails start.source.counts end.source.counts × NoneStops start.sink.counts end.sink.counts
TellsFault start end (Err (stop.Write requests)) =
    NoneStops start.source.counts end.source.counts
    × (OneFails start.sink.counts end.sink.counts ⊎ OneIsEmpty start.sink.counts end.sink.counts)
TellsFault start end (Err stop.NoMemory) = ⊤

-- HOW THE ENDS WERE CALLED for a stream, whatever the machine stood for. Only the last call of one
-- may have failed or moved no byte, as the outcome says; none was called if the buffer was refused;
-- and the source was called only while a request was awaited, each call but one giving a byte of a
-- request that may come.
pub record CallsEnds (limit : ℕ) (start end : Ends) (outcome : Result Served ServeFault)
    : Type 0 where
  pub fault : TellsFault start end outcome
  pub untouched : outcome ≡ Err stop.NoMemory → end ≡ start
  pub asks : OnlyAsksAfter limit [] start.source end.source
  pub reads : end.source.counts.calls
      ≤ start.source.counts.calls + longest_request * (limit + 1) + 1

-- How the calls of the two ends went in a part of a stream that was served without a fault: if the
-- stream was left, none failed or moved no byte.
abbrev pub TellsEnd : PartEnd → Ends → Ends → Type 0
TellsEnd part.Ended start end = TellsFault start end (Ok (record { requests = 0 }))
TellsEnd part.GaveWay start end =
    NoneStops start.source.counts end.source.counts × NoneStops start.sink.counts end.sink.counts
TellsEnd part.Paused start end =
    NoneStops start.source.counts end.source.counts × NoneStops start.sink.counts end.sink.counts

-- how the calls of the two ends went in a part of a stream, whose buffer exists already and is not
-- refused
abbrev pub TellsPart : Ends → Ends → Result Part ServeFault → Type 0
TellsPart start end (Ok it) = TellsEnd it.end start end
TellsPart start end (Err stop.NoMemory) = ⊥
TellsPart start end (Err why) = TellsFault start end (Err why)
