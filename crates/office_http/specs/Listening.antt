-- What a listener tells of its calls, and what was done for its connections, part by part.
use Rattle.std.specs.Prelude.{◌≡◌, ℕ, zero, suc, ◌+◌, ◌-◌, ◌*◌, ◌<◌, ◌≤◌, Bool, true, false, List, [], ◌∷◌, ◌++◌, length, Option, Some, None, Result, Ok, Err, MatchResult, if◌then◌else◌, ⊤}
use Rattle.office_machine.specs.Office.{Office}
use Rattle.office_http.specs.Laws.{Serves}
use Rattle.office_http.specs.Protocol.{office_protocol}
use Rattle.office_http.specs.declared.connection_reader.ConnectionReader.{ConnectionReader}
use Rattle.office_http.specs.declared.listening.Connection.{Connection}
use Rattle.office_http.specs.declared.listening.ListenCounts.{ListenCounts}
use Rattle.office_http.specs.declared.listening.ServeStop.{ServeStop}
use Rattle.office_http.specs.declared.listening.ServeStop.TheVariants as stop
use Rattle.office_http.specs.declared.listening.TurnEnd.{TurnEnd}
use Rattle.office_http.specs.declared.listening.TurnEnd.TheVariants as turn
use Rattle.office_http_framing.specs.Asks.{OnlyAsksAfter}
use Rattle.office_http_framing.specs.Ends.{Told, no_calls, raised_count}
use Rattle.office_http_framing.specs.Limits.{longest_request}
use Rattle.office_http_framing.specs.Protocol.{Protocol}
use Rattle.office_http_framing.specs.Serve.{DidPart, Ends, Runs, TellsPart, as_served, ends_of, told_requests}
use Rattle.office_http_framing.specs.Stops.{KeepsState, Ran, Storage, moment_of}
use Rattle.office_http_framing.specs.declared.ends.ToWrite.{ToWrite}
use Rattle.office_http_framing.specs.declared.engine.Part.{Part}
use Rattle.office_http_framing.specs.declared.engine.PartEnd.{PartEnd}
use Rattle.office_http_framing.specs.declared.engine.PartEnd.TheVariants as part
use Rattle.office_http_framing.specs.declared.engine.ServeFault.{ServeFault}
use Rattle.office_tables_shelf.specs.Content.{Content}

-- the most requests of one connection
abbrev pub connection_limit : ℕ
connection_limit = 10000

-- ---- connections, and parts of them

-- A connection at rest: how many more requests may come, the bytes that were read and not answered,
-- and what its ends tell.
pub record ConnectionState : Type 0 where
  pub left : ℕ
  pub held : List ℕ
  pub ends : Ends

-- the bytes of a buffer, if there is one
abbrev pub bytes_in : Option (List ℕ) → List ℕ
bytes_in None = []
bytes_in (Some bytes) = bytes

-- the state of a connection, by what its ends tell
abbrev pub connection_state : {R W : Type 0} → (R → Told) → (W → Told) → Connection R W → ConnectionState
connection_state reader writer it = record {
  left = it.left;
  held = bytes_in it.buffer;
  ends = ends_of (reader it.reader) (writer it.writer);
}

-- the state of a connection of the system, whose bytes are not known
abbrev pub system_state : {W : Type 0} → Connection ConnectionReader (ToWrite W) → ConnectionState
system_state it =
    connection_state (λ reader. record { bytes = None; counts = reader.counts })
    (λ writer. record { bytes = None; counts = writer.counts }) it

-- a new connection: nothing was read or written yet, and all its requests may come
pub record IsNew (it : ConnectionState) : Type 0 where
  pub left : it.left ≡ connection_limit
  pub held : it.held ≡ []
  pub source : it.ends.source.counts ≡ no_calls
  pub sink : it.ends.sink.counts ≡ no_calls

-- a part of a connection: what it was at the start and at the end, and whether it goes on with another part
pub record Connected : Type 0 where
  pub start : ConnectionState
  pub end : ConnectionState
  pub goes_on : Bool

-- the part of a connection between these states
abbrev pub connection_between : Bool → ConnectionState → ConnectionState → Connected
connection_between goes_on start end = record { start = start; end = end; goes_on = goes_on }

-- none of the parts goes on: each is the last one of its connection
abbrev pub NoneGoesOn : List Connected → Type 0
NoneGoesOn [] = Unit {0}
NoneGoesOn (it ∷ parts) = (it.goes_on ≡ false) × NoneGoesOn parts

-- the connection that is kept after a part, if it goes on
abbrev pub kept_of : Connected → Option ConnectionState
kept_of it = if it.goes_on then Some it.end else None

-- the connection that is kept after these parts
abbrev pub kept_after : Option ConnectionState → List Connected → Option ConnectionState
kept_after kept [] = kept
kept_after kept (it ∷ parts) = kept_after (kept_of it) parts

-- a part starts with the connection that was kept, or else with a new one
abbrev pub StartsWith : Option ConnectionState → ConnectionState → Type 0
StartsWith None start = IsNew start
StartsWith (Some kept) start = start ≡ kept

-- each part starts with the connection that was kept before it, or else with a new one
abbrev pub StartEach : Option ConnectionState → List Connected → Type 0
StartEach kept [] = Unit {0}
StartEach kept (it ∷ parts) = StartsWith kept it.start × StartEach (kept_of it) parts

-- the ends of a connection that is given to be served, if it was not kept
abbrev pub given_one : Option ConnectionState → ConnectionState → List Ends
given_one None start = start.ends ∷ []
given_one (Some kept) start = []

-- the ends of the new connections with which these parts start, as they were then
abbrev pub given_for : Option ConnectionState → List Connected → List Ends
given_for kept [] = []
given_for kept (it ∷ parts) = given_one kept it.start ++ given_for (kept_of it) parts

-- the ends of a connection that is given back after a part, if it does not go on
abbrev pub returned_one : Connected → List Ends
returned_one it = if it.goes_on then [] else it.end.ends ∷ []

-- the ends of the connections that do not go on after these parts, as they were then
abbrev pub returned_after : List Connected → List Ends
returned_after [] = []
returned_after (it ∷ parts) = returned_one it ++ returned_after parts

-- ---- what a listener tells

-- the counts of a listener after a call that gave a connection; at its largest value a count stays
abbrev pub one_accepted : ListenCounts → ListenCounts
one_accepted c = record { accepted = raised_count c.accepted; failures = c.failures }

-- the counts of a listener after a call that failed; at its largest value a count stays
abbrev pub one_failed : ListenCounts → ListenCounts
one_failed c = record { accepted = c.accepted; failures = raised_count c.failures }

-- the counts of a listener after a call with this outcome
abbrev pub listen_counts_after : {C E : Type 0} → Result C E → ListenCounts → ListenCounts
listen_counts_after (Ok connection) c = one_accepted c
listen_counts_after (Err e) c = one_failed c

-- the counts of a listener before its first call
abbrev pub no_listening : ListenCounts
no_listening = record { accepted = 0; failures = 0 }

-- the counts of a listener after it gave so many more connections
abbrev pub more_accepted : ℕ → ListenCounts → ListenCounts
more_accepted zero c = c
more_accepted (suc n) c = one_accepted (more_accepted n c)

-- What a listener tells: how its calls went; where they are known, the ends of the connections that
-- it gave and of those that it got back, as they were then, the latest one last; and the connection
-- that it keeps, to be served on.
pub record Listening : Type 0 where
  pub counts : ListenCounts
  pub given : Option (List Ends)
  pub returned : Option (List Ends)
  pub kept : Option ConnectionState

-- What a listener of the system tells: its counts, and the connection that it keeps. What a
-- connection gives and takes is not known.
abbrev pub system_listening : ListenCounts → Option ConnectionState → Listening
system_listening counts kept =
    record { counts = counts; given = None; returned = None; kept = kept }

-- a list of ends, where it is known, grew by these; one that is known stays known
abbrev pub GrewBy : Option (List Ends) → Option (List Ends) → List Ends → Type 0
GrewBy None new more = Unit {0}
GrewBy (Some xs) None more = ⊥
GrewBy (Some xs) (Some ys) more = ys ≡ xs ++ more

-- between two moments the listener gave these ends and got those back, and in the end it counts so
-- many calls and keeps this connection
pub record ListenerMoves
    (old new : Listening) (counts : ListenCounts) (given returned : List Ends)
    (kept : Option ConnectionState) : Type 0 where
  pub counted : new.counts ≡ counts
  pub gave : GrewBy old.given new.given given
  pub got_back : GrewBy old.returned new.returned returned
  pub keeps : new.kept ≡ kept

-- a call of the listener gave this connection: the one that was kept, or else a new one, which is counted
abbrev pub GivesOne : Option ConnectionState → ConnectionState → (old new : Listening) → Type 0
GivesOne None start old new =
    IsNew start × ListenerMoves old new (one_accepted old.counts) (start.ends ∷ []) [] None
GivesOne (Some kept) start old new = (start ≡ kept) × ListenerMoves old new old.counts [] [] None

-- what a call gave: a connection; or none, as the turn is to end; or it failed
abbrev pub Gives : {C E : Type 0} →
    (C → ConnectionState) → Result (Option C) E → (old new : Listening) → Type 0
Gives state (Ok (Some it)) old new = GivesOne old.kept (state it) old new
Gives state (Ok None) old new = ListenerMoves old new old.counts [] [] old.kept
Gives state (Err e) old new = ListenerMoves old new (one_failed old.counts) [] [] old.kept

-- Between two moments the listener gave the connections of these parts and got back those that do
-- not go on, in this order. A part that goes on is kept, and the next part starts as it ended.
pub record Exchanges (old new : Listening) (parts : List Connected) : Type 0 where
  pub start : StartEach old.kept parts
  pub changes : ListenerMoves old new
      (more_accepted (length (given_for old.kept parts)) old.counts)
      (given_for old.kept parts) (returned_after parts) (kept_after old.kept parts)

-- Why a turn of serving ended after these parts: all connections were served, each in one part, or
-- the rest of the one that was kept; or the turn was to end; or the next connection could not be
-- accepted; or it was accepted and given back as it was, and memory for it was refused.
abbrev pub EndsTurn : (left : ℕ) → (old new : Listening) → List Connected
    → Result TurnEnd ServeStop → Type 0
EndsTurn left old new served (Ok turn.Served) =
    (left ≡ 0) × NoneGoesOn served × Exchanges old new served
EndsTurn left old new served (Ok turn.Asked) = (0 < left) × Exchanges old new served
EndsTurn left old new served (Err stop.Accept) =
    (0 < left) × (middle : Listening) × Exchanges old middle served
    × ListenerMoves middle new (one_failed middle.counts) [] [] middle.kept
EndsTurn left old new served (Err stop.NoMemory) =
    (0 < left) × (middle : Listening) × Exchanges old middle served
    × (same : ConnectionState) × Exchanges middle new (connection_between false same same ∷ [])

-- Of `count` connections `left` are left after these parts, since each that was given back is
-- served; and why the turn ended.
abbrev pub EndsListening : (count left : ℕ) → (old new : Listening) → List Connected
    → Result TurnEnd ServeStop → Type 0
EndsListening count left old new served result =
    (left + length (returned_after served) ≡ count) × EndsTurn left old new served result

-- as many connections were served as were asked for, each in one part; or no more where the serving ended before
abbrev pub ServesAsMany : ℕ → List Connected → Result ⊤ ServeStop → Type 0
ServesAsMany count served result =
    MatchResult result (λ _. NoneGoesOn served × (length served ≡ count))
    (λ _. length (returned_after served) ≤ count)

-- ---- what was done

-- whether a stream is to be served on after a part with this end
abbrev pub is_pause : PartEnd → Bool
is_pause part.Ended = false
is_pause part.GaveWay = false
is_pause part.Paused = true

-- the part of a stream paused, and is to be served on
abbrev pub has_paused : Result Part ServeFault → Bool
has_paused (Ok it) = is_pause it.end
has_paused (Err why) = false

-- what is said of requests and their answers, by what a machine held and meant before and after them
abbrev pub RunsBetween : (Machine State Stored : Type 0) → Type 1
RunsBetween Machine State Stored =
    (first : Machine) (held : Stored) (before : State) (last : Machine) (kept : Stored)
    (after : State) → Runs

-- the machine ran over the requests and gave these answers
abbrev pub ran_by : {Machine State Stored : Type 0} →
    Protocol State → Storage Machine State Stored → RunsBetween Machine State Stored
ran_by protocol storage first held before last kept after =
    Ran protocol storage (storage.may_leave first) (moment_of storage first held before)
    last kept after

-- the office served the requests with these answers, by its laws
abbrev pub served_by : {Shelf : Type 0} →
    Storage Shelf Office Content → RunsBetween Shelf Office Content
served_by storage first held before last kept after =
    Serves storage (storage.may_leave first) (moment_of storage first held before) last kept after

-- the source was called only while a request of the connection was awaited, not again after a call
-- that failed or gave no byte; and each call but one gave a byte of a request that may come
pub record AsksConnection (limit : ℕ) (held rest : List ℕ) (start end : Told) : Type 0 where
  pub asks : OnlyAsksAfter limit held start end
  pub reads : end.counts.calls + length held
      ≤ start.counts.calls + longest_request * limit + length rest + 1

-- A part of a connection was served, between these two states of it, as `serve_buffered` says, and
-- `runs` holds of its requests and their answers. A fault of the ends is reported by them. It goes
-- on if the part paused, with as many requests fewer as were answered.
pub record ServesConnection
    {Machine State Stored : Type 0} (protocol : Protocol State)
    (runs : RunsBetween Machine State Stored) (first : Machine) (held : Stored) (before : State)
    (last : Machine) (kept : Stored) (after : State) (it : Connected) : Type 0 where
  pub outcome : Result Part ServeFault
  pub did : DidPart protocol (runs first held before last kept after)
      it.start.left it.start.held it.end.held it.start.ends it.end.ends outcome
  pub fault : TellsPart it.start.ends it.end.ends outcome
  pub asks : AsksConnection it.start.left it.start.held it.end.held
      it.start.ends.source it.end.ends.source
  pub goes_on : it.goes_on ≡ has_paused outcome
  pub left : it.end.left ≡ it.start.left - told_requests (as_served outcome)

module _
    {Machine State Stored : Type 0} (protocol : Protocol State)
    (runs : RunsBetween Machine State Stored) where
  -- The parts were served one after the other, each from what the one before it left.
  abbrev pub ServesEach : Machine → Stored → State → List Connected
      → Machine → Stored → State → Type 0
  ServesEach first held before [] last kept after =
      (last ≡ first) × (kept ≡ held) × (after ≡ before)
  ServesEach first held before (it ∷ parts) last kept after =
      (mid : Machine) × (tables : Stored) × (middle : State)
      × ServesConnection protocol runs first held before mid tables middle it
      × ServesEach mid tables middle parts last kept after

-- What was done by a machine for the parts that were served: each was served in turn, and what is
-- kept at the end stands for the state after the last one.
pub record ListensBy
    {Machine State Stored : Type 0} (protocol : Protocol State)
    (storage : Storage Machine State Stored) (runs : RunsBetween Machine State Stored)
    (first : Machine) (held : Stored) (before : State) (last : Machine)
    (served : List Connected) : Type 0 where
  pub after : State
  pub kept : Stored
  pub keeps : KeepsState storage last kept after
  pub each : ServesEach protocol runs first held before served last kept after

-- what was done by the office, by its laws
abbrev pub Listens : {Shelf : Type 0} → Storage Shelf Office Content → Shelf → Content → Office
    → Shelf → List Connected → Type 0
Listens storage = ListensBy office_protocol storage (served_by storage)
