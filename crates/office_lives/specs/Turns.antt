-- A stream that is served in turns over a file, which other runs may open between two turns.
use Rattle.std.specs.Prelude.{◌≡◌, ◌-◌, ℕ, List, [], ◌∷◌, length, IfOk, Result, Ok}
use Rattle.sqlite.specs.Files.{image_of}
use Rattle.sqlite_disk.specs.declared.Disk.{Ghosts as Disk}
use Rattle.sqlite_disk.specs.declared.Files.{Files}
use Rattle.office_http.specs.Laws.{KeepsLaws}
use Rattle.office_http.specs.Listening.{ConnectionState}
use Rattle.office_http.specs.Protocol.{office_protocol}
use Rattle.office_http_framing.specs.Ends.{Told}
use Rattle.office_http_framing.specs.Laws.{after_requests}
use Rattle.office_http_framing.specs.Serve.{DidPart, TellsPart, ends_of}
use Rattle.office_http_framing.specs.declared.engine.Part.{Part}
use Rattle.office_http_framing.specs.declared.engine.PartEnd.TheVariants as part
use Rattle.office_http_framing.specs.declared.engine.ServeFault.{ServeFault}
use Rattle.office_machine.specs.Office.{Office}
use Rattle.office_tables_decisions.specs.StandFor.{StandForSound}
use Rattle.office_tables_shelf.specs.Content.{Content}
use Rattle.office_lives.specs.Life.{Life, Lived, command}
use Rattle.office_lives.specs.declared.turns.InTurns.{InTurns}
use Rattle.signal_office_faults.specs.declared.fault.Fault.{Fault}
use Rattle.signal_office_file.specs.Ended.{RunsOver}
use Rattle.signal_office_file.specs.Files.{HoldIn, KeepTables}
use Rattle.signal_office_file.specs.Stopping.{AfterRequest, SameOr}
use Rattle.signal_office_file.specs.Task.{Effect}

-- ---- a task in turns

module _ {T Given : Type 0} (effect : T → T → Effect Given) where
  -- the turns of a task, from what it was before them, as runs over a file, each by what the task is after it and what it gave
  abbrev pub turns_of : T → List (T × Result Given Fault) → List Lived
  turns_of first [] = []
  turns_of first (it ∷ turns) = command (λ found made. (effect first it.0).does found it.1 made) ∷ turns_of it.0 turns

  -- what the task is after these turns
  abbrev pub after_turns : T → List (T × Result Given Fault) → T
  after_turns first [] = first
  after_turns first (it ∷ turns) = after_turns it.0 turns

  -- The task was done in so many turns over the tables in the files, which were closed after each: each turn found what the one before it left, and the tables of
  -- the last one are kept in the files that came back.
  pub record DoneInTurns {D : Type 0} (g : Disk D) (count : ℕ) (files back : Files D) (first last : T) : Type 0 where
    pub old : Content
    pub new : Content
    pub turns : List (T × Result Given Fault)
    pub counted : length turns ≡ count
    pub held : HoldIn (image_of g files) old
    pub is_last : last ≡ after_turns first turns
    pub life : Life g old (turns_of first turns) new
    pub kept : KeepTables g back new

-- ---- a stream in turns

-- a stream at rest, by what its ends tell
abbrev pub state_in : {R W : Type 0} → (R → Told) → (W → Told) → InTurns R W → ConnectionState
state_in reader writer it = record { left = it.left; held = it.buffer; ends = ends_of (reader it.reader) (writer it.writer) }

-- from whichever sound office the old tables stood for, a part of a stream was served between these states of it, with this outcome, and the new tables
-- stand for the office after it
abbrev pub ServesPart : (start end : ConnectionState) → Content → Result Part ServeFault → Content → Type 0
ServesPart start end old outcome new =
    (before : Office) → StandForSound old before → (after : Office)
    × DidPart office_protocol (RunsOver new before after) start.left start.held end.held start.ends end.ends outcome

-- In a turn the next part of a stream was served. As many requests fewer may follow as were answered.
pub record ServesTurn (start end : ConnectionState) (old : Content) (done : Result (Result Part ServeFault) Fault) (new : Content) : Type 0 where
  pub outcome : Result Part ServeFault
  pub is : done ≡ Ok outcome
  pub did : ServesPart start end old outcome new
  pub fault : TellsPart start.ends end.ends outcome
  pub left : IfOk outcome (λ it. end.left ≡ start.left - it.requests)

-- a turn of a stream, as a run over a file
abbrev pub turn : (start end : ConnectionState) → Result (Result Part ServeFault) Fault → Lived
turn start end done = command (λ found made. ServesTurn start end found done made)

-- what a stop may leave of a turn: the old tables, or, from whichever sound office they stood for, those after one of its requests
abbrev pub AfterTurn : (start end : ConnectionState) → Content → Content → Type 0
AfterTurn start end old found =
    (before : Office) → StandForSound old before → (after : Office) × (outcome : Result Part ServeFault)
    × DidPart office_protocol (λ requests answers. KeepsLaws before requests answers after × SameOr (λ _. AfterRequest before requests answers) old found)
    start.left start.held end.held start.ends end.ends outcome

-- a turn as a task: what it does to the tables, and what a stop may leave of them
abbrev pub turn_effect : {R W : Type 0} → (R → Told) → (W → Told) → (old new : InTurns R W) → Effect (Result Part ServeFault)
turn_effect reader writer old new = record {
  does = ServesTurn (state_in reader writer old) (state_in reader writer new);
  leaves = AfterTurn (state_in reader writer old) (state_in reader writer new);
}

-- a task of another run between the turns
module _ {Given : Type 0} (between : Effect Given) where
  -- whatever it gives, the tables stay as they were
  abbrev pub ChangesNothing : Type 0
  ChangesNothing = (old new : Content) (done : Result Given Fault) → between.does old done new → new ≡ old

  -- THE LAW OF THE CUT OVER A FILE. If the first part paused after n requests, and the task between the turns changed nothing, then both parts are one,
  -- with the requests and the answers of both, from whichever sound office the old tables stood for, and the last tables stand for the office after it.
  abbrev pub ServesWhole : (start end : ConnectionState) → Content → (first second : Result (Result Part ServeFault) Fault) → Content → Type 0
  ServesWhole start end old first second last =
      ChangesNothing → (n : ℕ) → first ≡ Ok (Ok (record { requests = n; end = part.Paused }))
      → (outcome : Result Part ServeFault) × (second ≡ Ok outcome) × ServesPart start end old (after_requests n outcome) last
