-- The office served on a port.
use Rattle.std.specs.Prelude.{◌≡◌, ◌⊎◌, ℕ, List, [], ◌∷◌, Option, Some, None, Result, Ok, Err, ⊤}
use Rattle.office_desk.specs.StandFor.{StandForSound}
use Rattle.office_http.specs.Laws.{KeepsLaws}
use Rattle.office_http.specs.Listening.{Connected, EndsListening, Listening, no_listening, system_listening}
use Rattle.office_http.specs.Protocol.{office_protocol}
use Rattle.office_http.specs.declared.listening.ServeStop.{ServeStop}
use Rattle.office_http.specs.declared.listening.ServeStop.TheVariants as stop
use Rattle.office_http.specs.declared.listening.TurnEnd.{TurnEnd}
use Rattle.office_http_framing.specs.Front.{PlainRequest}
use Rattle.office_http_framing.specs.Serve.{DidPart}
use Rattle.office_http_framing.specs.declared.engine.Part.{Part}
use Rattle.office_http_framing.specs.declared.engine.ServeFault.{ServeFault}
use Rattle.office_machine.specs.Office.{Office}
use Rattle.office_tables_shelf.specs.Content.{Content}
use Rattle.signal_office.specs.declared.serving.Serving.{Serving}
use Rattle.signal_office_faults.specs.declared.fault.Fault.{Fault}
use Rattle.signal_office_faults.specs.declared.fault.Fault.TheVariants as fault
use Rattle.signal_office_file.specs.Task.{Effect}
use Rattle.signal_office_file.specs.Stopping.{AfterRequest, SameOr}

-- the fault that says why a listener did not serve all connections
abbrev pub fault_of_stop : ServeStop → Fault
fault_of_stop stop.Accept = fault.Bind
fault_of_stop stop.NoMemory = fault.Memory

-- how a turn of serving a listener ended: without a fault, or with the one that says why it did not serve all connections
abbrev pub ended_as : Result TurnEnd ServeStop → Result ⊤ Fault
ended_as (Ok end) = Ok tt
ended_as (Err why) = Err (fault_of_stop why)

-- the system refused the port, or the line on it could not be printed, since memory was refused or the output failed
abbrev pub IsUnheard : Result ⊤ Fault → Type 0
IsUnheard result = (result ≡ Err fault.Bind) ⊎ (result ≡ Err fault.Memory) ⊎ (result ≡ Err fault.Write)

-- In a turn these parts of connections were served, from the state of the listener before it to that after it, with `count` connections left at its start; and
-- the result says how it ended.
abbrev pub ServesListener : Listening → ℕ → Serving → List Connected → Result ⊤ Fault → Type 0
ServesListener listening count new served result =
    (after : Listening) × (new.listener ≡ Some after)
    × (ended : Result TurnEnd ServeStop) × EndsListening count new.left listening after served ended × (result ≡ ended_as ended)

-- a turn goes on with the listener of the turn before; without one, with a new one, or there is none and nothing was served
abbrev pub ServesFrom : Option Listening → ℕ → Serving → List Connected → Result ⊤ Fault → Type 0
ServesFrom (Some listening) count new served result = ServesListener listening count new served result
ServesFrom None count new served result =
    (IsUnheard result × (new.listener ≡ None) × (new.left ≡ count) × (served ≡ []))
    ⊎ ServesListener (system_listening no_listening None) count new served result

-- how a turn of serving a port went, with these parts of connections
abbrev pub ServesPort : (old new : Serving) → List Connected → Result ⊤ Fault → Type 0
ServesPort old new served result = ServesFrom old.listener old.left new served result

-- ---- what is made of the tables

-- The parts of connections were served one after the other, each from the office that the one before it left: the answers to its requests keep the laws of the
-- office.
abbrev pub InTurn : Office → List Connected → Office → Type 0
InTurn before [] after = after ≡ before
InTurn before (it ∷ parts) after =
    (middle : Office) × (outcome : Result Part ServeFault)
    × DidPart office_protocol (λ requests answers. KeepsLaws before requests answers middle) it.start.left it.start.held it.end.held it.start.ends it.end.ends outcome
    × InTurn middle parts after

-- A turn of serving the port, whose result says how it ended. From whichever office the tables stood for, its parts of connections were served one after the
-- other, and the tables stand for the office after them.
pub record ServesAs (old new : Serving) (held : Content) (result : Result ⊤ Fault) (kept : Content) : Type 0 where
  pub served : List Connected
  pub ended : ServesPort old new served result
  pub in_turn : (before : Office) → StandForSound held before → (after : Office) × InTurn before served after × StandForSound kept after

-- a part of a connection was served from the office, by its laws, and `Holds` is true of its requests and answers
abbrev pub ServedFrom : Office → Connected → Office → (List PlainRequest → List (List ℕ) → Type 0) → Type 0
ServedFrom before it after Holds =
    (outcome : Result Part ServeFault)
    × DidPart office_protocol (λ requests answers. KeepsLaws before requests answers after × Holds requests answers)
    it.start.left it.start.held it.end.held it.start.ends it.end.ends outcome

-- these are the tables after a request of one of the parts; the parts before that one were served in turn
abbrev pub AfterConnection : Office → List Connected → Content → Type 0
AfterConnection before [] found = ⊥
AfterConnection before (it ∷ parts) found =
    (middle : Office) × (ServedFrom before it middle (λ requests answers. AfterRequest before requests answers found)
    ⊎ (ServedFrom before it middle (λ _ _. ⊤) × AfterConnection middle parts found))

-- what a stop may leave of serving a port: the old tables, or, from whichever office they stood for, those after a request of one of its connections
abbrev pub AfterServing : Content → Content → Type 0
AfterServing old found =
    (before : Office) → StandForSound old before → (served : List Connected) × SameOr (λ _. AfterConnection before served) old found

-- a turn of serving a port as a task: what it does to the tables, and what a stop may leave of them
abbrev pub serve_effect : (old new : Serving) → Effect ⊤
serve_effect old new = record { does = ServesAs old new; leaves = AfterServing }
