-- What a stop leaves of work over the tables of a file: of a task, and of requests that are answered.
use Rattle.std.specs.Prelude.{◌≡◌, ◌⊎◌, ℕ, List, ◌∷◌, Result, ⊤}
use Rattle.office_desk.specs.Asks.{TellsTables}
use Rattle.office_desk.specs.StandFor.{StandForSound}
use Rattle.office_http.specs.Laws.{KeepsLaws}
use Rattle.office_http.specs.Protocol.{office_protocol, office_storage}
use Rattle.office_http_framing.specs.Front.{PlainRequest}
use Rattle.office_http_framing.specs.Protocol.{MayAnswer}
use Rattle.office_http_framing.specs.Serve.{Did, Ends}
use Rattle.office_http_framing.specs.Stops.{Leaves, Storage}
use Rattle.office_http_framing.specs.declared.engine.Served.{Served}
use Rattle.office_http_framing.specs.declared.engine.ServeFault.{ServeFault}
use Rattle.office_machine.specs.Office.{Office}
use Rattle.office_tables_shelf.specs.Content.{Content}
use Rattle.office_tables_shelf.specs.Counts.{no_writes}
use Rattle.office_tables_shelf.specs.declared.counts.WriteCounts.{WriteCounts}
use Rattle.office_tables_shelf.specs.declared.shelf.Shelf.{Ghosts}

-- a stop leaves these tables and no others
abbrev pub LeavesAlone : {S : Type 0} → Ghosts S → S → Content → Type 0
LeavesAlone g shelf tables = (found : Content) → g.may_leave shelf found → found ≡ tables

-- On a clean disk: if before the work a stop could leave only the tables that the shelf held, a stop after it leaves only tables for which `Leaves`
-- holds, from those.
abbrev pub StopsWithin : {S : Type 0} → Ghosts S → (old new : S) → (Content → Content → Type 0) → Type 0
StopsWithin g old new Leaves =
    TellsTables g old new (λ tables. LeavesAlone g old tables → (found : Content) → g.may_leave new found → Leaves tables found)

-- the tables found are the old ones, or a change of these may leave them, as `After` says
abbrev pub SameOr : (Content → Content → Type 0) → Content → Content → Type 0
SameOr After old found = (found ≡ old) ⊎ After old found

-- the tables stand for a sound office that the request's own step, with whichever answer, makes of the one before
abbrev pub AfterStepOf : Office → PlainRequest → Content → Type 0
AfterStepOf before request found =
    (answer : List ℕ) × (after : Office) × office_protocol.step before request answer after × StandForSound found after

-- the tables stand for the office after the own step of one of the requests, whatever was answered to it; those before it were answered in turn with
-- these answers
abbrev pub AfterRequest : Office → List PlainRequest → List (List ℕ) → Content → Type 0
AfterRequest before (request ∷ requests) (answer ∷ answers) found =
    AfterStepOf before request found
    ⊎ ((middle : Office) × MayAnswer office_protocol before request answer middle × AfterRequest middle requests answers found)
AfterRequest before _ _ found = ⊥

-- the office as stored in plain tables, with the count of row writes of each: whatever happens they hold it, and a stop leaves what they hold
abbrev pub table_storage : Storage (Content × WriteCounts) Office Content
table_storage = office_storage (λ _. ⊤) (λ held. held.0) (λ held. held.1) (λ held tables. tables ≡ held.0)

-- Tables that a stop may leave after the requests: those after the last request that changed them and was not answered 503 (the old ones, if there is
-- none), or those that the step of a later request, which was answered 503, makes.
pub record MayBeFound (old : Content) (before after : Office) (requests : List PlainRequest) (answers : List (List ℕ)) (found : Content) : Type 0 where
  pub kept : Content
  pub counts : WriteCounts
  pub leaves : Leaves office_protocol table_storage (λ tables. tables ≡ old) (record { state = before; kept = old; written = no_writes }) requests answers
      (λ left. left ≡ found) (record { state = after; kept = kept; written = counts })

-- From whichever sound office the old tables stood for, a stream of at most `limit` requests was served between these moments of its ends, by the laws of
-- the office and with this outcome, and a stop leaves only tables that may be found after its requests. `leaves Such` says that a stop leaves only tables
-- for which `Such` holds.
abbrev pub ServesToAStop : ℕ → Ends → Ends → Content → Result Served ServeFault → (leaves : (Content → Type 0) → Type 0) → Type 0
ServesToAStop limit start end old outcome leaves =
    (before : Office) → StandForSound old before → (after : Office)
    × Did office_protocol (λ requests answers. KeepsLaws before requests answers after × leaves (MayBeFound old before after requests answers)) limit start end outcome

-- a stream was served as `ServesToAStop` says; and a stop leaves only tables, even if the old ones stood for no office
abbrev pub AnswersToAStop : ℕ → Ends → Ends → Content → Result Served ServeFault → (leaves : (Content → Type 0) → Type 0) → Type 0
AnswersToAStop limit start end old outcome leaves = leaves (λ _. ⊤) × ServesToAStop limit start end old outcome leaves

-- a stream was served as `ServesToAStop` says, and a stop after it may leave the tables found
abbrev pub IsServedToAStop : ℕ → Ends → Ends → Content → Result Served ServeFault → Content → Type 0
IsServedToAStop limit start end old outcome found = ServesToAStop limit start end old outcome (λ Such. ∥ Such found ∥₁)
