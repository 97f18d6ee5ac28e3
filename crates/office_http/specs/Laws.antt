-- What the requests of a whole stream make of the office: a run of the commands that they ask, and
-- the laws of that run.
use Rattle.std.specs.Prelude.{◌≡◌, ◌⊎◌, ℕ, List, [], ◌∷◌, ◌++◌, Result, Ok, Err}
use Rattle.office_machine.specs.Office.{Office, side_at}
use Rattle.office_machine.specs.RegisterRuns.{RegisterRuns}
use Rattle.office_machine.specs.Repeats.{Repeats}
use Rattle.office_machine.specs.Step.{AreSound, Run}
use Rattle.office_machine.specs.Timing.{running_plan}
use Rattle.office_machine.specs.declared.command.Command.{Command}
use Rattle.office_machine.specs.declared.refusal.Refusal.TheVariants.{Unavailable}
use Rattle.office_machine.specs.declared.reply.Reply.{Reply}
use Rattle.office_machine.specs.declared.reply.Reply.TheVariants.{Refused}
use Rattle.office_http_requests.specs.declared.fault.AskFault.{AskFault}
use Rattle.office_http_framing.specs.Front.{PlainRequest}
use Rattle.office_http_framing.specs.Laws.{RunsJoin}
use Rattle.office_http_framing.specs.Stops.{Moment, Ran, Storage}
use Rattle.office_tables_shelf.specs.Content.{Content}
use Rattle.office_http.specs.Protocol.{office_protocol, read_of}
use Rattle.office_http_responses.specs.Answers.{answer_bytes}
use Rattle.office_http_responses.specs.Unavailable.{unavailable_bytes}
use Rattle.office_http_responses.specs.Faults.{ask_fault_text}
use Rattle.office_http_requests.specs.declared.command.Asked.{Asked}
use Rattle.signal_plans.specs.StreetLaws.{StreetLaws}

-- ---- the commands

-- the command that a request was read as, if it was read as one
abbrev pub command_read : Result Asked AskFault → List Command
command_read (Ok asked) = asked.command ∷ []
command_read (Err fault) = []

-- the command that a request asks, if it asks one
abbrev pub asked_of : PlainRequest → List Command
asked_of request = command_read (read_of request)

-- the commands that requests ask, in their order
abbrev pub asked_in : List PlainRequest → List Command
asked_in [] = []
asked_in (request ∷ requests) = asked_of request ++ asked_in requests

-- ---- their replies, and the answers

-- the answer has the reply in the form that was asked for; or the reply is Unavailable, and the answer is
-- that of 503
abbrev pub TellsReply : Asked → Reply → List ℕ → Type 0
TellsReply asked reply answer =
    (answer ≡ answer_bytes reply asked.form)
    ⊎ ((reply ≡ Refused Unavailable) × (answer ≡ unavailable_bytes))

-- The answer to a request that is a command tells the first of the replies, and leaves the others;
-- the answer to any other tells its fault, or that memory was refused, and leaves all.
abbrev pub TellsRead : Result Asked AskFault → List ℕ → (replies left : List Reply) → Type 0
TellsRead (Ok asked) answer replies left =
    (reply : Reply) × TellsReply asked reply answer × (replies ≡ reply ∷ left)
TellsRead (Err fault) answer replies left =
    ((answer ≡ ask_fault_text fault) ⊎ (answer ≡ unavailable_bytes)) × (replies ≡ left)

-- each request has an answer, and the answers to commands tell the replies, in their order
abbrev pub TellsReplies : List PlainRequest → List Reply → List (List ℕ) → Type 0
TellsReplies [] [] [] = Unit {0}
TellsReplies (request ∷ requests) replies (answer ∷ answers) =
    (left : List Reply) × TellsRead (read_of request) answer replies left
    × TellsReplies requests left answers
TellsReplies _ _ _ = ⊥

-- ---- the laws

-- The office machine ran over the commands that the requests ask, and the answers tell its replies. Each
-- office on the way is sound, so that no committed set breaks a rule. Each committed set of the last keeps
-- the laws of the street, and is the draft as it was just before its last accepted commit, or what it was
-- at the start. Orders and stock are what the accepted commands of the register made of them; and an import
-- that was accepted and is sent again adds nothing.
pub record KeepsLaws
    (before : Office) (requests : List PlainRequest) (answers : List (List ℕ))
    (after : Office) : Type 0 where
  pub replies : List Reply
  pub run : Run before (asked_in requests) replies after
  pub tells : TellsReplies requests replies answers
  pub sound : AreSound before (asked_in requests) replies after run
  pub street : (id : ℕ) → StreetLaws (side_at after id).committed
  pub running : (id : ℕ)
      → (side_at after id).committed ≡ running_plan id (side_at before id).committed before
      (asked_in requests) replies after run
  pub register : RegisterRuns before (asked_in requests) replies after run
  pub repeats : Repeats before (asked_in requests) replies after run

-- What the office did over requests and their answers: it ran over them; each wrote the rows that
-- it may; the tables that are kept stand for the office after them; a crash leaves no more than the
-- run lets it; and the run keeps the laws.
pub record Serves
    {Shelf : Type 0} (storage : Storage Shelf Office Content) (may : Content → Type 0)
    (first : Moment storage) (last : Shelf) (kept : Content) (after : Office)
    (requests : List PlainRequest) (answers : List (List ℕ)) : Type 0 where
  pub ran : Ran office_protocol storage may first last kept after requests answers
  pub laws : KeepsLaws first.state requests answers after

-- Requests were run, and then more of them from the office that the first ones left: one after the
-- other, they are a run that keeps the laws of a whole one.
abbrev pub LawsJoin : Type 0
LawsJoin =
    (before middle after : Office)
    → RunsJoin (λ requests answers. KeepsLaws before requests answers middle)
    (λ requests answers. KeepsLaws middle requests answers after)
    (λ requests answers. KeepsLaws before requests answers after)
