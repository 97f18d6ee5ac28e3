-- What a machine may answer to a request and to a fault of the framing.
use Rattle.std.specs.Prelude.{◌≡◌, ℕ, ◌⊎◌, List}
use Rattle.office_http_framing.specs.declared.front.Fault.{Fault}
use Rattle.office_http_framing.specs.declared.machine.Answer.{Answer}
use Rattle.office_http_framing.specs.declared.machine.Answer.TheVariants.{Written, Fixed}
use Rattle.office_http_framing.specs.Front.{PlainRequest}

-- the bytes of an answer
abbrev pub bytes_of : Answer → List ℕ
bytes_of (Written bytes) = bytes.items
bytes_of (Fixed bytes) = bytes.now

-- The answers of a machine that has a state. By `step`, a request may get the answer and leave the
-- second state; `fault_text` answers a fault of the framing; `unavailable_text` says that memory or
-- the store was refused.
pub record Protocol (State : Type 0) : Type 1 where
  pub step : State → PlainRequest → List ℕ → State → Type 0
  pub fault_text : Fault → List ℕ
  pub unavailable_text : List ℕ

-- the request takes its step, or is answered unavailable and leaves the state
abbrev pub MayAnswer : {State : Type 0} →
    Protocol State → State → PlainRequest → List ℕ → State → Type 0
MayAnswer protocol before request answer after =
    protocol.step before request answer after
    ⊎ ((answer ≡ protocol.unavailable_text) × (after ≡ before))

-- this is the answer to the fault, or the one that says that memory was refused
abbrev pub AnswersFault : {State : Type 0} → Protocol State → Fault → List ℕ → Type 0
AnswersFault protocol which answer =
    (answer ≡ protocol.fault_text which) ⊎ (answer ≡ protocol.unavailable_text)
