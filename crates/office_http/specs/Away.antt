-- The answers while the office is unavailable.
use Rattle.std.specs.Prelude.{◌≡◌, ℕ, List, [], ◌∷◌, ⊤}
use Rattle.office_http.specs.Listening.{Connected, RunsBetween, ServesConnection}
use Rattle.office_http_framing.specs.Protocol.{Protocol}
use Rattle.office_http_framing.specs.Stops.{Storage}
use Rattle.office_http_responses.specs.Faults.{framing_fault_text}
use Rattle.office_http_responses.specs.Unavailable.{unavailable_bytes}

-- the answers while the office is unavailable: no request has a step, so that each is answered unavailable
abbrev pub away_protocol : Protocol ⊤
away_protocol = record {
  step = λ before request answer after. ⊥;
  fault_text = framing_fault_text;
  unavailable_text = unavailable_bytes;
}

-- nothing is stored
abbrev pub away_storage : {Machine : Type 0} → Storage Machine ⊤ ⊤
away_storage = record {
  is_honest = λ machine. ⊤;
  holds = λ machine. tt;
  may_leave = λ machine left. ⊤;
  stands = λ stored state. ⊤;
  Counts = ⊤;
  written = λ machine. tt;
  may_write = λ state request held kept old new. ⊤;
}

-- each answer is that of 503
abbrev pub AreUnavailable : List (List ℕ) → Type 0
AreUnavailable [] = Unit {0}
AreUnavailable (answer ∷ answers) = (answer ≡ unavailable_bytes) × AreUnavailable answers

-- whatever the requests are, each answer to them is that of 503
abbrev pub unavailable_by : RunsBetween ⊤ ⊤ ⊤
unavailable_by first held before last kept after requests answers = AreUnavailable answers

-- the parts of connections were served, and each text that was written is that of 503, or answers a fault of the framing
abbrev pub AnswersAway : List Connected → Type 0
AnswersAway [] = Unit {0}
AnswersAway (it ∷ parts) =
    ServesConnection away_protocol unavailable_by tt tt tt tt tt tt it × AnswersAway parts
