-- What is answered while the office can't be had: each request that it is unavailable.
use Rattle.std.proofs.Common.{◌≡◌, ℕ, List, [], ◌∷◌}
use Rattle.std.specs.Prelude.{⊤}
use Rattle.office_http.specs.Away.{AnswersAway, AreUnavailable, away_protocol, away_storage}
use Rattle.office_http.specs.Listening.{Connected, ServesEach, ran_by}
use Rattle.office_http_framing.proofs.ServeLemmas.{DidPart-weaker}
use Rattle.office_http_framing.specs.Front.{PlainRequest}
use Rattle.office_http_framing.specs.Stops.{How, stepped, unavailable, Leaves, LeavesOne, Moment, Passes}
use Rattle.office_http_responses.specs.Unavailable.{unavailable_bytes}

module _ {Machine : Type 0} where
  passed_over : (how : How) (request : PlainRequest) (answer : List ℕ) (old new : Moment (away_storage {Machine = Machine})) → Passes away_protocol (away_storage {Machine = Machine}) how request answer old new
      → answer ≡ unavailable_bytes
  passed_over stepped request answer old new passes = absurd passes.0
  passed_over unavailable request answer old new passes = passes.0

  all_refused : (may : ⊤ → Type 0) (first last : Moment (away_storage {Machine = Machine})) (requests : List PlainRequest) (answers : List (List ℕ)) (at_end : ⊤ → Type 0)
      → Leaves away_protocol (away_storage {Machine = Machine}) may first requests answers at_end last → AreUnavailable answers
  all_refused may first last [] [] at_end leaves = tt
  all_refused may first last (request ∷ requests) (answer ∷ answers) at_end leaves = (
    passed_over leaves.0 request answer first leaves.1 leaves.2,
    all_refused (LeavesOne away_protocol (away_storage {Machine = Machine}) leaves.0 request may first leaves.1) leaves.1 last requests answers at_end leaves.3,
  )
  all_refused may first last [] (answer ∷ answers) at_end leaves = absurd leaves
  all_refused may first last (request ∷ requests) [] at_end leaves = absurd leaves

  pub answers_away : (served : List Connected) (first : Machine) (held before : ⊤) (last : Machine) (kept after : ⊤)
      → ServesEach away_protocol (ran_by away_protocol (away_storage {Machine = Machine})) first held before served last kept after → AnswersAway served
  answers_away [] first held before last kept after each = tt
  answers_away (it ∷ parts) first held before last kept after each = (
    record {
      outcome = each.3.outcome;
      did = DidPart-weaker away_protocol _ _ _ _ _ _ _ each.3.outcome (λ requests answers ran. all_refused _ _ _ requests answers _ ran.leaves) each.3.did;
      fault = each.3.fault;
      asks = each.3.asks;
      goes_on = each.3.goes_on;
      left = each.3.left;
    },
    answers_away parts each.0 each.1 each.2 last kept after each.4,
  )
