-- How the source is asked while a stream is served.
use Rattle.std.proofs.Common.{◌≡◌, ℕ, zero, suc, ◌<◌, List, [], ◌∷◌, ◌++◌, drop, refl, subst, sym}
use Rattle.std.proofs.lemmas.List.{append-nil}
use Rattle.std.specs.Io.KnownBytes.{Consumes}
use Rattle.office_http_framing.specs.{Asks.Asks, Asks.IsAwaited, Ends.NoneStops, Ends.Told, Ends.raised_count, Front.PlainRequest, Front.BeginsWithRequest, Front.IsIncomplete, Stream.left_after, Stream.BeginsWith}
use Rattle.office_http_framing.proofs.StreamLemmas.{BeginsWith-more, BeginsWith-next}

-- Some bytes had come before, and the calls so far gave more: together they begin with some requests and then `held`, and so many more
-- may come.
pub record AsksSoFar (limit left : ℕ) (come held : List ℕ) (first source : Told) : Type 0 where
  pub calls : ℕ
  pub given : List ℕ
  pub requests : List PlainRequest
  pub asks : Asks (λ piece. IsAwaited limit (come ++ piece)) first calls given source
  pub begins : BeginsWith limit (come ++ given) requests held left

-- where less is due at each call
pub asks-weaker : (P Q : List ℕ → Type 0) → ((held : List ℕ) → P held → Q held)
    → (first : Told) (calls : ℕ) (given : List ℕ) (source : Told) → Asks P first calls given source → Asks Q first calls given source
asks-weaker P Q weaker first zero given source asks = asks
asks-weaker P Q weaker first (suc calls) given source asks =
    (asks.0, asks.1, asks.2, asks-weaker P Q weaker first calls asks.1 asks.0 asks.3, weaker asks.1 asks.4, asks.5, asks.6, asks.7)

-- nothing was asked yet
pub asks-start : (limit : ℕ) (come : List ℕ) (first : Told) → AsksSoFar limit limit come come first first
asks-start limit come first = record { calls = 0; given = []; requests = []; asks = (refl, refl); begins = (append-nil come, refl) }

module _ (limit left : ℕ) (come held : List ℕ) (first source : Told) (so_far : AsksSoFar limit left come held first source) where
  -- a request was taken off
  pub asks-next : (request : PlainRequest) (len left' : ℕ) (held' : List ℕ) → 0 < left → BeginsWithRequest held request len
      → left_after left request ≡ left' → drop len held ≡ held' → AsksSoFar limit left' come held' first source
  asks-next request len left' held' some whole same_left same_held =
      subst (λ h. AsksSoFar limit left' come h first source) same_held
      (subst (λ l. AsksSoFar limit l come (drop len held) first source) same_left
      (record {
        calls = so_far.calls;
        given = so_far.given;
        requests = so_far.requests ++ request ∷ [];
        asks = so_far.asks;
        begins = BeginsWith-next limit (come ++ so_far.given) so_far.requests held left request len so_far.begins some whole;
      }))

  -- one call more, while a request is awaited
  pub asks-more : (next : Told) (piece held' : List ℕ) → 0 < left → IsIncomplete held → NoneStops first.counts source.counts → Consumes source.bytes next.bytes piece
      → next.counts.calls ≡ raised_count source.counts.calls → held' ≡ held ++ piece → AsksSoFar limit left come held' first next
  asks-more next piece held' some incomplete none_stops reads counts same_held =
      subst (λ h. AsksSoFar limit left come h first next) (sym same_held)
      (record {
        calls = suc so_far.calls;
        given = so_far.given ++ piece;
        requests = so_far.requests;
        asks = (
          source,
          so_far.given,
          piece,
          so_far.asks,
          (so_far.requests, record { rest = held; left = left; begins = so_far.begins; ends = (some, incomplete) }),
          none_stops,
          record { reads = reads; calls = counts },
          refl,
        );
        begins = BeginsWith-more limit come so_far.given piece so_far.requests held left so_far.begins;
      })

  pub only_asks : (calls : ℕ) × (given : List ℕ) × Asks (λ piece. IsAwaited limit (come ++ piece)) first calls given source
  only_asks = (so_far.calls, so_far.given, so_far.asks)
