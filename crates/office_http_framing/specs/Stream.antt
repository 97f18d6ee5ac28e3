-- The requests of a stream of bytes.
use Rattle.std.specs.Prelude.{◌≡◌, ℕ, ◌-◌, ◌<◌, List, [], ◌∷◌, drop, if◌then◌else◌}
use Rattle.office_http_framing.specs.declared.front.Fault.{Fault}
use Rattle.office_http_framing.specs.Front.{PlainRequest, BeginsWithRequest, IsIncomplete, IsFaulty}

-- how many more requests may come after this one: none after the last
abbrev pub left_after : ℕ → PlainRequest → ℕ
left_after limit request = if request.last then 0 else limit - 1

-- the bytes are these requests, at most as many as the limit, and then `rest`; `left` more may come
abbrev pub BeginsWith : ℕ → List ℕ → List PlainRequest → List ℕ → ℕ → Type 0
BeginsWith limit bytes [] rest left = (bytes ≡ rest) × (limit ≡ left)
BeginsWith limit bytes (request ∷ requests) rest left =
    (len : ℕ) × (0 < limit) × BeginsWithRequest bytes request len
    × BeginsWith (left_after limit request) (drop len bytes) requests rest left

-- why no further request follows: the last one came or the limit was reached, a fault, or the end
-- of the bytes before a request was whole
pub data Ending : Type 0 where
  closed unfinished : Ending
  faulty : Fault → Ending

-- the list of requests ends this way, if these bytes are left and so many more requests may come
abbrev pub EndsAt : List ℕ → ℕ → Ending → Type 0
EndsAt rest left closed = left ≡ 0
EndsAt rest left unfinished = (0 < left) × IsIncomplete rest
EndsAt rest left (faulty which) = (0 < left) × IsFaulty rest which

-- the requests of the bytes, at most as many as the limit, and how their list ends
pub record AreRequests
    (limit : ℕ) (bytes : List ℕ) (requests : List PlainRequest) (ending : Ending) : Type 0 where
  pub rest : List ℕ
  pub left : ℕ
  pub begins : BeginsWith limit bytes requests rest left
  pub ends : EndsAt rest left ending
