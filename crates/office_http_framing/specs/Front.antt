-- What the bytes of a stream begin with: a whole request, a part of one, or a fault.
use Rattle.std.specs.Prelude.{◌≡◌, ℕ, ◌+◌, ◌<◌, ◌≤◌, ◌⊎◌, Bool, ◌||◌, List, map, length, take, slice_range, Result, Ok, Err, ◌==◌}
use Rattle.std.specs.List.{before_first}
use Rattle.httparse.specs.Grammar.{RequestHead, print_request, ReadsRequest, HasNoRequest, MayBecomeRequest}
use Rattle.httparse.specs.Spans.{name_and_value, RequestOverflows}
use Rattle.office_http_framing.specs.declared.front.Fault.{Fault}
use Rattle.office_http_framing.specs.declared.front.Fault.TheVariants as fault
use Rattle.office_http_framing.specs.declared.front.Request.{Request}
use Rattle.office_http_framing.specs.declared.front.Front.{Front}
use Rattle.office_http_framing.specs.declared.front.Front.TheVariants as front
use Rattle.office_http_framing.specs.Fields.{Field, body_length, closes}
use Rattle.office_http_framing.specs.Limits.{head_limit, field_limit, question_mark}

-- a request, as bytes, wherever they lie in memory; the stream ends after the answer to one that is last
pub record PlainRequest : Type 0 where
  pub method : List ℕ
  pub path : List ℕ
  pub body : List ℕ
  pub last : Bool

-- the names and the values of the head's fields
abbrev pub fields_of : RequestHead → List Field
fields_of head = map name_and_value head.fields

-- how many bytes the head takes
abbrev pub head_length : RequestHead → ℕ
head_length head = length (print_request head)

-- the first bytes, in which a head has to be whole
unfoldable pub window : List ℕ → List ℕ
window bytes = take head_limit bytes

-- the path of a request's target: what comes before its first question mark
abbrev pub path_of : List ℕ → List ℕ
path_of target = before_first (λ b. b == question_mark) target

-- the request is the last of its stream: by HTTP/1.0, or by `close` in a Connection field
abbrev pub is_last : RequestHead → Bool
is_last head = (head.minor == 0) || closes (fields_of head)

-- the request of a head and a body
abbrev pub request_of : RequestHead → List ℕ → PlainRequest
request_of head body = record {
  method = head.method;
  path = path_of head.target;
  body = body;
  last = is_last head;
}

-- the window begins with this whole head, which has at most `field_limit` fields
pub record HasHead (bytes : List ℕ) (head : RequestHead) : Type 0 where
  pub rest : List ℕ
  pub reads : ReadsRequest (window bytes) head rest
  pub few_fields : length head.fields ≤ field_limit

-- the window begins with a whole head, whose fields give this length or fault
pub record IsFramed (bytes : List ℕ) (head : RequestHead) (outcome : Result ℕ Fault) : Type 0 where
  pub has_head : HasHead bytes head
  pub outcome_is : body_length (fields_of head) ≡ outcome

-- the bytes begin with this whole request, of so many bytes
pub record BeginsWithRequest (bytes : List ℕ) (request : PlainRequest) (len : ℕ) : Type 0 where
  pub head : RequestHead
  pub size : ℕ
  pub framed : IsFramed bytes head (Ok size)
  pub len_is : len ≡ head_length head + size
  pub whole : len ≤ length bytes
  pub request_is : request ≡ request_of head (slice_range bytes (head_length head) len)

-- a whole head has come, and its body has not come whole
pub record AwaitsBody (bytes : List ℕ) : Type 0 where
  pub head : RequestHead
  pub size : ℕ
  pub framed : IsFramed bytes head (Ok size)
  pub short : length bytes < head_length head + size

-- no bytes that follow can make a head of at most `field_limit` fields
abbrev pub IsHopeless : List ℕ → Type 0
IsHopeless bytes = RequestOverflows field_limit bytes

-- no head is whole yet, and some bytes can follow that make one, or the target is still being read
abbrev pub IsUnfinished : List ℕ → Type 0
IsUnfinished bytes = HasNoRequest bytes × MayBecomeRequest bytes

-- the request at the front has not come whole
abbrev pub IsIncomplete : List ℕ → Type 0
IsIncomplete bytes = ((length bytes < head_limit) × IsUnfinished (window bytes)) ⊎ AwaitsBody bytes

-- a whole head is at the front, and its fields give the fault
abbrev pub HasFaultyFields : List ℕ → Fault → Type 0
HasFaultyFields bytes which = (head : RequestHead) × IsFramed bytes head (Err which)

-- the bytes begin with the fault
abbrev pub IsFaulty : List ℕ → Fault → Type 0
IsFaulty bytes fault.Head = IsHopeless (window bytes)
IsFaulty bytes fault.HeadTooLarge = (head_limit ≤ length bytes) × IsUnfinished (window bytes)
IsFaulty bytes fault.Length = HasFaultyFields bytes fault.Length
IsFaulty bytes fault.BodyTooLarge = HasFaultyFields bytes fault.BodyTooLarge
IsFaulty bytes fault.Coded = HasFaultyFields bytes fault.Coded

-- a borrowed request as plain bytes
abbrev pub plain : Request → PlainRequest
plain r = record { method = r.method.now; path = r.path.now; body = r.body.now; last = r.last }

-- this is what the bytes begin with
abbrev pub IsFrontOf : List ℕ → Front → Type 0
IsFrontOf bytes (front.Whole r len) = BeginsWithRequest bytes (plain r) len
IsFrontOf bytes front.More = IsIncomplete bytes
IsFrontOf bytes (front.Bad which) = IsFaulty bytes which
