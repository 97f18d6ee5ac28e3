-- The requests of bytes that more bytes follow.
use Rattle.std.proofs.Common.{◌≡◌, ℕ, ◌+◌, ◌-◌, ◌<◌, ◌≤◌, Bool, true, false, cond, List, [], ◌∷◌, ◌++◌, length, take, drop, sym, ap, subst, ◌∙◌, inl, inr, arith, append_assoc}
use Rattle.std.specs.Prelude.{slice_range, Result, Ok}
use Rattle.std.proofs.{Math.Seq.take-append_seam, Math.Seq.take-append-add, lemmas.Bool.cases_lt}
use Rattle.std.proofs.lemmas.List.{length-append, take-append-le, drop-append-le, length-take, append-nil, take_all}
use Rattle.httparse.specs.Grammar.{RequestHead, print_request, ReadsRequest}
use Rattle.httparse.proofs.GrammarLemmas.{ReadsRequest-append}
use Rattle.office_http_framing.specs.declared.front.Fault.{Fault}
use Rattle.office_http_framing.specs.Front.{PlainRequest, window, head_length, fields_of, request_of, HasHead, IsFramed, BeginsWithRequest, IsIncomplete}
use Rattle.office_http_framing.specs.Stream.{left_after, BeginsWith}
use Rattle.office_http_framing.proofs.FrontLemmas.{slice_range-take, body_length-bound}

take-append : (n : ℕ) (xs ys : List ℕ) → take n (xs ++ ys) ≡ take n xs ++ take (n - length xs) ys
take-append n xs ys = elim (cases_lt n (length xs)) [
  | inl short ↦
      let none : n - length xs ≡ 0 = omega arith in
      take-append-le n xs ys (omega arith) ∙ sym (append-nil (take n xs)) ∙ ap (λ m. take n xs ++ take m ys) (sym none)
  | inr long ↦
      let split : n ≡ length xs + (n - length xs) = omega arith in
      ap (λ m. take m (xs ++ ys)) split ∙ take-append-add xs ys (n - length xs)
      ∙ ap (λ t. t ++ take (n - length xs) ys) (sym (take_all n xs long))
]

-- the window of more bytes is the window and some of them
pub window-append : (bytes more : List ℕ) → window (bytes ++ more) ≡ window bytes ++ take (8192 - length bytes) more
unfolding window
window-append bytes more = take-append 8192 bytes more

-- a part of bytes is the same part of more bytes
pub slice_range-append : (xs ys : List ℕ) (i j : ℕ) → i ≤ j → j ≤ length xs → slice_range (xs ++ ys) i j ≡ slice_range xs i j
slice_range-append xs ys i j ordered inside =
    let seam = take-append_seam xs ys in
    sym (slice_range-take (length xs) (xs ++ ys) i j ordered (omega (arith, ap length seam))) ∙ ap (λ t. slice_range t i j) seam

-- a head that is whole stays the head
pub HasHead-append : (bytes more : List ℕ) (head : RequestHead) → HasHead bytes head → HasHead (bytes ++ more) head
HasHead-append bytes more head has =
    let later = take (8192 - length bytes) more in
    record {
      rest = has.rest ++ later;
      reads = subst (λ w. ReadsRequest w head (has.rest ++ later)) (sym (window-append bytes more)) (ReadsRequest-append (window bytes) head has.rest later has.reads);
      few_fields = has.few_fields;
    }

pub IsFramed-append : (bytes more : List ℕ) (head : RequestHead) (outcome : Result ℕ Fault) → IsFramed bytes head outcome → IsFramed (bytes ++ more) head outcome
IsFramed-append bytes more head outcome framed = record { has_head = HasHead-append bytes more head framed.has_head; outcome_is = framed.outcome_is }

-- a request that is whole stays the request
pub BeginsWithRequest-append : (bytes more : List ℕ) (request : PlainRequest) (len : ℕ) → BeginsWithRequest bytes request len → BeginsWithRequest (bytes ++ more) request len
BeginsWithRequest-append bytes more request len begins =
    let head = begins.head in
    record {
      head = head;
      size = begins.size;
      framed = IsFramed-append bytes more head (Ok begins.size) begins.framed;
      len_is = begins.len_is;
      whole = omega (arith, length-append bytes more, begins.whole);
      request_is = begins.request_is ∙ ap (request_of head) (sym (slice_range-append bytes more (head_length head) len (omega (arith, begins.len_is)) begins.whole));
    }

-- the requests of bytes are requests of those bytes and more, and the more is left
pub BeginsWith-append : (limit : ℕ) (bytes more : List ℕ) (requests : List PlainRequest) (rest : List ℕ) (left : ℕ)
    → BeginsWith limit bytes requests rest left → BeginsWith limit (bytes ++ more) requests (rest ++ more) left
BeginsWith-append limit bytes more [] rest left begins = (ap (λ t. t ++ more) begins.0, begins.1)
BeginsWith-append limit bytes more (request ∷ requests) rest left begins = (
  begins.0,
  begins.1,
  BeginsWithRequest-append bytes more request begins.0 begins.2,
  subst (λ t. BeginsWith (left_after limit request) t requests (rest ++ more) left) (sym (drop-append-le begins.0 bytes more begins.2.whole))
      (BeginsWith-append (left_after limit request) (drop begins.0 bytes) more requests rest left begins.3),
)

-- more bytes come behind those that begin with the requests, some of which had come before
pub BeginsWith-more : (limit : ℕ) (come given more : List ℕ) (requests : List PlainRequest) (rest : List ℕ) (left : ℕ)
    → BeginsWith limit (come ++ given) requests rest left → BeginsWith limit (come ++ (given ++ more)) requests (rest ++ more) left
BeginsWith-more limit come given more requests rest left begins =
    subst (λ bytes. BeginsWith limit bytes requests (rest ++ more) left) (append_assoc come given more) (BeginsWith-append limit (come ++ given) more requests rest left begins)

-- requests, and those of what they leave
pub BeginsWith-join : (limit : ℕ) (bytes : List ℕ) (requests : List PlainRequest) (middle : List ℕ) (between : ℕ) (more : List PlainRequest) (rest : List ℕ) (left : ℕ)
    → BeginsWith limit bytes requests middle between → BeginsWith between middle more rest left → BeginsWith limit bytes (requests ++ more) rest left
BeginsWith-join limit bytes [] middle between more rest left begins later =
    subst (λ n. BeginsWith n bytes more rest left) (sym begins.1) (subst (λ t. BeginsWith between t more rest left) (sym begins.0) later)
BeginsWith-join limit bytes (request ∷ requests) middle between more rest left begins later =
    (begins.0, begins.1, begins.2, BeginsWith-join (left_after limit request) (drop begins.0 bytes) requests middle between more rest left begins.3 later)

-- where more may come, none of the requests was the last one, and each took one off the limit
pub BeginsWith-left : (limit : ℕ) (bytes : List ℕ) (requests : List PlainRequest) (rest : List ℕ) (left : ℕ)
    → BeginsWith limit bytes requests rest left → 0 < left → left + length requests ≡ limit
BeginsWith-left limit bytes [] rest left begins some = omega (arith, begins.1)
BeginsWith-left limit bytes (request ∷ requests) rest left begins some =
    let later = BeginsWith-left (left_after limit request) (drop begins.0 bytes) requests rest left begins.3 some in
    omega (arith, by_last request.last later begins.1)
  where
    by_last : (last : Bool) → left + length requests ≡ cond last 0 (limit - 1) → 0 < limit → left + length requests + 1 ≡ limit
    by_last true later more = omega (arith, later, some)
    by_last false later more = omega (arith, later, more)

-- one more request, at the front of what is left
pub BeginsWith-next : (limit : ℕ) (bytes : List ℕ) (requests : List PlainRequest) (rest : List ℕ) (left : ℕ) (request : PlainRequest) (len : ℕ)
    → BeginsWith limit bytes requests rest left → 0 < left → BeginsWithRequest rest request len
    → BeginsWith limit bytes (requests ++ request ∷ []) (drop len rest) (left_after left request)
BeginsWith-next limit bytes [] rest left request len begins some next = (
  len,
  subst (λ n. 0 < n) (sym begins.1) some,
  subst (λ t. BeginsWithRequest t request len) (sym begins.0) next,
  (ap (drop len) begins.0, ap (λ n. left_after n request) begins.1),
)
BeginsWith-next limit bytes (first ∷ requests) rest left request len begins some next =
    (begins.0, begins.1, begins.2, BeginsWith-next (left_after limit first) (drop begins.0 bytes) requests rest left request len begins.3 some next)

head-bound : (bytes : List ℕ) (head : RequestHead) → HasHead bytes head → head_length head ≤ 8192
unfolding window
head-bound bytes head has =
    omega (arith, ap length has.reads.1, length-append (print_request head) has.rest, length-take 8192 bytes)

-- a request is no longer than the buffer
pub request-bound : (bytes : List ℕ) (request : PlainRequest) (len : ℕ) → BeginsWithRequest bytes request len → len ≤ 270336
request-bound bytes request len begins =
    omega (arith, begins.len_is, head-bound bytes begins.head begins.framed.has_head, body_length-bound (fields_of begins.head) begins.size begins.framed.outcome_is)

-- bytes that fill the buffer hold a whole request or a fault
pub incomplete-bound : (bytes : List ℕ) → IsIncomplete bytes → length bytes < 270336
incomplete-bound bytes (inl short) = omega (arith, short.0)
incomplete-bound bytes (inr body) =
    omega (arith, body.short, head-bound bytes body.head body.framed.has_head, body_length-bound (fields_of body.head) body.size body.framed.outcome_is)
