-- One front, and one list of requests.
use Rattle.std.proofs.Common.{◌≡◌, ℕ, ◌+◌, ◌<◌, ◌⊎◌, List, [], ◌∷◌, drop, refl, sym, ap, ap₂, subst, ◌∙◌, inl, inr, arith}
use Rattle.std.specs.Prelude.{Result, Ok, Err, slice_range}
use Rattle.std.proofs.lemmas.List.{append-nil}
use Rattle.httparse.specs.Grammar.{RequestHead, ReadsRequest}
use Rattle.httparse.proofs.GrammarLemmas.{request_unique}
use Rattle.office_http_framing.specs.{declared.front.Fault.Fault, Fields.body_length}
use Rattle.office_http_framing.specs.declared.front.Fault.TheVariants as fault
use Rattle.office_http_framing.specs.Front.{PlainRequest, window, head_length, fields_of, request_of, HasHead, IsFramed, BeginsWithRequest, IsHopeless, IsUnfinished, IsIncomplete, HasFaultyFields, IsFaulty}
use Rattle.office_http_framing.specs.Stream.{left_after, BeginsWith, Ending, closed, unfinished, faulty, EndsAt}
use Rattle.office_http_framing.specs.Laws.{IsLeftOpen, HasOneFront, HasOneList}

same_head : (bytes : List ℕ) (h k : RequestHead) → HasHead bytes h → HasHead bytes k → h ≡ k
same_head bytes h k x y = (request_unique (window bytes) h k x.rest y.rest x.reads y.reads).0

-- the fields of one head give one outcome
same_outcome : (bytes : List ℕ) (h k : RequestHead) (a b : Result ℕ Fault) → IsFramed bytes h a → IsFramed bytes k b → a ≡ b
same_outcome bytes h k a b x y =
    sym x.outcome_is ∙ ap (λ head. body_length (fields_of head)) (same_head bytes h k x.has_head y.has_head) ∙ y.outcome_is

-- a whole head is neither hopeless nor unfinished
not_hopeless : (bytes : List ℕ) (h : RequestHead) → HasHead bytes h → IsHopeless (window bytes) → ⊥
not_hopeless bytes h x hopeless =
    let over = hopeless [] h x.rest (subst (λ w. ReadsRequest w h x.rest) (sym (append-nil (window bytes))) x.reads) in
    omega (arith, x.few_fields, over)

not_unfinished : (bytes : List ℕ) (h : RequestHead) → HasHead bytes h → IsUnfinished (window bytes) → ⊥
not_unfinished bytes h x part = part.0 h x.rest x.reads

-- a whole head has no fault but that of its fields
only_fault : (bytes : List ℕ) (h : RequestHead) (a : Result ℕ Fault) (which : Fault) → IsFramed bytes h a → IsFaulty bytes which → a ≡ Err which
only_fault bytes h a fault.Head x bad = absurd (not_hopeless bytes h x.has_head bad)
only_fault bytes h a fault.HeadTooLarge x bad = absurd (not_unfinished bytes h x.has_head bad.1)
only_fault bytes h a _ x bad = same_outcome bytes h bad.0 a _ x bad.1

size_is : (m n : ℕ) → ◌≡◌ {A = Result ℕ Fault} (Ok m) (Ok n) → m ≡ n
size_is m n e = cc

same_request : (bytes : List ℕ) (r s : PlainRequest) (m n : ℕ) → BeginsWithRequest bytes r m → BeginsWithRequest bytes s n → (r ≡ s) × (m ≡ n)
same_request bytes r s m n x y =
    let head = same_head bytes x.head y.head x.framed.has_head y.framed.has_head in
    let size = size_is x.size y.size (same_outcome bytes x.head y.head (Ok x.size) (Ok y.size) x.framed y.framed) in
    let len : m ≡ n = x.len_is ∙ ap₂ (λ (h : RequestHead) (k : ℕ). head_length h + k) head size ∙ sym y.len_is in
    (x.request_is ∙ ap₂ (λ (h : RequestHead) (k : ℕ). request_of h (slice_range bytes (head_length h) k)) head len ∙ sym y.request_is, len)

not_incomplete : (bytes : List ℕ) (r : PlainRequest) (m : ℕ) → BeginsWithRequest bytes r m → IsIncomplete bytes → ⊥
not_incomplete bytes r m x (inl short) = not_unfinished bytes x.head x.framed.has_head short.1
not_incomplete bytes r m x (inr body) =
    let head = same_head bytes x.head body.head x.framed.has_head body.framed.has_head in
    let size = size_is x.size body.size (same_outcome bytes x.head body.head (Ok x.size) (Ok body.size) x.framed body.framed) in
    omega (arith, x.len_is, x.whole, body.short, ap head_length head, size)

not_faulty : (bytes : List ℕ) (r : PlainRequest) (m : ℕ) (which : Fault) → BeginsWithRequest bytes r m → IsFaulty bytes which → ⊥
not_faulty bytes r m which x bad =
    let e : ◌≡◌ {A = Result ℕ Fault} (Ok x.size) (Err which) = only_fault bytes x.head (Ok x.size) which x.framed bad in cc

left_open : (bytes : List ℕ) (which : Fault) → IsIncomplete bytes → IsFaulty bytes which → IsLeftOpen bytes
left_open bytes which (inr body) bad =
    let e : ◌≡◌ {A = Result ℕ Fault} (Ok body.size) (Err which) = only_fault bytes body.head (Ok body.size) which body.framed bad in cc
left_open bytes fault.Head (inl short) bad = record { hopeless = bad; unfinished = short.1 }
left_open bytes fault.HeadTooLarge (inl short) bad = absurd (omega (arith, short.0, bad.0))
left_open bytes _ (inl short) bad = absurd (not_unfinished bytes bad.0 bad.1.has_head short.1)

err_is : (f g : Fault) → ◌≡◌ {A = Result ℕ Fault} (Err f) (Err g) → f ≡ g
err_is f g e = cc

-- a fault of the fields is the only one
fault_of_fields : (bytes : List ℕ) (f g : Fault) → HasFaultyFields bytes f → IsFaulty bytes g → (f ≡ g) ⊎ IsLeftOpen bytes
fault_of_fields bytes f g x y = inl (err_is f g (only_fault bytes x.0 (Err f) g x.1 y))

one_fault : (bytes : List ℕ) (f g : Fault) → IsFaulty bytes f → IsFaulty bytes g → (f ≡ g) ⊎ IsLeftOpen bytes
one_fault bytes fault.Head fault.Head x y = inl refl
one_fault bytes fault.Head fault.HeadTooLarge x y = inr (record { hopeless = x; unfinished = y.1 })
one_fault bytes fault.HeadTooLarge fault.Head x y = inr (record { hopeless = y; unfinished = x.1 })
one_fault bytes fault.HeadTooLarge fault.HeadTooLarge x y = inl refl
one_fault bytes fault.Head _ x y = absurd (not_hopeless bytes y.0 y.1.has_head x)
one_fault bytes fault.HeadTooLarge _ x y = absurd (not_unfinished bytes y.0 y.1.has_head x.1)
one_fault bytes f g x y = fault_of_fields bytes f g x y

pub has_one_front : (bytes : List ℕ) → HasOneFront bytes
has_one_front bytes = record {
  requests = same_request bytes;
  no_more = not_incomplete bytes;
  no_fault = not_faulty bytes;
  left_open = left_open bytes;
  faults = one_fault bytes;
}

-- where a list ends no further request stands
ended : (bytes : List ℕ) (limit : ℕ) (ending : Ending) (r : PlainRequest) (m : ℕ) → EndsAt bytes limit ending → 0 < limit → BeginsWithRequest bytes r m → ⊥
ended bytes limit closed r m ends some x = omega (arith, ends)
ended bytes limit unfinished r m ends some x = not_incomplete bytes r m x ends.1
ended bytes limit (faulty which) r m ends some x = not_faulty bytes r m which x ends.1

same_list : (limit : ℕ) (bytes : List ℕ) (rs ss : List PlainRequest) (rest rest' : List ℕ) (left left' : ℕ) (ending ending' : Ending)
    → BeginsWith limit bytes rs rest left → EndsAt rest left ending → BeginsWith limit bytes ss rest' left' → EndsAt rest' left' ending' → rs ≡ ss
same_list limit bytes [] [] rest rest' left left' ending ending' x ends y ends' = refl
same_list limit bytes [] (s ∷ ss) rest rest' left left' ending ending' x ends y ends' =
    absurd (ended bytes limit ending s y.0 (subst (λ n. EndsAt bytes n ending) (sym x.1) (subst (λ t. EndsAt t left ending) (sym x.0) ends)) y.1 y.2)
same_list limit bytes (r ∷ rs) [] rest rest' left left' ending ending' x ends y ends' =
    absurd (ended bytes limit ending' r x.0 (subst (λ n. EndsAt bytes n ending') (sym y.1) (subst (λ t. EndsAt t left' ending') (sym y.0) ends')) x.1 x.2)
same_list limit bytes (r ∷ rs) (s ∷ ss) rest rest' left left' ending ending' x ends y ends' =
    let first = same_request bytes r s x.0 y.0 x.2 y.2 in
    let later : BeginsWith (left_after limit r) (drop x.0 bytes) ss rest' left' =
    subst (λ q. BeginsWith (left_after limit q) (drop x.0 bytes) ss rest' left') (sym first.0)
    (subst (λ n. BeginsWith (left_after limit s) (drop n bytes) ss rest' left') (sym first.1) y.3) in
    ap₂ (λ (q : PlainRequest) (qs : List PlainRequest). q ∷ qs) first.0
    (same_list (left_after limit r) (drop x.0 bytes) rs ss rest rest' left left' ending ending' x.3 ends later ends')

pub has_one_list : (limit : ℕ) (bytes : List ℕ) → HasOneList limit bytes
has_one_list limit bytes rs ss ending ending' x y =
    same_list limit bytes rs ss x.rest y.rest x.left y.left ending ending' x.begins x.ends y.begins y.ends
