-- What the offsets that `httparse` answers make of the bytes at the front.
use Rattle.std.proofs.Common.{◌≡◌, ℕ, ◌+◌, ◌-◌, ◌≤◌, min, Bool, true, false, cond, List, [], ◌∷◌, map, length, take, drop, refl, sym, ap, subst, ◌∙◌, arith}
use Rattle.std.specs.Prelude.{Result, Ok, Err, slice_range, codes, nat_le}
use Rattle.std.specs.{List.list_any, Str.Parse.digits_value}
use Rattle.std.proofs.lemmas.List.{length-map, length-take, drop-take, take_min, take-take}
use Rattle.std.proofs.lemmas.Bool.Decides.{nat_tests}
use Rattle.httparse.specs.{Grammar.RequestHead, Grammar.ReadsRequest, declared.spans.Span.Span}
use Rattle.httparse.specs.Spans.{span_bytes, IsWithin, header_bytes, name_and_value, IsRequestAt}
use Rattle.httparse.specs.declared.spans.{HeaderSpan.HeaderSpan, RequestSpans.RequestSpans}
use Rattle.office_http_framing.specs.declared.front.Fault.{Fault}
use Rattle.office_http_framing.specs.Fields.{Field, is_named, values_named, is_digits, length_of, length_among, body_length}
use Rattle.office_http_framing.specs.Front.{window, fields_of, HasHead, IsFramed, HasFaultyFields, IsFaulty}
use Rattle.office_http_framing.specs.declared.front.Fault.TheVariants as fault

-- a part of the first n items is the same part of all
pub slice_range-take : (n : ℕ) (xs : List ℕ) (i j : ℕ) → i ≤ j → j ≤ length (take n xs) → slice_range (take n xs) i j ≡ slice_range xs i j
slice_range-take n xs i j ordered inside =
    let split : n ≡ i + (n - i) = omega (arith, length-take n xs) in
    ap (λ m. take (j - i) (drop i (take m xs))) split ∙ ap (take (j - i)) (drop-take i (n - i) xs) ∙ take-take (j - i) (n - i) (drop i xs) (omega (arith, length-take n xs))

-- the window that was parsed holds the head of the bytes, and its fields give what the spans give
module _ (bytes start : List ℕ) (headers : List HeaderSpan) (spans : RequestSpans) (head : RequestHead)
    (is_window : start ≡ window bytes) (few : length headers ≤ 64) (is_at : IsRequestAt start headers spans head) where
  pub head_there : HasHead bytes head
  head_there = record {
    rest = drop spans.len start;
    reads = subst (λ s. ReadsRequest s head (drop spans.len start)) is_window is_at.reads;
    few_fields =
        let count : length (take spans.headers headers) ≡ length head.fields =
        sym (length-map (take spans.headers headers) (header_bytes start)) ∙ ap length is_at.fields ∙ length-map head.fields name_and_value in
        omega (arith, length-take spans.headers headers);
  }

  pub framed_head : (outcome : Result ℕ Fault) → body_length (map (header_bytes start) (take spans.headers headers)) ≡ outcome → IsFramed bytes head outcome
  framed_head outcome e = record { has_head = head_there; outcome_is = ap body_length (sym is_at.fields) ∙ e }

-- the outcome is a length that is small enough, or a fault of the fields
abbrev pub IsOutcome : Result ℕ Fault → Type 0
IsOutcome (Ok n) = n ≤ 262144
IsOutcome (Err fault.Head) = ⊥
IsOutcome (Err fault.HeadTooLarge) = ⊥
IsOutcome (Err _) = Unit {0}

length_of-outcome : (value : List ℕ) → IsOutcome (length_of value)
length_of-outcome value = by_tests (is_digits value) (nat_le (digits_value 10 value) 262144) (λ small. grind (arith, nat_tests))
  where
    by_tests : (a b : Bool) → (b ≡ true → digits_value 10 value ≤ 262144) → IsOutcome (cond a (cond b (Ok (digits_value 10 value)) (Err fault.BodyTooLarge)) (Err fault.Length))
    by_tests true true small = small refl
    by_tests true false small = tt
    by_tests false b small = tt

length_among-outcome : (values : List (List ℕ)) → IsOutcome (length_among values)
length_among-outcome [] = omega arith
length_among-outcome (value ∷ []) = length_of-outcome value
length_among-outcome (value ∷ second ∷ more) = tt

body_length-outcome : (fields : List Field) → IsOutcome (body_length fields)
unfolding body_length
body_length-outcome fields = by_test (list_any (is_named (codes "transfer-encoding")) fields)
  where
    by_test : (b : Bool) → IsOutcome (cond b (Err fault.Coded) (length_among (values_named (codes "content-length") fields)))
    by_test true = tt
    by_test false = length_among-outcome (values_named (codes "content-length") fields)

-- a length that the fields give is at most the largest
pub body_length-bound : (fields : List Field) (n : ℕ) → body_length fields ≡ Ok n → n ≤ 262144
body_length-bound fields n e = subst IsOutcome e (body_length-outcome fields)

-- a fault that the fields give is one of the three that they can give
pub faulty_fields : (bytes : List ℕ) (which : Fault) → HasFaultyFields bytes which → IsFaulty bytes which
faulty_fields bytes fault.Head has = absurd (subst IsOutcome has.1.outcome_is (body_length-outcome (fields_of has.0)))
faulty_fields bytes fault.HeadTooLarge has = absurd (subst IsOutcome has.1.outcome_is (body_length-outcome (fields_of has.0)))
faulty_fields bytes _ has = has

-- the first bytes, as the code takes them
pub is_window : (bytes : List ℕ) (n : ℕ) → n ≡ min (length bytes) 8192 → take n bytes ≡ window bytes
unfolding window
is_window bytes n is =
    let swap : n ≡ min 8192 (length bytes) = omega arith in
    ap (λ k. take k bytes) swap ∙ take_min 8192 bytes

-- the method, the path and the body are parts of all the bytes
pub part_of_window : (bytes start : List ℕ) (s : Span) → start ≡ window bytes → (n : ℕ) → IsWithin n s → n ≤ length start → span_bytes start s ≡ span_bytes bytes s
unfolding window
part_of_window bytes start s is n within inside =
    ap (λ t. span_bytes t s) is ∙ slice_range-take 8192 bytes s.start s.end within.0 (omega (arith, ap length is))
