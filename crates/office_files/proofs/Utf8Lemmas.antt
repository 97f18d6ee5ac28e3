-- A file of texts is a text.
use Rattle.std.proofs.Common.{◌≡◌, ◌≢◌, ℕ, zero, suc, ◌+◌, ◌<◌, ◌/◌, ◌%◌, ◌==◌, nat_lt, Bool, true, false, cond, inl, inr, List, [], ◌∷◌, ◌++◌, map, All, Result, Ok, Err, get_or, sym, subst, ◌∙◌, arith}
use Rattle.std.specs.{Prelude.IfOk, Prelude.OnOk, Prelude.IsUtf8, Char.encode_utf8, Char.IsScalar, Fmt.decimal, Fmt.digits, Fmt.digits_onto, Fmt.digit_glyph, List.list_any, List.list_all, List.join_with_byte, Str.IsAscii, Str.encode_utf8_all, Str.all_scalars}
use Rattle.std.proofs.lemmas.Bool.{and_parts, cases_eq, ltb-true, ne_eqb}
use Rattle.std.proofs.lemmas.List.{append-nil, Folds.list_any_none}
use Rattle.std.proofs.lemmas.List.Elements.{All-from_get_or, All-head, All-tail}
use Rattle.std.proofs.lemmas.Str.{IsUtf8-nil, IsUtf8-append, IsUtf8-encode, IsUtf8-from_ascii, encode_ascii, inside_one}
use Rattle.std.proofs.lemmas.Str.Ascii.{IsAscii-nil, IsAscii-cons}
use Rattle.csv.specs.Writing.{escaped, quoted, field_text, fields_text, is_blank, needs_byte, row_text}
use Rattle.csv.proofs.WriteFacts.{escaped-append, escaped-none}
use Rattle.office_files.specs.Csv.{csv_text, file_writer}

-- each field is a text
abbrev pub AreTexts : List (List ℕ) → Type 0
AreTexts [] = Unit
AreTexts (field ∷ fields) = IsUtf8 field × AreTexts fields

pub AreTexts-append : (xs ys : List (List ℕ)) → AreTexts xs → AreTexts ys → AreTexts (xs ++ ys)
AreTexts-append [] ys h k = k
AreTexts-append (x ∷ xs) ys h k = (h.0, AreTexts-append xs ys h.1 k)

-- a byte of ASCII before a text
pub before : (b : ℕ) (text : List ℕ) → b < 128 → IsUtf8 text → IsUtf8 (b ∷ text)
before b text low h = IsUtf8-append (b ∷ []) text (IsUtf8-from_ascii (b ∷ []) (IsAscii-cons b [] low IsAscii-nil)) h

-- bytes that are found to be of ASCII
pub IsUtf8-low : (bytes : List ℕ) → list_all (λ b. nat_lt b 128) bytes ≡ true → IsUtf8 bytes
IsUtf8-low [] h = IsUtf8-nil
IsUtf8-low (b ∷ bytes) h =
    let each = and_parts (nat_lt b 128) (list_all (λ c. nat_lt c 128) bytes) h in
    before b bytes (ltb-true b 128 each.0) (IsUtf8-low bytes each.1)

-- numbers

digit_low : (b : Bool) (d : ℕ) → d < 10 → cond b (48 + d) (87 + d) < 128
digit_low true d low = omega arith
digit_low false d low = omega arith

digits-ascii : (count n : ℕ) (rest : List ℕ) → IsAscii rest → IsAscii (digits_onto count 10 false n rest)
digits-ascii zero n rest h = h
digits-ascii (suc count) n rest h =
    let more = IsAscii-cons (digit_glyph false (n % 10)) rest (digit_low (nat_lt (n % 10) 10) (n % 10) (omega arith)) h in
    by_test (n / 10 == 0) _ _ more (digits-ascii count (n / 10) (digit_glyph false (n % 10) ∷ rest) more)
  where
    by_test : (b : Bool) (xs ys : List ℕ) → IsAscii xs → IsAscii ys → IsAscii (cond b xs ys)
    by_test true xs ys one other = one
    by_test false xs ys one other = other

pub IsUtf8-decimal : (n : ℕ) → IsUtf8 (decimal n)
unfolding digits
IsUtf8-decimal n = IsUtf8-from_ascii (decimal n) (digits-ascii 64 n [] IsAscii-nil)

pub IsUtf8-list : (ns : List ℕ) → IsUtf8 (join_with_byte 32 (map decimal ns))
IsUtf8-list [] = IsUtf8-nil
IsUtf8-list (n ∷ []) = IsUtf8-decimal n
IsUtf8-list (n ∷ m ∷ ns) = IsUtf8-append (decimal n) _ (IsUtf8-decimal n) (before 32 _ (omega arith) (IsUtf8-list (m ∷ ns)))

-- quotes

-- no byte of another character is a quote
no_quote : (c : ℕ) → c ≢ 34 → list_any (λ b. b == 34) (encode_utf8 c) ≡ false
no_quote c other =
    list_any_none (λ b. b == 34) (encode_utf8 c) (All-from_get_or (λ b. (b == 34) ≡ false) (encode_utf8 c) 0 (λ i low.
    ne_eqb (get_or (encode_utf8 c) i 0) 34 (λ is. other (inside_one c [] (encode_utf8 c) i (sym (append-nil (encode_utf8 c))) low (omega (arith, is)) ∙ is))))

escaped-char : (c : ℕ) → IsScalar c → IsUtf8 (escaped file_writer (encode_utf8 c))
unfolding escaped
escaped-char c is = elim (cases_eq c 34) [
  | inl quote ↦
      let one : encode_utf8 c ≡ 34 ∷ [] = rw quote (encode_ascii 34 (omega arith)) in
      rw one (before 34 (34 ∷ []) (omega arith) (before 34 [] (omega arith) IsUtf8-nil))
  | inr other ↦ rw (escaped-none file_writer (encode_utf8 c) (no_quote c other)) (IsUtf8-encode c is)
]

escaped-chars : (cs : List ℕ) → all_scalars cs ≡ true → IsUtf8 (escaped file_writer (encode_utf8_all cs))
unfolding escaped
escaped-chars [] h = IsUtf8-nil
escaped-chars (c ∷ cs) h =
    let each = and_parts _ (all_scalars cs) h in
    rw (escaped-append file_writer (encode_utf8 c) (encode_utf8_all cs)) (IsUtf8-append (escaped file_writer (encode_utf8 c)) (escaped file_writer (encode_utf8_all cs)) (escaped-char c each.0) (escaped-chars cs each.1))

-- files

IsUtf8-escaped : (field : List ℕ) → IsUtf8 field → IsUtf8 (escaped file_writer field)
IsUtf8-escaped field h = subst (λ bytes. IsUtf8 (escaped file_writer bytes)) h.1.1 (escaped-chars h.0 h.1.0)

IsUtf8-field : (field : List ℕ) → IsUtf8 field → IsUtf8 (field_text file_writer field)
IsUtf8-field field h = by_test (list_any (needs_byte file_writer) field)
  where
    by_test : (b : Bool) → IsUtf8 (cond b (quoted file_writer field) field)
    by_test true = before 34 _ (omega arith) (IsUtf8-append (escaped file_writer field) (34 ∷ []) (IsUtf8-escaped field h) (before 34 [] (omega arith) IsUtf8-nil))
    by_test false = h

IsUtf8-fields : (fields : List (List ℕ)) → AreTexts fields → IsUtf8 (fields_text file_writer fields)
unfolding fields_text
IsUtf8-fields [] h = IsUtf8-nil
IsUtf8-fields (field ∷ fields) h = before 44 _ (omega arith) (IsUtf8-append (field_text file_writer field) (fields_text file_writer fields) (IsUtf8-field field h.0) (IsUtf8-fields fields h.1))

IsUtf8-end : (b : Bool) → IsUtf8 (cond b (34 ∷ 34 ∷ []) [] ++ 10 ∷ [])
IsUtf8-end true = before 34 _ (omega arith) (before 34 _ (omega arith) (before 10 [] (omega arith) IsUtf8-nil))
IsUtf8-end false = before 10 [] (omega arith) IsUtf8-nil

IsUtf8-row : (fields : List (List ℕ)) → AreTexts fields → IsUtf8 (row_text file_writer fields)
IsUtf8-row [] h = IsUtf8-end (is_blank file_writer [])
IsUtf8-row (field ∷ fields) h =
    IsUtf8-append (field_text file_writer field ++ fields_text file_writer fields) _
    (IsUtf8-append (field_text file_writer field) (fields_text file_writer fields) (IsUtf8-field field h.0) (IsUtf8-fields fields h.1))
    (IsUtf8-end (is_blank file_writer (field ∷ fields)))

module _ {T : Type 0} (spelling : T → List (List ℕ)) (IsWithin : T → Type 0) (texts : (value : T) → IsWithin value → AreTexts (spelling value)) where
  IsUtf8-csv_text : (values : List T) → All IsWithin values → IsUtf8 (csv_text (map spelling values))
  IsUtf8-csv_text [] within = IsUtf8-nil
  IsUtf8-csv_text (value ∷ values) within =
      IsUtf8-append (row_text file_writer (spelling value)) (csv_text (map spelling values)) (IsUtf8-row (spelling value) (texts value (All-head IsWithin value values within))) (IsUtf8-csv_text values (All-tail IsWithin value values within))

  -- the law of a result
  pub given_utf8 : {V E : Type 0} (items : V → List ℕ) (result : Result V E) (values : List T) → IfOk result (λ text. items text ≡ csv_text (map spelling values)) → OnOk result (All IsWithin values) → IfOk result (λ text. IsUtf8 (items text))
  given_utf8 items (Ok text) values written within = rw written (IsUtf8-csv_text values within)
  given_utf8 items (Err e) values written within = tt
