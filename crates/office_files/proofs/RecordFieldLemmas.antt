-- Fields of a record row and what they spell: days, words and codes of parts.
use Rattle.std.proofs.Common.{◌≡◌, ◌≢◌, ℕ, zero, suc, ◌<◌, ◌≤◌, Bool, true, false, inl, inr, nat_le, ◌==◌, ◌↔◌, List, Option, Some, None, IsSome, IfSome, Result, Ok, Err, IfOk, refl, sym, ap, arith}
use Rattle.std.specs.{Bool.Decides, List.All, List.list_all, Option.ok_or, Str.bytes_eq}
use Rattle.std.specs.Prelude.{IsTrue, if◌then◌else◌}
use Rattle.std.proofs.lemmas.Bool.{leb-true, le-leb, cases_Bool, cases_lt}
use Rattle.std.proofs.lemmas.Bool.Decides.{Decides-and, Decides-not, Decides-eqb, Decides-like, Decides-by_and}
use Rattle.std.proofs.{lemmas.Slice.Eq.bytes_eq-Decides, lemmas.Str.is_utf8-from_IsUtf8, lemmas.Str.IsUtf8-from_is_utf8}
use Rattle.signal_records.specs.declared.fault.RowFault.{RowFault}
use Rattle.signal_records.specs.declared.fault.RowFault.TheVariants as fault
use Rattle.signal_records.specs.Reading.{◌>>=◌, text_at}
use Rattle.signal_values.specs.Words.{AreWords}
use Rattle.signal_records.proofs.RowLaws.{IsRead, same_bytes, step}
use Rattle.cabinet_core.specs.{Day.civil_day, Day.day_text, Day.IsDay, Day.SpellsDay, Part.IsPartCode, Part.is_code_byte}
use Rattle.cabinet_core.proofs.DayLemmas.{civil_day_is_dated, civil_day_is_short, spelt_digits, digits_same}
use Rattle.office_files.specs.RecordReading.{day_among, day_of, day_at, is_printed, is_words, words_of, words_at, is_part_code, part_of, part_at}

-- tests of words and of codes

le-decided : (a b : ℕ) → Decides (nat_le a b) (a ≤ b)
le-decided a b = (leb-true a b, le-leb a b)

printed-decided : (b : ℕ) → Decides (is_printed b) ((32 ≤ b) × (b ≢ 127))
printed-decided b = Decides-and _ _ (le-decided 32 b) (Decides-not (b == 127) (Decides-eqb b 127))

all_printed-decided : (bytes : List ℕ) → Decides (list_all is_printed bytes) (All (λ b. (32 ≤ b) × (b ≢ 127)) bytes)
all_printed-decided bytes = Decides-by_and is_printed (λ b. (32 ≤ b) × (b ≢ 127)) (list_all is_printed) printed-decided refl (λ _ _. refl) bytes

words-decided : (max : ℕ) (bytes : List ℕ) → Decides (is_words max bytes) (AreWords max bytes)
words-decided max bytes =
    Decides-like (is_words max bytes) (λ h. record { utf8 = h.0; some = h.1.0; short = h.1.1.0; printed = h.1.1.1 }) (λ w. (w.utf8, (w.some, (w.short, w.printed))))
    (Decides-and _ _ (IsUtf8-from_is_utf8 bytes, is_utf8-from_IsUtf8 bytes) (Decides-and _ _ (le-decided 1 _) (Decides-and _ _ (le-decided _ max) (all_printed-decided bytes))))

code-decided : (b : ℕ) → Decides (is_code_byte b) (IsTrue (is_code_byte b))
code-decided b = (λ h. h, λ h. h)

all_code-decided : (bytes : List ℕ) → Decides (list_all is_code_byte bytes) (All (λ b. IsTrue (is_code_byte b)) bytes)
all_code-decided bytes = Decides-by_and is_code_byte (λ b. IsTrue (is_code_byte b)) (list_all is_code_byte) code-decided refl (λ _ _. refl) bytes

part-decided : (bytes : List ℕ) → Decides (is_part_code bytes) (IsPartCode bytes)
part-decided bytes =
    Decides-like (is_part_code bytes) (λ h. record { some = h.0; short = h.1.0; spelt = h.1.1 }) (λ w. (w.some, (w.short, w.spelt)))
    (Decides-and _ _ (le-decided 1 _) (Decides-and _ _ (le-decided _ 20) (all_code-decided bytes)))

-- a text that is kept exactly where it passes
kept_by_test : {P : Type 0} (bytes : List ℕ) (found : Option (List ℕ)) (b : Bool) → Decides b P → IsSome found ↔ P → IfSome found (λ text. text ≡ bytes) → found ≡ (if b then Some bytes else None)
kept_by_test bytes None true d a k = absurd (cc (a.1 (d.0 refl)))
kept_by_test bytes None false d a k = refl
kept_by_test bytes (Some text) true d a k = ap Some k
kept_by_test bytes (Some text) false d a k = absurd (cc (d.1 (a.0 refl)))

pub given_words : {E : Type 0} (max : ℕ) (bytes : List ℕ) (result : Result (Option (List ℕ)) E) → IfOk result (λ words. IsSome words ↔ AreWords max bytes) → IfOk result (λ words. IfSome words (λ text. text ≡ bytes)) → IfOk result (λ words. words ≡ words_of max bytes)
unfolding words_of
given_words max bytes (Ok found) accepts keeps = kept_by_test bytes found (is_words max bytes) (words-decided max bytes) accepts keeps
given_words max bytes (Err e) accepts keeps = tt

pub given_part : {E : Type 0} (bytes : List ℕ) (result : Result (Option (List ℕ)) E) → IfOk result (λ part. IsSome part ↔ IsPartCode bytes) → IfOk result (λ part. IfSome part (λ text. text ≡ bytes)) → IfOk result (λ part. part ≡ part_of bytes)
unfolding part_of
given_part bytes (Ok found) accepts keeps = kept_by_test bytes found (is_part_code bytes) (part-decided bytes) accepts keeps
given_part bytes (Err e) accepts keeps = tt

-- days

-- what is found among the first days is one of them, and spelt so
among_found : (count : ℕ) (text : List ℕ) (n : ℕ) → day_among count text ≡ Some n → (n < count) × (text ≡ day_text n)
unfolding day_among
among_found zero text n h = absurd cc
among_found (suc count) text n h =
    elim (cases_Bool (bytes_eq text (day_text count))) [
      | inl same ↦
          let is : count ≡ n = cc (rw same at h) in
          rw (← is) (omega arith, same_bytes text (day_text count) same)
      | inr other ↦
          let rest = among_found count text n (rw other at h) in
          (omega (arith, rest.0), rest.1)
    ]

-- what is not found is no text of one of them
among_not : (count : ℕ) (text : List ℕ) (n : ℕ) → day_among count text ≡ None → n < count → text ≢ day_text n
unfolding day_among
among_not zero text n h low e = absurd (omega arith)
among_not (suc count) text n h low e =
    elim (cases_Bool (bytes_eq text (day_text count))) [
      | inl same ↦ cc (rw same at h)
      | inr other ↦ elim (cases_lt n count) [
        | inl lower ↦ among_not count text n (rw other at h) lower e
        | inr same ↦
            let is : n ≡ count = omega arith in
            let equal = (bytes_eq-Decides text (day_text count)).1 (rw is at e) in
            cc
      ]
    ]

-- a day is spelt as no other is
pub day_text_injective : (m n : ℕ) → IsDay m → IsDay n → day_text m ≡ day_text n → m ≡ n
day_text_injective m n first second same =
    let a = spelt_digits (day_text m) m (record { day = first; spelt = refl }) in
    let b = spelt_digits (day_text m) n (record { day = second; spelt = same }) in
    let c = civil_day_is_short m first in
    let d = civil_day_is_short n second in
    let century = digits_same _ _ _ _ c.century d.century a.century.0 a.century.1 b.century.0 b.century.1 in
    let rest = digits_same _ _ _ _ c.year d.year a.year.0 a.year.1 b.year.0 b.year.1 in
    let month = digits_same _ _ _ _ c.month d.month a.month.0 a.month.1 b.month.0 b.month.1 in
    let day = digits_same _ _ _ _ c.day d.day a.day.0 a.day.1 b.day.0 b.day.1 in
    let year : (civil_day m).year ≡ (civil_day n).year = omega arith in
    let number = (civil_day_is_dated m).number in
    let other = (civil_day_is_dated n).number in
    cc

-- what reads days reads the day that is defined
day_by_cases : (count : ℕ) (text : List ℕ) (found among : Option ℕ) → day_among count text ≡ among → ((n : ℕ) → IsDay n → n < count) → ((n : ℕ) → n < count → IsDay n) → IfSome found (SpellsDay text) → ((n : ℕ) → SpellsDay text n → found ≡ Some n) → found ≡ among
day_by_cases count text found (Some m) is below above spelt accepted =
    let one = among_found count text m is in
    accepted m (record { day = above m one.0; spelt = one.1 })
day_by_cases count text (Some n) None is below above spelt accepted = absurd (among_not count text n is (below n spelt.day) spelt.spelt)
day_by_cases count text None None is below above spelt accepted = refl

pub given_day : (text : List ℕ) (found : Option ℕ) → IfSome found (SpellsDay text) → ((n : ℕ) → SpellsDay text n → found ≡ Some n) → found ≡ day_of text
unfolding day_of
given_day text found spelt accepted =
    day_by_cases 84_006 text found (day_among 84_006 text) refl (λ n h. omega arith) (λ n h. omega arith) spelt accepted

-- what fields spell

ok_or_ok : {X : Type 0} (found : Option X) (e : RowFault) (x : X) → ok_or found e ≡ Ok x → found ≡ Some x
ok_or_ok None e x h = absurd cc
ok_or_ok (Some y) e x h = cc

day_found : (text : List ℕ) (e : RowFault) (n : ℕ) → ok_or (day_of text) e ≡ Ok n → (text ≡ day_text n) × IsDay n
unfolding day_of
day_found text e n h =
    let one = among_found 84_006 text n (ok_or_ok (day_among 84_006 text) e n h) in
    (one.1, omega (arith, one.0))

spelt_among : (count n : ℕ) (among : Option ℕ) → day_among count (day_text n) ≡ among → n < count → ((m : ℕ) → m < count → IsDay m) → among ≡ Some n
spelt_among count n None is low days = absurd (among_not count (day_text n) n is low refl)
spelt_among count n (Some m) is low days =
    let one = among_found count (day_text n) m is in
    ap Some (sym (day_text_injective n m (days n low) (days m one.0) one.1))

pub day_only : (n : ℕ) (e : RowFault) → IsDay n → ok_or (day_of (day_text n)) e ≡ Ok n
unfolding day_of
day_only n e day = ap (λ found. ok_or found e) (spelt_among 84_006 n (day_among 84_006 (day_text n)) refl (omega arith) (λ m h. omega arith))

passed : {P : Type 0} (text x : List ℕ) (e : RowFault) (b : Bool) → Decides b P → ok_or (if b then Some text else None) e ≡ Ok x → (text ≡ x) × P
passed text x e true d h = (cc, d.0 refl)
passed text x e false d h = absurd cc

passes : {P : Type 0} (text : List ℕ) (e : RowFault) (b : Bool) → Decides b P → P → ok_or (if b then Some text else None) e ≡ Ok text
passes text e b d p = rw (d.1 p) refl

words_found : (max : ℕ) (text : List ℕ) (e : RowFault) (x : List ℕ) → ok_or (words_of max text) e ≡ Ok x → (text ≡ x) × AreWords max x
unfolding words_of
words_found max text e x h =
    let both = passed text x e (is_words max text) (words-decided max text) h in
    (both.0, rw both.0 at both.1)

pub words_only : (max : ℕ) (text : List ℕ) (e : RowFault) → AreWords max text → ok_or (words_of max text) e ≡ Ok text
unfolding words_of
words_only max text e words = passes text e (is_words max text) (words-decided max text) words

part_found : (text : List ℕ) (e : RowFault) (x : List ℕ) → ok_or (part_of text) e ≡ Ok x → (text ≡ x) × IsPartCode x
unfolding part_of
part_found text e x h =
    let both = passed text x e (is_part_code text) (part-decided text) h in
    (both.0, rw both.0 at both.1)

pub part_only : (text : List ℕ) (e : RowFault) → IsPartCode text → ok_or (part_of text) e ≡ Ok text
unfolding part_of
part_only text e code = passes text e (is_part_code text) (part-decided text) code

-- fields that were read

pub day_step : {B : Type 0} (place : ℕ) (fields : List (List ℕ)) (f : ℕ → Result B RowFault) (y : B) → (day_at place fields >>= f) ≡ Ok y → IsRead (text_at place fields) day_text IsDay f y
unfolding day_at
day_step place fields f y h = step (ok_or (day_of (text_at place fields)) (fault.Day place)) (day_found (text_at place fields) (fault.Day place)) f y h

pub words_step : {B : Type 0} (max place : ℕ) (fields : List (List ℕ)) (f : List ℕ → Result B RowFault) (y : B) → (words_at max place fields >>= f) ≡ Ok y → IsRead (text_at place fields) (λ text. text) (AreWords max) f y
unfolding words_at
words_step max place fields f y h = step (ok_or (words_of max (text_at place fields)) (fault.Text place)) (words_found max (text_at place fields) (fault.Text place)) f y h

pub part_step : {B : Type 0} (place : ℕ) (fields : List (List ℕ)) (f : List ℕ → Result B RowFault) (y : B) → (part_at place fields >>= f) ≡ Ok y → IsRead (text_at place fields) (λ text. text) IsPartCode f y
unfolding part_at
part_step place fields f y h = step (ok_or (part_of (text_at place fields)) (fault.Text place)) (part_found (text_at place fields) (fault.Text place)) f y h
