-- The cells of a row tell the row: no field has a comma, so its text, cut at the commas, gives the
-- fields back, and these spell one row.
use Rattle.std.proofs.Common.{◌≡◌, ◌≢◌, ℕ, ◌^◌, ◌<◌, ◌≤◌, Bool, true, false, eqb, List, [], ◌∷◌, map, Option, refl, sym, ap, ◌∙◌, arith}
use Rattle.std.specs.Prelude.{codes, not, IfSome, IsTrue}
use Rattle.std.specs.{Char.is_ascii_digit, Fmt.decimal, List.All, List.list_all, List.join_with_byte, List.slice_split}
use Rattle.std.proofs.lemmas.{Bool.and_parts, Bool.and_from, Bool.not-true, Bool.Decides.nat_tests, List.Folds.list_all-append, List.Elements.All-weaker, List.Splits.join_with_byte-slice_split, List.Splits.slice_split_at, List.Splits.slice_split_none, List.Sums.AllPass-from_list_all, List.Sums.list_all-from_AllPass}
use Rattle.signal_records.specs.{declared.record.Ped.Ped, declared.record.Phase.Phase, declared.record.SplitMode.SplitMode, declared.record.Row.Row, PhaseList.is_phase, PhaseList.is_phase_list, PhaseList.is_distinct, Reading.is_numeral, Spelling.list, Spelling.flag, Spelling.lead_field, Spelling.ped_fields, Spelling.phase_front, Spelling.phase_fields, Spelling.spelling, SplitMode.mode_code, declared.limits.Limits.Limits, Within.AreLimits}
use Rattle.signal_values.specs.declared.number.TheConstants.{PHASES}
use Rattle.signal_records.specs.Within.{current_limits, most_lead, IsAnyPedWithin, IsPhaseWithin, IsRowWithin}
use Rattle.signal_records.proofs.{FieldLaws.numeral_decimal, FieldLaws.in_range, RowLaws.row_only, RowLaws.are_current}
use Rattle.office_tables_shelf.specs.Rows.{body_in, body_of, timing_columns, left_columns_in, left_columns}
use Rattle.signal_records.specs.declared.record.Row.TheVariants as row

abbrev pub is_comma : ℕ → Bool
is_comma b = eqb b 44

-- no comma
abbrev is_plain : ℕ → Bool
is_plain b = not (is_comma b)

abbrev is_whole : List ℕ → Bool
is_whole = list_all is_plain

-- ---- cut and joined

weaker : {X : Type 0} (p q : X → Bool) → ((x : X) → p x ≡ true → q x ≡ true) → (xs : List X)
    → list_all p xs ≡ true → list_all q xs ≡ true
weaker p q holds xs h = list_all-from_AllPass q xs
    (All-weaker (λ x. p x ≡ true) (λ x. q x ≡ true) holds xs (AllPass-from_list_all p xs h))

-- what passes with the byte between passes joined
joined : (p : ℕ → Bool) (c : ℕ) (xs : List (List ℕ)) → p c ≡ true
    → list_all (list_all p) xs ≡ true → list_all p (join_with_byte c xs) ≡ true
joined p c [] between h = refl
joined p c (x ∷ []) between h = (and_parts (list_all p x) true h).0
joined p c (x ∷ y ∷ xs) between h =
    let all = and_parts (list_all p x) (list_all (list_all p) (y ∷ xs)) h in
    list_all-append p x (c ∷ join_with_byte c (y ∷ xs))
    ∙ and_from _ _ all.0 (and_from _ _ between (joined p c (y ∷ xs) between all.1))

no_commas : (bs : List ℕ) → is_whole bs ≡ true → All (λ b. is_comma b ≡ false) bs
no_commas bs h = All-weaker (λ b. is_plain b ≡ true) (λ b. is_comma b ≡ false)
    (λ b. not-true (is_comma b)) bs (AllPass-from_list_all is_plain bs h)

cut_joined : (xs : List (List ℕ)) → xs ≢ [] → list_all is_whole xs ≡ true → slice_split is_comma (join_with_byte 44 xs) ≡ xs
cut_joined [] none h = absurd (none refl)
cut_joined (x ∷ []) some h = slice_split_none is_comma x (no_commas x (and_parts (is_whole x) true h).0)
cut_joined (x ∷ y ∷ ys) some h =
    let all = and_parts (is_whole x) (list_all is_whole (y ∷ ys)) h in
    slice_split_at is_comma x 44 (join_with_byte 44 (y ∷ ys)) (no_commas x all.0) refl
    ∙ ap (λ rest. x ∷ rest) (cut_joined (y ∷ ys) (λ is. cc) all.1)

-- ---- fields

digit_whole : (b : ℕ) → is_ascii_digit b ≡ true → is_plain b ≡ true
digit_whole b h = grind (arith, nat_tests)

numeral_whole : (bs : List ℕ) → is_numeral bs ≡ true → is_whole bs ≡ true
numeral_whole [] h = refl
numeral_whole (b ∷ bs) h = weaker is_ascii_digit is_plain digit_whole (b ∷ bs)
    (and_parts (list_all is_ascii_digit (b ∷ bs)) _ h).0

decimal_whole : (n : ℕ) → n < 2 ^ 64 → is_whole (decimal n) ≡ true
decimal_whole n small = numeral_whole (decimal n) (numeral_decimal n small)

flag_whole : (b : Bool) → is_whole (flag b) ≡ true
flag_whole b = grind (arith, decimal_whole)

mode_whole : (m : SplitMode) → is_whole (decimal (mode_code m)) ≡ true
mode_whole m = let few : mode_code m ≤ 7 = grind arith in decimal_whole (mode_code m) (omega arith)

phases_whole : (last : ℕ) (ns : List ℕ) → last ≤ PHASES → list_all (is_phase last) ns ≡ true → list_all is_whole (map decimal ns) ≡ true
phases_whole last [] small h = refl
phases_whole last (n ∷ ns) small h =
    let p = and_parts (is_phase last n) (list_all (is_phase last) ns) h in
    let top = (in_range 1 last n p.0).1 in
    and_from _ _ (decimal_whole n (omega arith)) (phases_whole last ns small p.1)

list_whole : (last : ℕ) (ns : List ℕ) → last ≤ PHASES → IsTrue (is_phase_list last ns) → is_whole (list ns) ≡ true
list_whole last ns small h = joined is_plain 32 (map decimal ns) refl (phases_whole last ns small (and_parts (list_all (is_phase last) ns) (is_distinct ns) h).0)

-- ---- rows

abbrev are_whole : List (List ℕ) → Bool
are_whole = list_all is_whole

lead_whole : (has_lead : Bool) (lead : ℕ) → lead ≤ most_lead has_lead → are_whole (lead_field has_lead lead) ≡ true
lead_whole has_lead lead most = grind (arith, decimal_whole)

ped_whole : (has_lead : Bool) (ped : Option Ped) → IsAnyPedWithin has_lead ped → are_whole (ped_fields has_lead ped) ≡ true
ped_whole has_lead ped within = grind (arith, decimal_whole, flag_whole, lead_whole)

phase_whole : (limits : Limits) (p : ℕ) (phase : Phase) → AreLimits limits → IsPhaseWithin limits p phase → are_whole (codes "phase" ∷ phase_fields limits p phase) ≡ true
phase_whole limits p phase are within =
    let mates = list_whole limits.phases phase.mates are.phases within.mates in
    let ped = ped_whole limits.has_lead phase.ped within.ped in
    list_all-append is_whole (codes "phase" ∷ phase_front p phase) (ped_fields limits.has_lead phase.ped) ∙ (grind (arith, decimal_whole, mates, ped))

row_whole : (limits : Limits) (r : Row) → AreLimits limits → IsRowWithin limits r → are_whole (spelling limits r) ≡ true
row_whole limits (row.Phase p phase) are within = phase_whole limits p phase are within
row_whole limits (row.Seq n ring r) are within =
    rw (decimal_whole n (omega arith), decimal_whole ring (omega arith), list_whole limits.phases r.list are.phases within.1.1) refl
row_whole limits (row.Split n p split) are within =
    rw (decimal_whole n (omega arith), decimal_whole p (omega arith), decimal_whole split.time (omega arith), mode_whole split.mode, flag_whole split.coord) refl
row_whole limits (row.Pattern n pattern) are within =
    rw (decimal_whole n (omega arith), decimal_whole pattern.cycle (omega arith), decimal_whole pattern.offset (omega arith), decimal_whole pattern.split (omega arith), decimal_whole pattern.seq (omega arith)) refl

-- a row's text, cut at the commas, gives its fields
pub fields_back : (limits : Limits) (r : Row) → AreLimits limits → IsRowWithin limits r → slice_split is_comma (body_in limits r) ≡ spelling limits r
unfolding body_in
fields_back limits r are within = cut_joined (spelling limits r) (λ is. grind arith) (row_whole limits r are within)

-- fields that were cut at the commas are those of a text
pub body_back : (limits : Limits) (r : Row) (bytes : List ℕ) → slice_split is_comma bytes ≡ spelling limits r → body_in limits r ≡ bytes
unfolding body_in
body_back limits r bytes same = ap (join_with_byte 44) (sym same) ∙ join_with_byte-slice_split 44 bytes

-- ---- what the text and the cells tell

-- a text is that of one row
pub same_row : (limits : Limits) (a b : Row) → AreLimits limits → IsRowWithin limits a
    → IsRowWithin limits b → body_in limits a ≡ body_in limits b → a ≡ b
same_row limits a b are in_a in_b same =
    let read_a = row_only limits a are in_a in
    let read_b = row_only limits b are in_b in
    cc (fields_back limits a are in_a, fields_back limits b are in_b, read_a, read_b)

-- and so do the cells of what a draft row leaves
pub same_left : (limits : Limits) (a b : Option Row) → AreLimits limits
    → IfSome a (IsRowWithin limits) → IfSome b (IsRowWithin limits)
    → left_columns_in limits a ≡ left_columns_in limits b → a ≡ b
same_left limits a b are in_a in_b same = grind (arith, same_row)

-- in today's version
pub timing_columns_tell : (a b : Row) → IsRowWithin current_limits a → IsRowWithin current_limits b → timing_columns a ≡ timing_columns b → a ≡ b
timing_columns_tell a b in_a in_b same = let bodies : body_of a ≡ body_of b = cc in same_row current_limits a b are_current in_a in_b bodies
