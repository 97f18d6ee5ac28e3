-- The columns that `write!` makes are those that are defined.
use Rattle.std.proofs.Common.{get_or, take, flat_map, append-nil, ◌≡◌, ℕ, ◌+◌, ◌-◌, ◌/◌, ◌%◌, ◌<◌, ◌^◌, List, [], ◌∷◌, ◌++◌, length, replicate, decimal, refl, sym, ap, ◌∙◌, arith, append_assoc, length-append}
use Rattle.std.specs.Fmt.{styled_decimal, format_spec}
use Rattle.std.proofs.{lemmas.List.take_more, lemmas.Grind.flat_map-append, lemmas.Fmt.decimal_digit, Padding.padded_integral_right}
use Rattle.office_files.specs.Cells.{right_aligned, tenths}

-- a number that is written with a width stands at the right
pub column_of : (n : ℕ) → styled_decimal (format_spec 32 3 0 6 (2 ^ 64 - 1)) n ≡ right_aligned 6 (decimal n)
unfolding right_aligned
column_of n =
    padded_integral_right (format_spec 32 3 0 6 (2 ^ 64 - 1)) (decimal n) refl refl (λ e. absurd (omega arith)) (λ e. absurd (omega arith)) (omega arith)

pub short_column_of : (n : ℕ) → styled_decimal (format_spec 32 3 0 4 (2 ^ 64 - 1)) n ≡ right_aligned 4 (decimal n)
unfolding right_aligned
short_column_of n =
    padded_integral_right (format_spec 32 3 0 4 (2 ^ 64 - 1)) (decimal n) refl refl (λ e. absurd (omega arith)) (λ e. absurd (omega arith)) (omega arith)

-- a text goes to the right with what follows it
right_aligned-append : (width more : ℕ) (text rest : List ℕ) → length rest ≡ more → right_aligned width text ++ rest ≡ right_aligned (width + more) (text ++ rest)
unfolding right_aligned
right_aligned-append width more text rest size =
    let fill : width + more - length (text ++ rest) ≡ width - length text = omega (arith, length-append text rest) in
    rw fill (append_assoc (replicate (width - length text) 32) text rest)

-- tenths take six places
pub tenths_column : (n : ℕ) → right_aligned 4 (decimal (n / 10)) ++ (46 ∷ decimal (n % 10)) ≡ right_aligned 6 (tenths n)
tenths_column n =
    let digit = decimal_digit (n % 10) (omega arith) in
    right_aligned-append 4 2 (decimal (n / 10)) (46 ∷ decimal (n % 10)) (rw digit refl)

-- a section of lines grows by a line
pub section_more : {A : Type 0} (line : A → List ℕ) (xs : List A) (i : ℕ) (x : A) (start head old new : List ℕ) → i < length xs → x ≡ get_or xs i x → old ≡ start ++ (head ++ flat_map line (take i xs)) → new ≡ old ++ line x → new ≡ start ++ (head ++ flat_map line (take (i + 1) xs))
section_more line xs i x start head old new low at before after =
    let next : take (i + 1) xs ≡ take i xs ++ x ∷ [] = take_more xs i x low ∙ ap (λ s. take i xs ++ s ∷ []) (sym at) in
    rw (after, before, next, flat_map-append) (simp (append_assoc, append-nil))
