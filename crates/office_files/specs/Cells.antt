-- Columns of a printed table.
use Rattle.std.specs.Prelude.{Bool, if◌then◌else◌, ℕ, ◌-◌, ◌/◌, ◌%◌, List, [], ◌∷◌, ◌++◌, length, replicate, flat_map, codes, decimal}

-- a text right-aligned in so many places, one for each byte, after spaces; a longer text is not cut
unfoldable pub right_aligned : ℕ → List ℕ → List ℕ
right_aligned width text = replicate (width - length text) 32 ++ text

-- tenths as whole part, point and one digit
abbrev pub tenths : ℕ → List ℕ
tenths n = decimal (n / 10) ++ 46 ∷ decimal (n % 10)

-- this text if the list is empty, else nothing
abbrev pub when_empty : {A : Type 0} → List A → List ℕ → List ℕ
when_empty [] text = text
when_empty (x ∷ xs) text = []

-- numbers, each after a space, or a space and a dash if there are none
abbrev pub numbers_text : List ℕ → List ℕ
numbers_text numbers = when_empty numbers (codes " -") ++ flat_map (λ n. codes " " ++ decimal n) numbers

-- a number right-aligned in six places
abbrev pub number_column : ℕ → List ℕ
number_column n = right_aligned 6 (decimal n)

-- tenths, with their point, right-aligned in six places
abbrev pub tenths_column : ℕ → List ℕ
tenths_column n = right_aligned 6 (tenths n)

-- a flag right-aligned in six places: 1 if it is set, else 0
abbrev pub flag_column : Bool → List ℕ
flag_column flag = number_column (if flag then 1 else 0)
