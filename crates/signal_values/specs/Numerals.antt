-- Numbers that decimal digits spell.
use Rattle.std.specs.Prelude.{ℕ, ◌==◌, Bool, false, not, ◌&&◌, ◌||◌, nat_le, if◌then◌else◌, List, [], ◌∷◌, length, Option, Some, None}
use Rattle.std.specs.Char.{is_ascii_digit}
use Rattle.std.specs.List.{list_all}
use Rattle.std.specs.Str.Parse.{digits_value}

-- the bytes are decimal digits, at least one, without a leading zero; `0` alone is zero
abbrev pub is_numeral : List ℕ → Bool
is_numeral [] = false
is_numeral (b ∷ bs) = list_all is_ascii_digit (b ∷ bs) && (not (b == 48) || length bs == 0)

-- a number, if it is from low to high
abbrev pub within : ℕ → ℕ → ℕ → Option ℕ
within low high n = if nat_le low n && nat_le n high then Some n else None

-- the number from low to high that a text spells in decimal digits without a leading zero, if it spells one
unfoldable pub number_spelled : ℕ → ℕ → List ℕ → Option ℕ
number_spelled low high text = if is_numeral text then within low high (digits_value 10 text) else None
