-- The codes of parts.
use Rattle.std.specs.Prelude.{ℕ, ◌≤◌, Bool, ◌||◌, ◌==◌, List, length, All, IsTrue}
use Rattle.std.specs.Char.{is_ascii_uppercase, is_ascii_digit}

-- a byte of a part's code: `A` to `Z`, `0` to `9` and `-`
abbrev pub is_code_byte : ℕ → Bool
is_code_byte b = is_ascii_uppercase b || (is_ascii_digit b || b == 45)

-- a part's code: 1 to 20 bytes of `A` to `Z`, `0` to `9` and `-`
pub record IsPartCode (bytes : List ℕ) : Type 0 where
  pub some : 1 ≤ length bytes
  pub short : length bytes ≤ 20
  pub spelt : All (λ b. IsTrue (is_code_byte b)) bytes
