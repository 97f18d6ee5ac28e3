-- The bytes of a part's code are ASCII.
use Rattle.std.proofs.Common.{ℕ, ◌<◌, List, All, IsTrue, IsUtf8, arith}
use Rattle.std.proofs.{lemmas.Str.IsUtf8-from_ascii, lemmas.Str.Ascii.IsAscii-from_all, lemmas.List.Elements.All-weaker}
use Rattle.cabinet_core.specs.Part.{is_code_byte}

code_byte_is_ascii : (b : ℕ) → IsTrue (is_code_byte b) → b < 128
code_byte_is_ascii b h = grind arith

pub IsUtf8-from_code : (bytes : List ℕ) → All (λ b. IsTrue (is_code_byte b)) bytes → IsUtf8 bytes
IsUtf8-from_code bytes h =
    IsUtf8-from_ascii bytes (IsAscii-from_all bytes (All-weaker (λ b. IsTrue (is_code_byte b)) (λ b. b < 128) code_byte_is_ascii bytes h))
