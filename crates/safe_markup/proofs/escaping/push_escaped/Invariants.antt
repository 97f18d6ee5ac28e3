use Rattle.std.proofs.Common.{◌≡◌, ◌++◌, IsUtf8, string_bytes}
use Rattle.std.specs.Str.Iter.{chars_rest}
use Rattle.safe_markup.specs.Escaping.{escaped_text}
use Rattle.safe_markup.proofs.escaping.push_escaped.Given as goal

-- what is written, and what is left
abbrev pub invariant-loop-c : goal.invariant-loop-c
invariant-loop-c l = record {
  left : IsUtf8 (chars_rest l.c-iterator);
  whole : string_bytes l.text ++ escaped_text (chars_rest l.c-iterator) ≡ string_bytes l.fn.text ++ escaped_text l.fn.words;
}
