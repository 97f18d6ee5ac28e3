use Rattle.std.proofs.Common.{arith, string_bytes}
use Rattle.std.specs.Prelude.{encode_utf8}
use Rattle.safe_markup.proofs.{Characters.kept_character, Pushed.pushed}
use Rattle.safe_markup.proofs.escaping.push_character.Goals as goal

pub returns-in_default : goal.returns-in_default
returns-in_default c =
    rw (kept_character c.args.c (λ e. omega arith) (λ e. omega arith) (λ e. omega arith) (λ e. omega arith) (λ e. omega arith))
    (pushed c.push.result (string_bytes c.push.new.self) (string_bytes c.args.text.now) (encode_utf8 c.args.c) c.push.ensures.bytes)
