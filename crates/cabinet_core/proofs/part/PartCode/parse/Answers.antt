-- A code is ASCII, so its bytes are a text.
use Rattle.std.proofs.Common.{rules}
use Rattle.cabinet_core.specs.Part.{IsPartCode}
use Rattle.cabinet_core.proofs.PartLemmas.{IsUtf8-from_code}
use Rattle.cabinet_core.proofs.part.PartCode.parse.Goals as goal

pub returns-in_default-clause-accepts : goal.returns-in_default-clause-accepts
returns-in_default-clause-accepts c = (
  (λ never. absurd (search rules)),
  (λ (code : IsPartCode c.args.bytes.now). absurd (c.in_default.ensures.cases.0 (IsUtf8-from_code _ code.spelt))),
)
