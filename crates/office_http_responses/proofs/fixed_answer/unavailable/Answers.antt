use Rattle.std.proofs.Common.{refl}
use Rattle.std.specs.Fmt.{digits}
use Rattle.serde_json.proofs.OnLiterals.{serde_json_on_literals}
use Rattle.office_http_responses.specs.Answers.{answer_with, answer_bytes}
use Rattle.office_http_responses.specs.Unavailable.{unavailable_bytes}
use Rattle.office_http_responses.proofs.fixed_answer.unavailable.Goals as goal

pub returns : goal.returns
unfolding serde_json_on_literals digits answer_with answer_bytes unavailable_bytes
returns c = refl
