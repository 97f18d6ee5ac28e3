use Rattle.std.proofs.Common.{◌≡◌, refl}
use Rattle.std.specs.Fmt.{digits}
use Rattle.serde_json.proofs.OnLiterals.{serde_json_on_literals}
use Rattle.office_machine.specs.{declared.refusal.Refusal.TheVariants.Damaged, declared.reply.Reply.TheVariants.Refused}
use Rattle.office_http_requests.specs.{declared.form.Form.Form, declared.form.Form.TheVariants.Json, declared.form.Form.TheVariants.Csv}
use Rattle.office_http_responses.specs.Answers.{answer_with, answer_bytes}
use Rattle.office_http_responses.proofs.answer.damaged.Goals as goal

in_one_form : (form : Form) → answer_bytes (Refused Damaged) Json ≡ answer_bytes (Refused Damaged) form
unfolding answer_bytes
in_one_form Json = refl
in_one_form Csv = refl

pub returns : goal.returns
unfolding serde_json_on_literals digits answer_with answer_bytes
returns c Json = refl
returns c Csv = refl
