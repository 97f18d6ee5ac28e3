-- The answer 503: memory or the database was refused, and no later answer of the run shows an effect of
-- the request.
use Rattle.std.specs.Prelude.{ℕ, List}
use Rattle.office_machine.specs.declared.refusal.Refusal.TheVariants.{Unavailable}
use Rattle.office_machine.specs.declared.reply.Reply.TheVariants.{Refused}
use Rattle.office_http_requests.specs.declared.form.Form.TheVariants.{Json}
use Rattle.office_http_responses.specs.Answers.{answer_bytes}

-- the bytes of the answer if memory or the database was refused
unfoldable pub unavailable_bytes : List ℕ
unavailable_bytes = answer_bytes (Refused Unavailable) Json
