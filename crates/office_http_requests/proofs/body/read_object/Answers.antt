use Rattle.std.proofs.Common.{sym}
use Rattle.office_http_requests.proofs.BodyLemmas.{body_of-object, body_of-other, body_of-unread}
use Rattle.office_http_requests.proofs.body.read_object.Goals as goal

pub returns-in_default : goal.returns-in_default
returns-in_default c = λ _. body_of-unread _ (λ text. absurd (c.in_default.ensures.cases.0 text))

pub returns-in-Ok-from_str : goal.returns-in-Ok-from_str
returns-in-Ok-from_str c =
    body_of-object _ _ c.in-Ok.ensures.cases.1 (rw c.in-Ok.ensures.cases.0 at c.in-Ok-from_str.ensures.ok) (sym c.if-is_object.ensures)

pub returns-in-Ok-2 : goal.returns-in-Ok-2
returns-in-Ok-2 c =
    λ _. body_of-other _ _ c.in-Ok.ensures.cases.1 (rw c.in-Ok.ensures.cases.0 at c.in-Ok-from_str.ensures.ok) (sym c.if-is_object.ensures)

pub returns-in-Err-2 : goal.returns-in-Err-2
returns-in-Err-2 c =
    λ _. body_of-unread _ (λ _. rw c.in-Ok.ensures.cases.0 at (c.in-Err.ensures.err (λ memory. cc (rw c.if-is_memory.false at (c.is_memory.ensures.1 memory)))))
