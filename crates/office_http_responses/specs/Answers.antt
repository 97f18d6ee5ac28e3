-- The bytes of an HTTP answer, whose content is JSON.
use Rattle.std.specs.Prelude.{◌≡◌, ℕ, List, length, ◌++◌, codes, decimal}
use Rattle.http.specs.StatusCode.{status_text}
use Rattle.serde_json.specs.Data.{Data}
use Rattle.serde_json.specs.Written.{compact_text}
use Rattle.office_machine.specs.Refusal.{line_of}
use Rattle.office_machine.specs.declared.reply.Reply.{Reply}
use Rattle.office_machine.specs.declared.reply.Reply.TheVariants.{Refused}
use Rattle.office_http_requests.specs.declared.form.Form.{Form}
use Rattle.office_http_responses.specs.Trees.{tree_in}

-- the bytes of an answer with this status code and this content
unfoldable pub answer_with : ℕ → List ℕ → List ℕ
answer_with status content =
    codes "HTTP/1.1 " ++ status_text status
    ++ codes "\r\nContent-Type: application/json\r\nContent-Length: " ++ decimal (length content)
    ++ codes "\r\n\r\n" ++ content

-- these bytes were put after those that were there
pub record PutsBytes (old new bytes : List ℕ) : Type 0 where
  pub items : new ≡ old ++ bytes

-- the bytes of an answer with this status code, whose content is a tree in compact text
abbrev pub answer_text : ℕ → Data → List ℕ
answer_text status tree = answer_with status (compact_text tree)

-- the HTTP status code of a reply: that of its refusal, or 200
abbrev pub status_of : Reply → ℕ
status_of (Refused refusal) = (line_of refusal).status
status_of _ = 200

-- the bytes of the answer with a reply in a form
unfoldable pub answer_bytes : Reply → Form → List ℕ
answer_bytes reply form = answer_text (status_of reply) (tree_in form reply)
