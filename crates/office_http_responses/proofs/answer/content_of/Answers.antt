use Rattle.std.proofs.Common.{◌∙◌}
use Rattle.office_http_responses.proofs.TokenLemmas.{printed}
use Rattle.office_http_responses.proofs.answer.content_of.Goals as goal

pub returns : goal.returns
returns c =
    printed _ (c.new-to.ensures.before ∙ c.in_ok-with_capacity.ensures.items) c.new-to.ensures.tokens c.in_ok-write_in_form.ensures c.into_inner.ensures.items
