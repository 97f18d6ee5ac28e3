use Rattle.std.proofs.Common.{◌∙◌}
use Rattle.office_http_responses.proofs.TokenLemmas.{printed}
use Rattle.office_http_responses.proofs.fault.content_of_fault.Goals as goal

pub returns : goal.returns
returns c =
    printed _ (c.new-to.ensures.before ∙ c.in_ok-with_capacity.ensures.items) c.new-to.ensures.tokens c.in_ok-write_fault.ensures c.into_inner.ensures.items
