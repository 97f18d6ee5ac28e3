use Rattle.office_http_framing.proofs.LawLemmas.{has_one_front}
use Rattle.office_http_framing.proofs.laws.one_front.Goals as goal

pub returns : goal.returns
returns c = has_one_front
