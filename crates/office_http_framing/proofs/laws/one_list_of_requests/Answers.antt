use Rattle.office_http_framing.proofs.LawLemmas.{has_one_list}
use Rattle.office_http_framing.proofs.laws.one_list_of_requests.Goals as goal

pub returns : goal.returns
returns c = has_one_list
