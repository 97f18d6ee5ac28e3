use Rattle.office_http_responses.specs.{RegisterTrees.cabinet_tree, Writing.tokens_of}
use Rattle.office_http_responses.proofs.TokenLemmas.{one, ◌then◌, same_tokens}
use Rattle.office_http_responses.proofs.cabinet.write_cabinet.Goals as goal

pub returns : goal.returns
returns c =
    same_tokens (λ i. tokens_of (cabinet_tree (c.as_slice.ensures.records i)
    (c.as_slice-3.ensures.records i) (c.as_slice-2.ensures.records i)))
    (one c.in_ok-begin_object.ensures then one c.in_ok-key.ensures then c.in_ok-array.ensures
    then one c.in_ok-key-2.ensures then c.in_ok-orders.ensures then one c.in_ok-end_object.ensures)
