use Rattle.std.proofs.Common.{◌≡◌, ◌∙◌, ◌-◌, arith}
use Rattle.office_http_requests.proofs.PathLemmas.{segment-next}
use Rattle.office_http_requests.proofs.path.segment.Goals as goal

pub loop-preserved : goal.loop-preserved
loop-preserved c = rw c.after_slash-rest.ensures (segment-next c.args.index c.loop.counter c.loop.rest.now (omega arith) ∙ c.loop.invariant)

pub returns : goal.returns
returns c =
    let done : c.args.index - c.loop.counter ≡ 0 = omega arith in
    rw c.slash_at.ensures.value (rw done at c.loop.invariant)
