use Rattle.office_http_framing.specs.{Protocol.bytes_of, Stops.stepped, Stops.unavailable}
use Rattle.office_http_framing.proofs.engine.serve_request.Goals as goal

pub returns-in-Ok-clause-step : goal.returns-in-Ok-clause-step
returns-in-Ok-clause-step g c clean before held keeps =
    let step = c.in-Ok.ensures.deals clean before held keeps in
    (bytes_of c.in-Ok.answer, stepped, step.0, step.1, step.2, rw c.as_bytes.ensures at c.write_all.ensures.bytes)

-- what was answered unavailable left the state
pub returns-in-Err-clause-step : goal.returns-in-Err-clause-step
returns-in-Err-clause-step g c clean before held keeps = (
  g.M.Machine.protocol.unavailable_text,
  unavailable,
  held,
  before,
  c.in-Err.ensures.deals clean before held keeps,
  rw c.unavailable.ensures at c.write_all-in-Err.ensures.bytes,
)
