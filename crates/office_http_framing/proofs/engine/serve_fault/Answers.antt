use Rattle.std.proofs.Common.{inr, refl}
use Rattle.office_http_framing.proofs.engine.serve_fault.Goals as goal

pub returns-in-Err-clause-answer : goal.returns-in-Err-clause-answer
returns-in-Err-clause-answer g c = (g.M.Machine.protocol.unavailable_text, inr refl, rw c.unavailable.ensures at c.write_all-in-Err.ensures.bytes)
