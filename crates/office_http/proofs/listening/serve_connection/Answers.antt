use Rattle.std.proofs.Common.{arith}
use Rattle.office_http.specs.Listening.{ran_by}
use Rattle.office_http.proofs.ListeningLemmas.{one_connection}
use Rattle.office_http.proofs.listening.serve_connection.Goals as goal

pub returns-clause-did : goal.returns-clause-did
returns-clause-did g c clean before held keeps =
    let part = c.serve_buffered-outcome in
    let did = part.ensures.did clean before held keeps in (
      did.0,
      did.1,
      one_connection g.M.Machine.protocol (ran_by g.M.Machine.protocol g.M.Machine.storage) c.args.machine.now held before part.new.machine did.1 did.0 _ _ c.pauses.result _ part.result
          c.in_ok-buffer.ensures.taken did.2 part.ensures.fault part.ensures.asks part.ensures.reads c.pauses.ensures (omega (arith, c.saturating_sub-connection.ensures, c.requests_of.ensures)),
    )
