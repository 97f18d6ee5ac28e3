use Rattle.std.proofs.Common.{[], arith}
use Rattle.office_http.proofs.ListeningLemmas.{as_many_back, listens-start}
use Rattle.office_http.proofs.from_listener.serve_on.Goals as goal

-- no handle was to be had, and nothing was served
pub returns-in_default-clause-did : goal.returns-in_default-clause-did
returns-in_default-clause-did g c = ([], omega arith, λ clean before tables keeps. listens-start _ _ _ _ tables before keeps)

-- all were served, each in one part
pub returns-in-Served-clause-did : goal.returns-in-Served-clause-did
returns-in-Served-clause-did g c =
    let it = rw c.in-Served.is at c.in_ok-serve_each.ensures.did in
    (it.0, (it.1.1.1, omega (arith, it.1.0, it.1.1.0, as_many_back it.0 it.1.1.1)), it.2)
