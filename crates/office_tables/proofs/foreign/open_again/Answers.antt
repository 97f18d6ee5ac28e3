use Rattle.office_tables.proofs.OpenLemmas.{again, still_found}
use Rattle.office_tables.proofs.foreign.open_again.Goals as goal

pub returns-in-Ok-clause-again : goal.returns-in-Ok-clause-again
returns-in-Ok-clause-again g c conn taken =
    let it = c.in-Ok.ensures in
    again g.S.Store conn c.args.store c.in-Ok.conn taken it.fresh.autocommit it.clean it.opens it.trees (g.met.S.Store.settled c.in-Ok.conn.store)

pub returns-in-Err-clause-again : goal.returns-in-Err-clause-again
returns-in-Err-clause-again g c conn taken =
    still_found g.S.Store conn c.args.store c.in-Err.store taken c.in-Err.ensures.unharmed (g.met.S.Store.settled conn.store) (g.met.S.Store.stays c.in-Err.store)
