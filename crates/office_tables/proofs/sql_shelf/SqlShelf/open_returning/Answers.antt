use Rattle.office_tables.proofs.OpenLemmas.{opens_before}
use Rattle.office_tables.proofs.sql_shelf.SqlShelf.open_returning.Goals as goal

pub returns-in-Ok-clause-opens : goal.returns-in-Ok-clause-opens
returns-in-Ok-clause-opens g c =
    let it = c.in-Ok.ensures in
    opens_before g.S.Store c.args.conn c.in-Ok.conn it.found it.opened it.idle _ c.open_arranged.ensures.opens
