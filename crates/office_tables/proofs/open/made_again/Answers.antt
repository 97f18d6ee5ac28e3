use Rattle.std.proofs.Common.{subst}
use Rattle.sqlite.specs.{Held.state}
use Rattle.office_tables.specs.Opening.{FindsTables}
use Rattle.office_tables.proofs.OpenLemmas.{made_prepared, made_refused}
use Rattle.office_tables.proofs.open.made_again.Goals as goal

pub returns-in-Ok-make_tables : goal.returns-in-Ok-make_tables
returns-in-Ok-make_tables g c =
    let again = c.in-Ok.ensures.again in
    let new = c.make_tables.new.conn in
    made_prepared g.S.Store c.args.conn c.in-Ok.read.1 again.found again.opened again.idle new _
    (λ clean. subst (λ found. FindsTables found (state g.S.Store c.args.conn).committed.trees) c.in-Ok-found.is (c.in-Ok.ensures.finds clean))
    _ c.in-Ok-make_tables.ensures (g.met.S.Store.settled new.store)

pub returns-in-Err-make_tables : goal.returns-in-Err-make_tables
returns-in-Err-make_tables g c =
    let again = c.in-Ok.ensures.again in
    let fault = c.from-in-Err-make_tables.ensures in
    made_refused g.S.Store c.args.conn c.in-Ok.read.1 again.found again.opened again.idle c.make_tables.new.conn _
    (λ clean. subst (λ found. FindsTables found (state g.S.Store c.args.conn).committed.trees) c.in-Ok-found.is (c.in-Ok.ensures.finds clean))
    _ _ fault.0 fault.1 c.in-Err-make_tables.ensures
