use Rattle.sqlite.specs.{Held.state}
use Rattle.office_tables_statements.proofs.CallLemmas.{queried_keeps, unqueried_keeps, queried_reads, shown_honest}
use Rattle.office_tables_statements.proofs.statement.select.Goals as goal

pub returns-in_err-rows-clause-kept : goal.returns-in_err-rows-clause-kept
returns-in_err-rows-clause-kept g c =
    let q = c.in_err-rows.ensures in
    unqueried_keeps _ c.requires.query _ c.requires.office _ _ q.survives (q.mode c.requires.office.autocommit) _ q.err

pub returns : goal.returns
returns g c =
    let q = c.in_ok-rows.ensures in
    let old = state g.S.Store c.args.conn.now in
    let new = state g.S.Store c.query_all.new.self in
    let mode = q.mode c.requires.office.autocommit in
    record {
      rows = queried_reads _ c.requires.query old c.requires.office _ new q.survives mode _ q.ok;
      kept = queried_keeps _ c.requires.query old c.requires.office _ new q.survives mode _ q.ok;
      «open» = shown_honest c.args.sql.now _ old new _ q.ok;
    }
