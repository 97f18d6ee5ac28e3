use Rattle.std.proofs.lemmas.Result.{IfOk-weaker}
use Rattle.std.specs.Option.{option_to_list}
use Rattle.sqlite.specs.{Held.state, Values.bound}
use Rattle.office_tables_statements.specs.Calls.{Reads}
use Rattle.office_tables_statements.proofs.StoredLists.{finds}
use Rattle.office_tables_sql.proofs.stored_row.under.Goals as goal

pub select_one-requires-clause-query : goal.select_one-requires-clause-query
select_one-requires-clause-query g c = (_, c.texts.ensures.find)

pub returns-clause-found : goal.returns-clause-found
returns-clause-found g c honest =
    let db = (state g.S.Store c.args.conn.now).now in
    let before = c.select_one.ensures.kept.honest honest in
    let sql = c.texts.result.find.now in
    let key = bound c.args.key.now in
    IfOk-weaker c.select_one.result (λ row. Reads sql key db (option_to_list row)) _
    (λ row. finds g.T.StoredRow.kept.table db (c.requires.office.schema before) (c.requires.office.sound before) (c.requires.office.ordered before) sql c.texts.ensures.find key c.requires.key row)
    (c.select_one.ensures.row honest)
