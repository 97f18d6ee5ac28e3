use Rattle.std.proofs.Common.{None, length, length-append, ap, subst, arith}
use Rattle.std.proofs.lemmas.Result.{IfOk-weaker}
use Rattle.sqlite.specs.Held.{state}
use Rattle.office_tables_statements.specs.Stored.{content_now}
use Rattle.office_tables_statements.proofs.StoredLists.{damaged_at, lists, width}
use Rattle.office_tables.specs.Rewritten.{IsFormer, Puts, former_columns, kept_key, puts, spelled_table}
use Rattle.office_tables.proofs.rewritten.put_former.Goals as goal

pub returns-clause-puts : goal.returns-clause-puts
returns-clause-puts g c honest =
    let office = c.requires.office in
    let was = c.select.ensures.kept.honest honest in
    let listed = lists (spelled_table c.args.table) _ (office.schema was) (office.sound was) (office.ordered was) None _ c.requires.query _ (c.in_ok-rows.ensures.rows honest) in
    IfOk-weaker c.put_rows.result _ _ (λ _ it. subst (λ cells. Puts c.args.table cells c.args.changes.now.items c.put_rows.new.changes.items) listed it) c.put_rows.ensures.puts

pub returns-clause-grows : goal.returns-clause-grows
returns-clause-grows g c = IfOk-weaker c.put_rows.result _ _ (λ _ it. omega (arith, ap length it.appended, length-append c.args.changes.now.items (puts c.args.table it.kept))) c.put_rows.ensures.puts

pub returns-clause-damaged : goal.returns-clause-damaged
returns-clause-damaged g c is honest =
    let t = spelled_table c.args.table in
    let office = c.requires.office in
    let was = c.select.ensures.kept.honest honest in
    let reads = c.in_ok-rows.ensures.rows honest in
    let found = c.put_rows.ensures.damaged is in
    damaged_at t (IsFormer c.args.table) kept_key former_columns (content_now (state g.S.Store c.args.conn.now)) None _
    (lists t _ (office.schema was) (office.sound was) (office.ordered was) None _ c.requires.query _ reads)
    (width t _ (office.schema was) (office.sound was) (office.ordered was) None _ c.requires.query _ reads) found.0 found.1 found.2
