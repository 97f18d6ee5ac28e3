use Rattle.std.proofs.Common.{rules, arith}
use Rattle.office_tables_sql.proofs.Shown.{no_change}
use Rattle.office_tables_sql.proofs.plan.ChangeStoredRow.read.Goals as goal

pub returns-in_err-check_key-clause-damaged : goal.returns-in_err-check_key-clause-damaged
returns-in_err-check_key-clause-damaged c is wide =
    let mine = rw c.in-Some.is at c.in_ok-found.ensures.row in
    no_change _ _ c.args.id c.in-Some.found mine.0 mine.1 (rw c.key.ensures at (c.check_key.ensures.damaged (search rules) (omega (arith, wide))))
