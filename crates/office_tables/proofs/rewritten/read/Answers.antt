use Rattle.std.proofs.Common.{◌≤◌, length, rules, arith, sym, ap, ◌∙◌}
use Rattle.office_tables_shelf.specs.Rows.{timing_key}
use Rattle.office_tables.proofs.MigrateLemmas.{five_wide, other_key}
use Rattle.office_tables.proofs.rewritten.read.Goals as goal

pub returns-in_err-check_key-clause-damaged : goal.returns-in_err-check_key-clause-damaged
returns-in_err-check_key-clause-damaged c is wide x within keys columns =
    let mine = rw c.in-Some.is at c.in_ok-found.ensures.row in
    let room : 4 ≤ length c.args.row.now = omega (arith, wide, five_wide c.args.table) in
    c.check_key.ensures.damaged (search rules) room (other_key c.args.table c.args.row.now c.in-Some.found c.in_ok-id.id x mine.1 mine.0 c.in_ok-id.ensures.ok within keys columns ∙ sym (ap (timing_key c.in_ok-id.id) c.key.ensures))
