use Rattle.std.proofs.Common.{◌<◌, length, arith}
use Rattle.office_tables_decisions.proofs.Decisions.{told_decides}
use Rattle.office_desk.proofs.OverdueRows.{overdue_shows}
use Rattle.office_desk.proofs.register_showing.decide_overdue.Goals as goal

pub returns-clause-decides : goal.returns-clause-decides
returns-clause-decides g c =
    let few : length c.in_ok-late.late.items < 18_446_744_073_709_551_615 = omega (arith, c.in_ok-late.late.ok, c.in_ok-late.late.small) in
    told_decides _ _ _ _ _ (rw c.new-found.ensures at c.from_reply.ensures.reply) (λ e. cc) (λ why e. absurd cc) c.from_reply.ensures.no_changes
    (λ honest office stands. overdue_shows _ office c.args.day _ _ stands (c.in_ok-late.ensures.rows honest) few)
