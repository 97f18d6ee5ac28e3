use Rattle.std.proofs.Common.{inr}
use Rattle.office_tables_decisions.proofs.ReadLemmas.{handed_reports}
use Rattle.office_desk_timing.proofs.IntersectionTable.{row_there}
use Rattle.office_desk_timing.proofs.reading.find.Goals as goal

pub returns-clause-found : goal.returns-clause-found
returns-clause-found g c = λ honest.
    let first = c.plan.ensures.reads.kept.honest_before honest in (
      rw c.in-Some.is at (c.in_ok-row.ensures.row first),
      rw (c.intersection_row.ensures.reads.kept.same_content first) at (c.in_ok-committed.ensures.plan honest),
    )

pub returns-in_err-committed-clause-found : goal.returns-in_err-committed-clause-found
returns-in_err-committed-clause-found g c = handed_reports _ _ _ _ _ c.from_residual-in_err-committed.ensures.1 (λ damaged honest.
    let first = c.plan.ensures.reads.kept.honest_before honest in
    inr (
      row_there (g.S.Shelf.content c.args.shelf.now) c.args.id c.in-Some.row (rw c.in-Some.is at (c.in_ok-row.ensures.row first)),
      rw (c.intersection_row.ensures.reads.kept.same_content first) at (c.in_err-committed.ensures.plan damaged honest),
    ))
