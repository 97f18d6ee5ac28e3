use Rattle.std.proofs.Common.{inr, refl, inl}
use Rattle.office_tables_decisions.proofs.Decisions.{handed_decides, told_decides, unknown_decides}
use Rattle.office_desk_timing.proofs.{IntersectionTable.not_there, IntersectionTable.row_there, Shown.timing_shows}
use Rattle.office_desk_timing.proofs.showing.decide_timing.Goals as goal

pub returns-in_default-clause-decides : goal.returns-in_default-clause-decides
returns-in_default-clause-decides g c =
    unknown_decides _ _ _ _ c.from_refusal.ensures.reply (inl refl) c.from_refusal.ensures.no_changes
    (λ honest office stands. rw (not_there _ office c.args.id stands (rw c.in_default.is at (c.in_ok-row.ensures.row honest))))

pub returns-clause-decides : goal.returns-clause-decides
returns-clause-decides g c =
    told_decides _ _ _ _ _ c.from_reply.ensures.reply (λ e. cc) (λ why e. absurd cc) c.from_reply.ensures.no_changes
    (λ honest office stands.
    let first = c.committed_set.ensures.reads.kept.honest_before honest in
    timing_shows _ office c.args.id c.in-Some.row _ stands (rw c.in-Some.is at (c.in_ok-row.ensures.row first))
    (rw (c.intersection_row.ensures.reads.kept.same_content first) at (c.in_ok-rows.ensures.set honest)))

pub returns-in_err-rows-clause-decides : goal.returns-in_err-rows-clause-decides
returns-in_err-rows-clause-decides g c =
    handed_decides _ _ _ _ _ c.from_residual-in_err-rows.ensures.1 (λ damaged honest.
    let first = c.committed_set.ensures.reads.kept.honest_before honest in
    inr (
      row_there (g.S.Shelf.content c.args.shelf.now) c.args.id c.in-Some.row (rw c.in-Some.is at (c.in_ok-row.ensures.row first)),
      rw (c.intersection_row.ensures.reads.kept.same_content first) at (c.in_err-rows.ensures.set damaged honest),
    ))
