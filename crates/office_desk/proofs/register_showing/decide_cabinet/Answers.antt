use Rattle.std.proofs.Common.{◌∙◌, inl, inr, refl, sym}
use Rattle.std.specs.FinMap.{get}
use Rattle.office_tables_decisions.proofs.Decisions.{handed_decides, told_decides, unknown_decides}
use Rattle.office_desk.proofs.Recorded.{cabinet_shows, none_there}
use Rattle.office_desk.proofs.register_showing.decide_cabinet.Goals as goal

pub returns-then-not-branch-clause-decides : goal.returns-then-not-branch-clause-decides
returns-then-not-branch-clause-decides g c =
    unknown_decides _ _ _ _ c.from_refusal.ensures.reply (inl refl) c.from_refusal.ensures.no_changes
    (λ honest office stands. rw (none_there (get office.intersections c.args.id) (sym c.if-not-branch.true ∙ (c.in_ok-is_known.ensures.tells honest).known office stands)))

pub returns-clause-decides : goal.returns-clause-decides
returns-clause-decides g c =
    told_decides _ _ _ _ _ c.from_reply.ensures.reply (λ e. cc) (λ why e. absurd cc) c.from_reply.ensures.no_changes
    (λ honest office stands.
    let first = c.cabinet_view.ensures.reads.kept.honest_before honest in
    cabinet_shows _ office c.args.id _ stands (λ other at. sym c.if-not-branch.false ∙ (c.in_ok-is_known.ensures.tells first).known other at)
    (rw (c.is_known.ensures.reads.kept.same_content first) at (c.in_ok-view.ensures.shows honest)))

pub returns-in_err-view-clause-decides : goal.returns-in_err-view-clause-decides
returns-in_err-view-clause-decides g c =
    handed_decides _ _ _ _ _ c.from_residual-in_err-view.ensures.1 (λ damaged honest.
    let first = c.cabinet_view.ensures.reads.kept.honest_before honest in
    inr (sym (sym c.if-not-branch.false ∙ (c.in_ok-is_known.ensures.tells first).told), rw (c.is_known.ensures.reads.kept.same_content first) at (c.in_err-view.ensures.shows damaged honest)))
