use Rattle.std.proofs.Common.{◌∙◌, refl, inl, inr}
use Rattle.office_tables_decisions.proofs.Decisions.{handed_decides, told_decides, unknown_decides}
use Rattle.office_desk_timing.proofs.{IntersectionTable.not_there, Shown.state_shows}
use Rattle.office_desk_timing.proofs.showing.decide_state.Goals as goal

pub returns-in_default-clause-decides : goal.returns-in_default-clause-decides
returns-in_default-clause-decides g c =
    unknown_decides _ _ _ _ c.from_refusal.ensures.reply (inl refl) c.from_refusal.ensures.no_changes
    (λ honest office stands. rw (not_there _ office c.args.id stands (rw c.in_default.is at (c.in_ok-row.ensures.row honest))))

pub returns-clause-decides : goal.returns-clause-decides
returns-clause-decides g c =
    told_decides _ _ _ _ _ c.from_reply.ensures.reply (λ e. cc) (λ why e. absurd cc) c.from_reply.ensures.no_changes
    (λ honest office stands.
    let read = c.verdict_at.ensures.reads.kept.honest_before honest in
    let first = c.committed_count.ensures.read.kept.honest_before read in
    let same = c.intersection_row.ensures.reads.kept.same_content first in
    let still = c.committed_count.ensures.read.kept.same_content read ∙ same in
    state_shows _ office c.args.id c.in-Some.row _ _ _ _ stands (rw c.in-Some.is at (c.in_ok-row.ensures.row first))
    (rw same at (c.in_ok-rows.ensures.count read)) (rw still at (c.in_ok-verify.ensures.verdict honest))
    c.state_and_owner-state.ensures.state c.state_and_owner-state.ensures.owner)

pub returns-in_err-verify-clause-decides : goal.returns-in_err-verify-clause-decides
returns-in_err-verify-clause-decides g c =
    handed_decides _ _ _ _ _ c.from_residual-in_err-verify.ensures.1 (λ damaged honest.
    let read = c.verdict_at.ensures.reads.kept.honest_before honest in
    let first = c.committed_count.ensures.read.kept.honest_before read in
    let still = c.committed_count.ensures.read.kept.same_content read ∙ c.intersection_row.ensures.reads.kept.same_content first in
    let met = c.in_err-verify.ensures.verdict damaged honest in
    inr (record { row = c.in-Some.row; read = rw c.in-Some.is at (c.in_ok-row.ensures.row first); done = met.0; damage = rw still at met.1 }))
