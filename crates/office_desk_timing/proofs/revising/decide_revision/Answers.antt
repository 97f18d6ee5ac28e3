use Rattle.std.proofs.Common.{sym, true≢false, ◌∙◌}
use Rattle.office_desk_timing.proofs.Revisions.{edit_decided, idle_edit, unknown_edit}
use Rattle.office_desk_timing.proofs.revising.decide_revision.Goals as goal

pub returns-in_default-clause-decides : goal.returns-in_default-clause-decides
returns-in_default-clause-decides g c =
    rw (c.from_refusal.ensures.reply, c.from_refusal.ensures.no_changes)
    (unknown_edit _ _ c.args.id c.args.clerk.now c.args.edit.now (λ honest. rw c.in_default.is at (c.in_ok-found.ensures.found honest)))

pub returns-then-asks_nothing-clause-decides : goal.returns-then-asks_nothing-clause-decides
returns-then-asks_nothing-clause-decides g c =
    rw (c.from_reply.ensures.reply, c.from_reply.ensures.no_changes)
    (idle_edit _ _ c.args.id c.args.clerk.now c.args.edit.now c.in-Some.found c.in_ok-drafted.ensures
    (λ honest. rw c.in-Some.is at (c.in_ok-found.ensures.found honest))
    (rw c.as_slice-settled.ensures.value at (c.asks_nothing.ensures.0 c.if-asks_nothing.true)))

pub returns-clause-decides : goal.returns-clause-decides
returns-clause-decides g c =
    edit_decided _ _ c.args.id c.args.clerk.now c.args.edit.now c.in-Some.found c.in_ok-drafted.ensures
    (λ honest. rw c.in-Some.is at (c.in_ok-found.ensures.found honest)) c.as_str-name.ensures.words c.revise-decision.result
    (λ free none. true≢false (sym (c.asks_nothing.ensures.1 (free, c.as_slice-settled.ensures.value ∙ none)) ∙ c.if-asks_nothing.false))
    (rw (c.as_slice-edits.ensures.list, c.as_slice-settled.ensures.value) at c.revise-decision.ensures)
    c.answer.result c.answer.ensures
