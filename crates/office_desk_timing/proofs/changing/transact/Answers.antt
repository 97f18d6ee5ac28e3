use Rattle.office_desk_timing.proofs.Transactions.{absent_decides, transact_decides}
use Rattle.office_desk_timing.proofs.changing.transact.Goals as goal

pub returns-in_default-clause-decides : goal.returns-in_default-clause-decides
returns-in_default-clause-decides g c =
    absent_decides _ _ _ _ c.args.step.now _ (λ honest. rw c.in_default.is at (c.in_ok-found.ensures.found honest))
    c.from_refusal.ensures.reply c.from_refusal.ensures.no_changes

pub returns-clause-decides : goal.returns-clause-decides
returns-clause-decides g c =
    transact_decides _ _ _ _ c.args.step.now c.in-Some.found _ c.answer.result c.as_str-name.ensures.words c.decide-decision.ensures.within
    (λ honest. rw (c.in-Some.is, c.reach.ensures) at (c.in_ok-found.ensures.found honest)) c.decide-decision.ensures.takes c.answer.ensures
