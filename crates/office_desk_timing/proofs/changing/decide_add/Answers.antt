use Rattle.std.proofs.Common.{[], ◌∷◌, sym, ◌∙◌, refl, inl, arith}
use Rattle.std.proofs.lemmas.Grind.{common_steps}
use Rattle.office_machine.specs.declared.refusal.Refusal.TheVariants.{IntersectionDiffers}
use Rattle.office_tables_decisions.proofs.Decisions.{refuses_so}
use Rattle.office_desk_timing.proofs.NewIntersection.{added, there_answered}
use Rattle.office_desk_timing.proofs.changing.decide_add.Goals as goal

pub returns-in_default-clause-decides : goal.returns-in_default-clause-decides
returns-in_default-clause-decides g c =
    added _ _ c.args.id c.args.interval _ _ (omega arith, omega arith) c.as_str-text.ensures.words (omega arith, omega arith)
    (λ honest. rw c.in_default.is at (c.in_ok-row.ensures.row honest)) c.from_reply-decided.ensures.reply (grind (arith, common_steps))

pub returns-then-is_same-clause-decides : goal.returns-then-is_same-clause-decides
returns-then-is_same-clause-decides g c =
    there_answered _ _ _ _ _ _ c.in-Some.row _ (λ honest. rw c.in-Some.is at (c.in_ok-row.ensures.row honest)) (rw (sym c.is_same.ensures ∙ c.if-is_same.true) refl)
    (λ e. cc) (λ why e. absurd cc) c.from_reply.ensures.reply c.from_reply.ensures.no_changes

pub returns-clause-decides : goal.returns-clause-decides
returns-clause-decides g c =
    there_answered _ _ _ _ _ _ c.in-Some.row _ (λ honest. rw c.in-Some.is at (c.in_ok-row.ensures.row honest)) (rw (sym c.is_same.ensures ∙ c.if-is_same.false) refl)
    (λ e. cc) (refuses_so (11 ∷ []) IntersectionDiffers (inl refl)) c.from_refusal.ensures.reply c.from_refusal.ensures.no_changes
