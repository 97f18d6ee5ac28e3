use Rattle.std.proofs.Common.{[], ◌∷◌, ap, refl, inl, inr, ◌∙◌}
use Rattle.signal_records.specs.TimingSet.{after_changes}
use Rattle.draft_core.specs.declared.refusal.DraftRefusal.TheVariants.{NotTransaction}
use Rattle.office_machine.specs.declared.refusal.Refusal.TheVariants.{Draft}
use Rattle.office_tables_decisions.proofs.Decisions.{refuses_so, told_decides, unknown_decides}
use Rattle.office_desk_timing.proofs.{IntersectionTable.not_there, Shown.draft_shows, Shown.no_draft_shows}
use Rattle.office_desk_timing.proofs.showing.decide_draft.Goals as goal

pub returns-in_default-clause-decides : goal.returns-in_default-clause-decides
returns-in_default-clause-decides g c =
    unknown_decides _ _ _ _ c.from_refusal.ensures.reply (inl refl) c.from_refusal.ensures.no_changes (λ honest office stands.
    rw (not_there _ office c.args.id stands (rw c.in_default.is at (c.in_ok-found.ensures.found honest))))

pub returns-in_default-holder-clause-decides : goal.returns-in_default-holder-clause-decides
returns-in_default-holder-clause-decides g c =
    let refused = c.from_refusal-in_default-holder.ensures in
    told_decides _ _ _ _ _ refused.reply (λ e. cc) (refuses_so (10 ∷ 13 ∷ []) (Draft NotTransaction) (inr (inl refl))) refused.no_changes (λ honest office stands.
    no_draft_shows _ office c.args.id c.in-Some.found stands (rw c.in-Some.is at (c.in_ok-found.ensures.found honest)) c.in_default-holder.is)

pub returns-clause-decides : goal.returns-clause-decides
returns-clause-decides g c =
    told_decides _ _ _ _ _ c.from_reply.ensures.reply (λ e. cc) (λ why e. absurd cc) c.from_reply.ensures.no_changes (λ honest office stands.
    draft_shows _ office c.args.id c.in-Some.found stands (rw c.in-Some.is at (c.in_ok-found.ensures.found honest)) c.in-Some-holder.holder _ _ c.in-Some-holder.is
    (c.in_ok-rows.ensures ∙ ap (after_changes c.in-Some.found.timing.committed) c.as_slice.ensures.list) (c.new-violations.ensures ∙ c.in_ok-violations.ensures))
