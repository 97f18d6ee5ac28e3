use Rattle.std.proofs.Common.{sym, ap, ◌∙◌}
use Rattle.signal_rules.specs.Violations.{violations_of}
use Rattle.signal_records.specs.{TimingSet.after_changes, declared.state.Holder.Holder, declared.state.Stage.TheVariants.Done}
use Rattle.draft_core.specs.Transaction.{verdict_on}
use Rattle.draft_core.proofs.{Lines.held_by, Overlaid.draft_is, Overlaid.found_in}
use Rattle.draft_core.proofs.overlaying.verdict.Goals as goal

pub returns-in_ok-found-in-Done : goal.returns-in_ok-found-in-Done
returns-in_ok-found-in-Done c = λ rows side stands sound.
    let at = held_by stands c.in-Some.holder c.in-Some.is in
    rw at.1 (c.verdict_on.ensures
    ∙ ap (verdict_on Done) (c.as_slice-in-Done.ensures.value
    ∙ found_in stands _ c.as_slice.result.now at.0.set sound c.in_ok-found-in-Done.ensures
    (ap (after_changes c.args.timing.now.committed) c.as_slice.ensures.list ∙ draft_is stands at.0 at.1))
    ∙ sym (ap (λ stage. verdict_on stage (violations_of at.0.set)) (ap (λ (h : Holder). h.stage) at.2 ∙ c.in-Done.is)))
