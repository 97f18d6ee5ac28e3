use Rattle.std.proofs.Common.{sym, ap, ◌∙◌, rules}
use Rattle.signal_records.specs.{TimingSet.after_changes, declared.state.Stage.TheVariants.Done}
use Rattle.draft_core.specs.{Transaction.verdict_on, Moves.Follows}
use Rattle.std.specs.Prelude.{Ok}
use Rattle.draft_core.proofs.{Lines.owned_passes, Makes.stays_makes, News.idle_writes, Overlaid.draft_is, Overlaid.found_in}
use Rattle.draft_core.proofs.decide.check.Goals as goal

pub returns : goal.returns
returns c = record {
  line = λ rows side stands sound. owned_passes stands _ _ _ _
      (Follows rows side c.args.clerk.now (Ok c.stays.result)) (sym c.in_ok-test_owner.ensures)
      (λ draft held. stays_makes stands draft Done c.args.clerk.now _ _ held
      (c.verdict_on-verdict.ensures
      ∙ ap (verdict_on Done) (c.as_slice-2.ensures.value
      ∙ found_in stands _ c.as_slice.result.now draft.set sound c.in_ok-found.ensures
      (ap (after_changes c.args.timing.now.committed) c.as_slice.ensures.list ∙ draft_is stands draft held)))
      c.stays.ensures);
  refuses = search rules;
  writes = idle_writes c.stays.ensures;
}
