use Rattle.std.proofs.Common.{refl, sym, rules}
use Rattle.signal_records.specs.declared.state.Stage.TheVariants.{Verify}
use Rattle.std.specs.Prelude.{Ok}
use Rattle.draft_core.specs.Moves.{Follows}
use Rattle.draft_core.proofs.{Lines.owned_passes, Makes.stays_makes, News.idle_writes}
use Rattle.draft_core.proofs.decide.verify.Goals as goal

pub returns : goal.returns
returns c = record {
  line = λ rows side stands relies. owned_passes stands _ _ _ _
      (Follows rows side c.args.clerk.now (Ok c.stays.result)) (sym c.in_ok-test_owner.ensures)
      (λ draft held.
      stays_makes stands draft Verify c.args.clerk.now _ _ held refl c.stays.ensures);
  refuses = search rules;
  writes = idle_writes c.stays.ensures;
}
