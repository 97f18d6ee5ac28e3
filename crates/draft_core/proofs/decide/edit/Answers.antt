use Rattle.std.proofs.Common.{ap, arith, refl, sym, rules}
use Rattle.std.specs.Option.{option_map}
use Rattle.signal_records.specs.{declared.state.Holding.TheVariants.Kept, declared.state.Stage.TheVariants.Transaction}
use Rattle.draft_core.specs.{Moves.next_holder, Revising.base_from, Transaction.holder_of, Moves.Follows}
use Rattle.std.specs.Prelude.{Ok}
use Rattle.draft_core.proofs.{Lines.owned_passes, Makes.edit_makes}
use Rattle.draft_core.proofs.decide.edit.Goals as goal

pub returns : goal.returns
returns c =
    let did = c.in_ok-changes.ensures in
    record {
      line = λ rows side stands relies. owned_passes stands _ _ _ _
          (Follows rows side c.args.clerk.now (Ok c.moves_to.result)) (sym c.in_ok-test_owner.ensures)
          (λ draft held. edit_makes stands draft.set draft.owner (Kept Transaction) c.args.clerk.now
          _ c.args.changes.now c.in_ok-changes.changes (ap (base_from side.committed) held) refl
          (ap (λ d. next_holder (Kept Transaction) c.args.clerk.now (option_map holder_of d)) held)
          did c.moves_to.ensures);
      refuses = search rules;
      writes = record {
        news = rw c.moves_to.ensures (λ order. did.news);
        drafts = rw c.moves_to.ensures did.within;
        committed = rw c.moves_to.ensures (omega (arith, did.no_timing));
        drafted = rw c.moves_to.ensures did.few;
      };
    }
