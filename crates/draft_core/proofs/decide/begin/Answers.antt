use Rattle.std.proofs.Common.{[], ap, refl, subst, sym, rules}
use Rattle.std.specs.Prelude.{Ok}
use Rattle.signal_records.specs.declared.{state.Holding.TheVariants.Begun, state.Stage.TheVariants.Transaction}
use Rattle.draft_core.specs.{Moves.Follows, Revising.base_from, Transaction.begun_from}
use Rattle.draft_core.proofs.{Drafts.nothing_drafted, Lines.free_of, Makes.draft_makes, News.idle_writes}
use Rattle.draft_core.proofs.decide.begin.Goals as goal

pub returns : goal.returns
returns c =
    let clerk = c.args._clerk.now in
    record {
      line = λ rows side stands relies.
          let free = free_of stands c.in-None.is in
          subst (λ d. Follows rows side clerk (Ok c.stays.result) (begun_from side clerk d)) (sym free) (draft_makes stands
          (record { stage = Transaction; owner = clerk; set = side.committed }) clerk side.committed
          [] [] Begun _ _ (ap (base_from side.committed) free) refl refl refl refl
          (nothing_drafted side.committed rows) c.stays.ensures);
      refuses = search rules;
      writes = idle_writes c.stays.ensures;
    }
