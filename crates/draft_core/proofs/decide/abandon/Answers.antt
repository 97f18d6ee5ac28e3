use Rattle.std.proofs.Common.{[], ap, refl, sym, subst, ◌∙◌, arith, rules}
use Rattle.std.specs.{Prelude.Ok}
use Rattle.draft_core.specs.{Moves.Follows, Moves.move_to, Transaction.abandoned_from, declared.timing.Move.Move}
use Rattle.signal_records.specs.{declared.state.Holding.TheVariants.Dropped, declared.state.Verdict.TheVariants.NotDone}
use Rattle.draft_core.proofs.{Lines.held_by, Makes.settled_makes, Written.commit_rows_settles, Written.dropping_adds}
use Rattle.draft_core.proofs.decide.abandon.Goals as goal

pub returns : goal.returns
returns c =
    let timing = c.args.timing.now in
    let written = rw c.as_slice.ensures.list at c.in_ok-changes.ensures in
    let made = ap (λ (m : Move). m.changes) c.moves_to.ensures ∙ written in
    let all = commit_rows_settles timing.committed timing.delta [] in
    record {
      line = λ rows side stands relies.
          subst (λ d. Follows rows side c.args._clerk.now (Ok c.moves_to.result) (abandoned_from side d))
          (sym (held_by stands _ c.in-Some.is).1)
          (settled_makes stands stands.read [] side.committed _ c.args._clerk.now _ side.revision
          (c.moves_to.ensures ∙ ap (λ n. move_to n Dropped NotDone c.in_ok-changes.changes) stands.same_revision)
          written refl);
      refuses = search rules;
      writes = record {
        news = rw made (dropping_adds timing.committed timing.delta);
        drafts = rw (made, all.drafts) (λ within. tt);
        committed = rw made (omega (arith, all.timing));
        drafted = rw made (omega (arith, all.draft));
      };
    }
