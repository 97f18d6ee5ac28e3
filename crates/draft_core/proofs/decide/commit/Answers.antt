use Rattle.std.proofs.Common.{◌≡◌, ◌==◌, Err, ap, false, inr, length, sym, true, ◌∙◌, rules}
use Rattle.signal_records.specs.TimingSet.{after_changes}
use Rattle.draft_core.specs.{Moves.Follows, declared.refusal.DraftRefusal.TheVariants.VerifyFailed}
use Rattle.draft_core.proofs.{Lines.commit_breaks, Lines.none_found, Lines.owned_passes, News.step_settles, Overlaid.draft_is, Overlaid.found_in}
use Rattle.draft_core.proofs.decide.commit.Goals as goal

pub returns-then-not-is_empty : goal.returns-then-not-is_empty
returns-then-not-is_empty c =
    let timing = c.args.timing.now in
    let found = c.in_ok-found.found.items in
    let some : (length found == 0) ≡ false = cc in
    let told : length found ≡ c.len.result = cc in
    record {
      line = λ rows side stands sound. owned_passes stands _ _ _ _
          (Follows rows side c.args.clerk.now (Err (VerifyFailed c.len.result))) (sym c.in_ok-test_owner.ensures)
          (λ draft held. inr (rw (← found_in stands _ c.as_slice.result.now draft.set sound c.in_ok-found.ensures
          (ap (after_changes timing.committed) c.as_slice.ensures.list ∙ draft_is stands draft held))
          (commit_breaks side draft found some ∙ ap (λ n. Err (VerifyFailed n)) told)));
      refuses = search rules;
      writes = tt;
    }

pub returns : goal.returns
returns c =
    let timing = c.args.timing.now in
    let found = c.in_ok-found.found.items in
    let none : (length found == 0) ≡ true = cc in
    record {
      line = λ rows side stands sound. owned_passes stands _ _ _ _
          (Follows rows side c.args.clerk.now c.commit_settled.result) (sym c.in_ok-test_owner.ensures)
          (λ draft held. rw (
            ← found_in stands _ c.as_slice.result.now draft.set sound c.in_ok-found.ensures
                (ap (after_changes timing.committed) c.as_slice.ensures.list ∙ draft_is stands draft held),
            none_found found none,
          ) (c.commit_settled.ensures.line rows side draft c.args.clerk.now stands
          (ap (after_changes timing.committed) c.as_slice-2.ensures.list ∙ draft_is stands draft held)));
      refuses = search rules;
      writes = step_settles timing c.as_slice-2.result.now
          c.as_slice-2.ensures.list c.commit_settled.result c.commit_settled.ensures.writes;
    }
