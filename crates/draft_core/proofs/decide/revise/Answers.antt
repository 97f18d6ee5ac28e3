use Rattle.std.proofs.Common.{◌≡◌, ◌==◌, [], List, ap, false, length, refl, sym, true, ◌∙◌}
use Rattle.signal_rules.specs.{Violations.violations_of, declared.violation.Violation.Violation}
use Rattle.signal_records.specs.{TimingSet.after_changes, declared.state.Stage.TheVariants.Done}
use Rattle.draft_core.specs.Revising.{base_of, committing}
use Rattle.draft_core.proofs.{Lines.none_found, Makes.edit_makes, News.revision_settles, Overlaid.found_in, Revisions.breaks_stay, Revisions.takes_up, decide.revise.Goals.else-commit-via-then-commit+in_ok-violations_after+else-is_empty, decide.revise.Goals.else-commit-via-else-commit}
use Rattle.draft_core.proofs.decide.revise.Goals as goal

pub returns-then-is_empty : goal.returns-then-is_empty
returns-then-is_empty c =
    let edits = c.args.edits.now in
    let settled = c.args.settled.now in
    let found = c.in_ok-violations_after.field-0.items in
    let none : (length found == 0) ≡ true = cc in
    record {
      line = λ rows side stands sound same.
          let takes = takes_up stands c.args.clerk.now c.in_ok-holder.holder c.in_ok-holder.ensures.takes in
          let makes = ap (λ set. after_changes set settled) stands.read.1 ∙ sym same in
          rw (
            takes.lines edits c.args.commit,
            c.if-commit.true,
            ← found_in stands found settled _ sound c.in_ok-violations_after.ensures makes,
            none_found found none,
          )
          (c.commit_settled.ensures.line rows side
          (record { stage = Done; owner = takes.owner; set = after_changes (base_of side) edits })
          c.args.clerk.now stands makes);
      writes = revision_settles c.args.timing.now settled edits c.commit_settled.result
          c.commit_settled.ensures.state c.commit_settled.ensures.writes;
    }

pub returns : goal.returns
returns c =
    let edits = c.args.edits.now in
    let settled = c.args.settled.now in
    let did = c.in_ok-rows.ensures in
    let opens = c.in_ok-holder.ensures.opens in
    record {
      line = λ rows side stands sound same.
          let takes = takes_up stands c.args.clerk.now c.in_ok-holder.holder c.in_ok-holder.ensures.takes in
          let after = after_changes (base_of side) edits in
          let stays : committing c.args.commit (violations_of after) ≡ [] =
          elim c.else-commit.branch [
            | else-commit-via-then-commit+in_ok-violations_after+else-is_empty w ↦
                let found = w.in_ok-violations_after.field-0.items in
                let some : (length found == 0) ≡ false = cc in
                breaks_stay c.args.commit (violations_of after) (ap (λ (list : List Violation). length list == 0)
                (sym (found_in stands found settled _ sound w.in_ok-violations_after.ensures
                (ap (λ set. after_changes set settled) stands.read.1 ∙ sym same))) ∙ some)
            | else-commit-via-else-commit w ↦ rw w.if-commit.false
          ] in
          rw (takes.lines edits c.args.commit, stays)
          (edit_makes stands (base_of side) takes.owner c.in_ok-holder.holder c.args.clerk.now _ edits
          c.in_ok-rows.rows refl opens takes.holds did c.moves_to.ensures);
      writes = rw c.moves_to.ensures (record {
        news = λ old order. did.news;
        drafts = did.within;
        rows = rw opens (did.no_timing, did.few);
      });
    }
