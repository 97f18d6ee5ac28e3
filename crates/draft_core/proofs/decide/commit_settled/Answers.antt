use Rattle.std.proofs.Common.{◌+◌, ◌==◌, None, Some, ap, cond, sym, ◌∙◌}
use Rattle.signal_records.specs.{TimingSet.after_changes, declared.revision.TheConstants.LAST_REVISION}
use Rattle.draft_core.proofs.{Lines.commit_line, Makes.settled_makes}
use Rattle.draft_core.proofs.decide.commit_settled.Goals as goal

pub returns-clause-line : goal.returns-clause-line
returns-clause-line c = λ rows side draft clerk stands same.
    let settled = c.args.settled.now in
    let revision = c.in-Some.revision in
    rw (commit_line side draft revision (ap (λ n. cond (n == LAST_REVISION) None (Some (n + 1)))
    (sym stands.same_revision) ∙ sym c.next.ensures ∙ c.in-Some.is))
    (settled_makes stands stands.read.0 settled draft.set _ clerk _ revision c.moves_to.ensures
    (rw c.as_slice.ensures.list at c.in_ok-changes.ensures)
    (ap (λ set. after_changes set settled) (sym stands.read.1) ∙ same))
