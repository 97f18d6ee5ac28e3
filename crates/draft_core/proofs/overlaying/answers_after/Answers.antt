use Rattle.draft_core.proofs.Overlaid.{differs_at_changed}
use Rattle.draft_core.proofs.overlaying.answers_after.Goals as goal

pub returns-clause-whole : goal.returns-clause-whole
returns-clause-whole g c = λ none right.
    (rw (c.in_ok-draft.ensures, c.as_slice.ensures.value, c.in_ok-keys.ensures) at c.violations_touched.ensures.whole)
    none (differs_at_changed c.args.changes.now c.args.committed.now) right
