use Rattle.std.proofs.Common.{drop}
use Rattle.draft_core.specs.DraftRows.{row_at}
use Rattle.draft_core.proofs.Drafts.{DraftsOn}
use Rattle.draft_core.proofs.drafting.draft_changes.Given as goal

-- what was written so far goes on to what all changes write
abbrev pub invariant-loop-change : goal.invariant-loop-change
invariant-loop-change l = DraftsOn l.timing.committed (row_at l.timing.delta) l.changes
    (drop l.change-index l.changes) l.drafted l.written.items
