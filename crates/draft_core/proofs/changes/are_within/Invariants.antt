use Rattle.std.proofs.Common.{drop}
use Rattle.draft_core.specs.Within.{AreChangesWithin}
use Rattle.draft_core.proofs.changes.are_within.Given as goal

-- if what is left is within, all are
abbrev pub invariant-loop-change : goal.invariant-loop-change
invariant-loop-change l = AreChangesWithin (drop l.change-index l.changes) → AreChangesWithin l.changes
