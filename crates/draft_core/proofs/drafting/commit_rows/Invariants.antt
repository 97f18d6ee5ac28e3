use Rattle.std.proofs.Common.{◌≡◌, ◌++◌, drop, map}
use Rattle.draft_core.specs.Drafting as writes
use Rattle.draft_core.proofs.drafting.commit_rows.Given as goal

-- what is made, and what is made of the changes that are left
abbrev pub invariant-loop-change : goal.invariant-loop-change
invariant-loop-change l = l.made.items
    ++ map (writes.settled_by l.committed) (drop l.change-index l.changes)
    ≡ writes.commit_rows l.committed l.delta l.changes
