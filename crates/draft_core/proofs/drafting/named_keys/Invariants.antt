use Rattle.std.proofs.Common.{◌≡◌, ◌||◌, drop}
use Rattle.std.specs.BTreeSet.{contains}
use Rattle.signal_records.specs.{Key.key_cmp, declared.key.Key.Key}
use Rattle.draft_core.specs.{DraftRows.row_at, Drafting.is_said}
use Rattle.draft_core.proofs.drafting.named_keys.Given as goal

-- the keys so far, and those of the changes that are left
abbrev pub invariant-loop-change : goal.invariant-loop-change
invariant-loop-change l = (key : Key)
    → (is_said (row_at (drop l.change-index l.changes) key) || contains key_cmp l.keys key)
    ≡ is_said (row_at l.changes key)
