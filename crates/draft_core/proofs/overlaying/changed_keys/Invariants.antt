use Rattle.std.proofs.Common.{◌≡◌, map, take}
use Rattle.signal_records.specs.ChangedRows as rows
use Rattle.draft_core.proofs.overlaying.changed_keys.Given as goal

-- the keys so far
abbrev pub invariant-loop-change : goal.invariant-loop-change
invariant-loop-change l = l.keys.items ≡ map rows.changed_key (take l.change-index l.changes)
