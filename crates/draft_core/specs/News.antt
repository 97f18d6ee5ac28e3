-- A row that a step of the transaction adds is new.
use Rattle.std.specs.Prelude.{◌≡◌, List, [], ◌∷◌, map, Option, None}
use Rattle.std.specs.{FinMap.get, List.AllByRecursion, List.Sorted.IsStrictlySortedBy}
use Rattle.signal_records.specs.{Key.key_cmp, Row.key_of, TimingSet.Rows, declared.key.Key.Key, declared.record.Row.Row, declared.record.Change.Change, ChangedRows.changed_key}
use Rattle.draft_core.specs.{declared.timing.Reach.Reach, declared.timing.Timing.Timing, declared.timing.TimingChange.TimingChange, DraftRows.Said, DraftRows.silent, DraftRows.row_at, Moves.committed_by, Moves.said_after, declared.timing.TimingChange.TheVariants.CommittedNew, declared.timing.TimingChange.TheVariants.DraftedNew}
use Rattle.draft_core.specs.declared.timing.Reach.TheVariants as reach

-- draft rows stand in ascending order of their keys, at most one for each key
abbrev pub AreInOrder : List Change → Type 0
AreInOrder changes = IsStrictlySortedBy key_cmp (map changed_key changes)

-- Where the change adds a committed row under the key, no committed row (`committed`) stands there; where it adds a
-- draft row, the draft rows say nothing of the key (`said`).
abbrev pub IsNewAt : TimingChange → Key → Option Row → Said → Type 0
IsNewAt (CommittedNew row) key committed said = key ≡ key_of row → committed ≡ None
IsNewAt (DraftedNew change) key committed said = key ≡ changed_key change → said ≡ silent
IsNewAt _ key committed said = Unit {0}

-- under a key, each row that the changes add is new when its turn comes
abbrev pub AreNewAt : List TimingChange → Key → Option Row → Said → Type 0
AreNewAt [] key committed said = Unit {0}
AreNewAt (change ∷ changes) key committed said =
    IsNewAt change key committed said
    × AreNewAt changes key (committed_by change key committed) (said_after change key said)

-- under every key, each row that the changes add is new when its turn comes, over these committed rows and draft rows
abbrev pub AreNew : Rows → List Change → List TimingChange → Type 0
AreNew committed delta changes =
    (key : Key) → AreNewAt changes key (get committed key) (row_at delta key)

-- the change adds no row
abbrev pub AddsNone : TimingChange → Type 0
AddsNone (CommittedNew row) = ⊥
AddsNone (DraftedNew change) = ⊥
AddsNone _ = Unit {0}

-- ROWS THAT ARE ADDED ARE NEW. A step that reads the plan adds a committed row only where no committed
-- row stands under its key, and a draft row only where no draft row does, if it read the draft rows in
-- the order of their keys. Any other step adds none.
abbrev pub AddsOnlyNew : Reach → Timing → List TimingChange → Type 0
AddsOnlyNew reach.Plan timing changes =
    AreInOrder timing.delta → AreNew timing.committed timing.delta changes
AddsOnlyNew _ timing changes = AllByRecursion AddsNone changes
