-- What an edit writes, and what a commit does.
use Rattle.std.specs.Prelude.{◌≡◌, ◌≤◌, Bool, true, false, List, [], ◌∷◌, length, map, Option, Some, None}
use Rattle.std.specs.{BTreeSet.BTreeSet, BTreeSet.contains, FinMap.get}
use Rattle.signal_records.specs.{Key.key_cmp, Row.key_of, TimingSet.Rows, declared.key.Key.Key, declared.record.Row.Row, declared.record.Change.Change, declared.record.Change.TheVariants.Put, declared.record.Change.TheVariants.Remove, ChangedRows.changed_key, ChangedRows.left_by}
use Rattle.draft_core.specs.{declared.timing.TimingChange.TimingChange, News.AreNewAt, Within.AreChangesWithin}
use Rattle.draft_core.specs.declared.timing.TimingChange.TheVariants.{CommittedNew, Committed, DraftedNew, Drafted, DraftDropped}
use Rattle.draft_core.specs.DraftRows.{RowsByKey, Said, SaysOtherwise, silent, overlaid_row, row_at}
use Rattle.draft_core.specs.Moves.{committed_after, drafted_in, draft_writes, row_after, timing_writes}

-- a change leaves at its key what is committed there
abbrev pub SaysCommitted : Rows → Change → Type 0
SaysCommitted committed change = get committed (changed_key change) ≡ left_by change

-- whether changes say anything of a key
abbrev pub is_said : Said → Bool
is_said silent = false
is_said _ = true

-- the keys of which changes say something
abbrev pub AreNamed : List Change → BTreeSet Key → Type 0
AreNamed changes keys = (key : Key) → contains key_cmp keys key ≡ is_said (row_at changes key)

-- one key, of whose committed row draft rows said `before`, changes say `named`, and draft rows then say `after`: the
-- draft has what the changes make of it, and its row stays a change of the committed one
pub record Redrafts (committed : Option Row) (before named after : Said) : Type 0 where
  pub makes : overlaid_row (overlaid_row committed before) named ≡ overlaid_row committed after
  pub only : SaysOtherwise committed before → SaysOtherwise committed after

-- a change as a draft row, which is new where its key has none
abbrev pub drafted_as : Bool → Change → TimingChange
drafted_as true change = DraftedNew change
drafted_as false change = Drafted change

-- WHAT AN EDIT WRITES for changes, over these committed rows and what the draft rows say: draft rows alone, at most one
-- write for each change, so that only what changes is kept; each row that it stores is within its limits where the
-- changes are, and each row that it adds is new
pub record DraftsChanges (committed : Rows) (before : RowsByKey) (changes : List Change)
    (written : List TimingChange) : Type 0 where
  pub makes : (key : Key) → Redrafts (get committed key) (before key) (row_at changes key)
      (row_after written key (before key))
  pub news : (key : Key) → AreNewAt written key (get committed key) (before key)
  pub within : AreChangesWithin changes → AreChangesWithin (drafted_in written)
  pub stays : (key : Key) (row : Option Row) → committed_after written key row ≡ row
  pub no_timing : timing_writes written ≡ 0
  pub few : draft_writes written ≤ length changes

-- the change that puts a row over what is committed under its key; the row is new where nothing is
abbrev pub put_over : Option Row → Row → TimingChange
put_over None row = CommittedNew row
put_over (Some stands) row = Committed (Put row)

-- a change as one of the committed set
abbrev pub settled_by : Rows → Change → TimingChange
settled_by committed (Put row) = put_over (get committed (key_of row)) row
settled_by committed (Remove key) = Committed (Remove key)

-- WHAT A COMMIT WRITES for changes: the draft rows go, where there are any, and then each change is made, in order, in the
-- committed set. An abandoned draft is one of no changes
abbrev pub commit_rows : Rows → (delta changes : List Change) → List TimingChange
commit_rows committed [] changes = map (settled_by committed) changes
commit_rows committed (row ∷ rows) changes = DraftDropped (length (row ∷ rows)) ∷ map (settled_by committed) changes
