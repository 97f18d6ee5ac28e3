-- The form in which a draft is stored: its changed rows over the committed ones.
use Rattle.std.specs.Prelude.{◌≡◌, List, [], ◌∷◌, cond, Option, Some, None}
use Rattle.std.specs.{Option.option_map, FinMap.get, Ordering.eq_by_cmp}
use Rattle.signal_records.specs.{Key.key_cmp, TimingSet.Rows, declared.key.Key.Key, declared.record.Row.Row, declared.record.Change.Change, declared.record.Change.TheVariants.Put, declared.record.Change.TheVariants.Remove, ChangedRows.changed_key}
use Rattle.draft_core.specs.{Transaction.Draft, Transaction.TimingSide, Transaction.holder_of, declared.timing.Timing.Timing, declared.timing.Reach.Reach}
use Rattle.draft_core.specs.declared.timing.Reach.TheVariants as reach

-- what draft rows say of a key: nothing, that a row stands there, or that none does
pub data Said : Type 0 where
  silent : Said
  leaves : Row → Said
  removes : Said

-- what a change says of its key
abbrev pub said_by : Change → Said
said_by (Put row) = leaves row
said_by (Remove key) = removes

-- what a change says of any key: it is silent of each key but its own
abbrev pub said_at : Change → Key → Said
said_at change key = cond (eq_by_cmp key_cmp key (changed_key change)) (said_by change) silent

-- what two changes say of a key: what the later one says, or what the earlier one says where the later is silent
abbrev pub later_of : Said → Said → Said
later_of silent earlier = earlier
later_of later earlier = later

-- what changes say of a key; the last one that names it decides
abbrev pub row_at : List Change → Key → Said
row_at [] key = silent
row_at (change ∷ changes) key = later_of (row_at changes key) (said_at change key)

-- what stands at a key once a draft row is laid over what is committed there
abbrev pub overlaid_row : Option Row → Said → Option Row
overlaid_row committed silent = committed
overlaid_row committed (leaves row) = Some row
overlaid_row committed removes = None

-- THE FORM OF A DRAFT. A draft row overlays the committed row of its key; no draft row stands where nobody owns a draft.
abbrev pub RowStands : Option Row → Said → Option Draft → Key → Type 0
RowStands committed said None key = said ≡ silent
RowStands committed said (Some draft) key = get draft.set key ≡ overlaid_row committed said

-- the draft rows of an intersection: what they say of each key
abbrev pub RowsByKey : Type 0
RowsByKey = Key → Said

-- what was read of a timing side for a step of its transaction is right. Of a step with reach `Row` no rows were read;
-- with `Drafts` the draft rows, which say of each key what these rows say; with `Plan` the committed set too
abbrev pub IsRead : Reach → Timing → RowsByKey → TimingSide → Type 0
IsRead reach.Row timing rows side = Unit {0}
IsRead reach.Drafts timing rows side = (key : Key) → row_at timing.delta key ≡ rows key
IsRead reach.Plan timing rows side =
    ((key : Key) → row_at timing.delta key ≡ rows key) × (timing.committed ≡ side.committed)

-- draft rows represent the draft of an intersection's timing side, and what a step reads is what that side
-- has
pub record Stands (reach : Reach) (timing : Timing) (rows : RowsByKey)
    (side : TimingSide) : Type 0 where
  pub same_revision : timing.revision ≡ side.revision
  pub same_holder : timing.holder ≡ option_map holder_of side.draft
  pub draft : (key : Key) → RowStands (get side.committed key) (rows key) side.draft key
  pub read : IsRead reach timing rows side

-- a draft row, where one stands, says otherwise than what is committed at its key
abbrev pub SaysOtherwise : Option Row → Said → Type 0
SaysOtherwise committed said = overlaid_row committed said ≡ committed → said ≡ silent

-- each draft row is a change of the committed set
abbrev pub HaveOnlyChanges : Rows → RowsByKey → Type 0
HaveOnlyChanges committed rows = (key : Key) → SaysOtherwise (get committed key) (rows key)
