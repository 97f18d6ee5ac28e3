-- What a list of changes makes of the rows, and what a move makes of a timing side.
use Rattle.std.specs.Prelude.{◌≡◌, ◌⊎◌, ℕ, ◌+◌, List, [], ◌∷◌, cond, Option, Some, None, Result, Ok, Err}
use Rattle.std.specs.{Option.option_map, FinMap.get, Ordering.eq_by_cmp}
use Rattle.signal_records.specs.{Key.key_cmp, declared.key.Key.Key, declared.record.Row.Row, declared.record.Change.Change, declared.record.Change.TheVariants.Put, declared.state.DbState.DbState, declared.state.DbState.TheVariants.Normal, declared.state.DbState.TheVariants.Transaction as InTransaction, declared.state.Stage.TheVariants.Transaction, declared.state.Verdict.Verdict, declared.state.Holder.Holder, declared.state.Holding.Holding, declared.state.Holding.TheVariants.Begun, declared.state.Holding.TheVariants.Kept, declared.state.Holding.TheVariants.Dropped}
use Rattle.draft_core.specs.declared.{timing.Move.Move, timing.TimingChange.TimingChange, refusal.DraftRefusal.DraftRefusal, refusal.DraftRefusal.TheVariants.NoMemory}
use Rattle.draft_core.specs.declared.timing.TimingChange.TheVariants.{CommittedNew, Committed, DraftedNew, Drafted, DraftGone, DraftDropped}
use Rattle.draft_core.specs.DraftRows.{HaveOnlyChanges, Said, silent, RowsByKey, RowStands, later_of, overlaid_row, said_at}
use Rattle.draft_core.specs.Transaction.{TimingSide, holder_of, in_stage, state_of, verdict_of}

-- ---- what a list of changes makes of the rows

-- the committed row at a key after one change
abbrev pub committed_by : TimingChange → Key → Option Row → Option Row
committed_by (CommittedNew row) key committed = overlaid_row committed (said_at (Put row) key)
committed_by (Committed change) key committed = overlaid_row committed (said_at change key)
committed_by _ key committed = committed

-- the committed row at a key after changes
abbrev pub committed_after : List TimingChange → Key → Option Row → Option Row
committed_after [] key committed = committed
committed_after (change ∷ changes) key committed =
    committed_after changes key (committed_by change key committed)

-- what the draft rows say of a key after one change
abbrev pub said_after : TimingChange → Key → Said → Said
said_after (DraftedNew change) key said = later_of (said_at change key) said
said_after (Drafted change) key said = later_of (said_at change key) said
said_after (DraftGone gone) key said = cond (eq_by_cmp key_cmp key gone) silent said
said_after (DraftDropped rows) key said = silent
said_after _ key said = said

-- what the draft rows say of a key after changes
abbrev pub row_after : List TimingChange → Key → Said → Said
row_after [] key said = said
row_after (change ∷ changes) key said = row_after changes key (said_after change key said)

-- how many timing rows a change writes
abbrev pub timing_write : TimingChange → ℕ
timing_write (CommittedNew row) = 1
timing_write (Committed change) = 1
timing_write _ = 0

-- how many timing rows changes write
abbrev pub timing_writes : List TimingChange → ℕ
timing_writes [] = 0
timing_writes (change ∷ changes) = timing_writes changes + timing_write change

-- how many draft rows a change writes; to drop them all writes each
abbrev pub draft_write : TimingChange → ℕ
draft_write (DraftedNew change) = 1
draft_write (Drafted change) = 1
draft_write (DraftGone gone) = 1
draft_write (DraftDropped rows) = rows
draft_write _ = 0

-- how many draft rows changes write
abbrev pub draft_writes : List TimingChange → ℕ
draft_writes [] = 0
draft_writes (change ∷ changes) = draft_writes changes + draft_write change

-- the changes that are stored as draft rows, in their order
abbrev pub drafted_in : List TimingChange → List Change
drafted_in [] = []
drafted_in (DraftedNew change ∷ changes) = change ∷ drafted_in changes
drafted_in (Drafted change ∷ changes) = change ∷ drafted_in changes
drafted_in (_ ∷ changes) = drafted_in changes

-- ---- a move, and the timing side that it makes

-- who owns the draft, and in which stage it is, after a step of this clerk
abbrev pub next_holder : Holding → List ℕ → Option Holder → Option Holder
next_holder Begun clerk holder = Some (record { stage = Transaction; owner = clerk })
next_holder (Kept stage) clerk holder =
    option_map (λ (who : Holder). record who { stage = stage }) holder
next_holder Dropped clerk holder = None

-- the state of an intersection after a step, by what the step does to who owns the draft
abbrev pub state_after : Holding → DbState
state_after Begun = InTransaction
state_after (Kept stage) = in_stage stage
state_after Dropped = Normal

-- the move to this revision, holder and verdict, by these changes of rows; its state follows from the holder
abbrev pub move_to : ℕ → Holding → Verdict → List TimingChange → Move
move_to revision holder verdict changes = record {
  revision = revision;
  holder = holder;
  state = state_after holder;
  verdict = verdict;
  changes = changes;
}

-- a clerk's move shows the next timing side, and its changes make that side and its draft rows of this side and
-- these draft rows
pub record Makes (rows : RowsByKey) (side : TimingSide) (clerk : List ℕ) (move : Move)
    (next : TimingSide) : Type 0 where
  pub same_revision : move.revision ≡ next.revision
  pub same_state : move.state ≡ state_of next.draft
  pub same_verdict : move.verdict ≡ verdict_of next.draft
  pub same_holder : next_holder move.holder clerk (option_map holder_of side.draft)
      ≡ option_map holder_of next.draft
  pub committed : (key : Key) →
      get next.committed key ≡ committed_after move.changes key (get side.committed key)
  pub draft : (key : Key) →
      RowStands (get next.committed key) (row_after move.changes key (rows key)) next.draft key
  -- where each draft row was a change of the committed set, each is one after the move
  pub only_changes : HaveOnlyChanges side.committed rows →
      HaveOnlyChanges next.committed (λ key. row_after move.changes key (rows key))

-- a decision is the move to the next timing side of its line of the table, or the refusal of that line; or it is
-- refused for want of memory, whatever the line
abbrev pub Follows : RowsByKey → TimingSide → List ℕ → Result Move DraftRefusal
    → Result TimingSide DraftRefusal → Type 0
Follows rows side clerk (Ok move) (Ok next) = Makes rows side clerk move next
Follows rows side clerk (Ok move) (Err refusal) = ⊥
Follows rows side clerk (Err refusal) line = (refusal ≡ NoMemory) ⊎ (line ≡ Err refusal)
