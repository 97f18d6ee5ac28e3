-- How a step of the transaction on an intersection's timing is answered, and what it writes.
use Rattle.std.specs.Prelude.{◌≡◌, ◌≢◌, ℕ, List, [], ◌∷◌, map, Result, Ok, Err}
use Rattle.signal_records.specs.declared.record.Change.TheVariants.{Put, Remove}
use Rattle.draft_core.specs.{Moves.next_holder, declared.refusal.DraftRefusal.DraftRefusal, declared.refusal.DraftRefusal.TheVariants.NoMemory, declared.timing.Move.Move, declared.timing.TimingChange.TimingChange}
use Rattle.draft_core.specs.declared.timing.TimingChange.TheVariants.{CommittedNew, Committed, DraftedNew, Drafted, DraftGone, DraftDropped}
use Rattle.office_tables_shelf.specs.declared.{rows.IntersectionRow.IntersectionRow, rows.RowChange.RowChange, shelf.ShelfFault.ShelfFault}
use Rattle.office_tables_shelf.specs.declared.rows.RowChange.TheVariants.{PutIntersection, AddTiming, PutTiming, RemoveTiming, AddDraft, PutDraft, RemoveDraft, DropDraft}
use Rattle.office_machine.specs.{Step.refusal_of_draft, declared.reply.Reply.Reply, declared.reply.Reply.TheVariants.Moved, declared.reply.Reply.TheVariants.Refused}
use Rattle.office_tables_decisions.specs.declared.decided.Decided.{Decided}
use Rattle.office_desk_timing.specs.declared.reading.ReadIntersection.{ReadIntersection}
use Rattle.office_tables_shelf.specs.declared.shelf.ShelfFault.TheVariants as fault

-- a change of the committed rows or of the draft of an intersection's timing, as a change of the rows of the tables
abbrev pub row_change_of : ℕ → TimingChange → RowChange
row_change_of id (CommittedNew row) = AddTiming id row
row_change_of id (Committed (Put row)) = PutTiming id row
row_change_of id (Committed (Remove key)) = RemoveTiming id key
row_change_of id (DraftedNew change) = AddDraft id change
row_change_of id (Drafted change) = PutDraft id change
row_change_of id (DraftGone key) = RemoveDraft id key
row_change_of id (DraftDropped rows) = DropDraft id rows

-- changes of the committed rows or of the draft of an intersection's timing, as changes of rows, in their order
abbrev pub row_changes_of : ℕ → List TimingChange → List RowChange
row_changes_of id = map (row_change_of id)

-- the row of an intersection that was found, after a move that this clerk made: its name and interval stay
abbrev pub moved_row : ReadIntersection → List ℕ → Move → IntersectionRow
moved_row found clerk move = record {
  name = found.name;
  interval = found.interval;
  revision = move.revision;
  holder = next_holder move.holder clerk found.timing.holder;
}

-- the rows that a move writes: first the intersection's own, and then those of its timing side
abbrev pub rows_of_move : ℕ → List ℕ → ReadIntersection → Move → List RowChange
rows_of_move id clerk found move = PutIntersection id (moved_row found clerk move) ∷ row_changes_of id move.changes

-- ---- a decision of the transaction, as it is answered

-- a move is shown, and a refusal is told
abbrev pub said_to : Result Move DraftRefusal → Reply
said_to (Ok move) = Moved move.revision move.state move.verdict
said_to (Err why) = Refused (refusal_of_draft why)

-- a move is written, and for a refusal no row
abbrev pub rows_to : ℕ → List ℕ → ReadIntersection → Result Move DraftRefusal → List RowChange
rows_to id clerk found (Ok move) = rows_of_move id clerk found move
rows_to id clerk found (Err why) = []

-- memory may be refused: to a move, or to the decision already
abbrev pub WantsMemory : Result Move DraftRefusal → Type 0
WantsMemory (Ok move) = Unit {0}
WantsMemory (Err why) = why ≡ NoMemory

-- the decision is answered, unless memory is refused
abbrev pub TellsDecision : ℕ → List ℕ → ReadIntersection → Result Move DraftRefusal → Result Decided ShelfFault → Type 0
TellsDecision id clerk found decision (Ok decided) =
    (decision ≢ Err NoMemory) × (decided.reply ≡ said_to decision) × (decided.changes.items ≡ rows_to id clerk found decision)
TellsDecision id clerk found decision (Err other) = WantsMemory decision × (other ≡ fault.NoMemory)
