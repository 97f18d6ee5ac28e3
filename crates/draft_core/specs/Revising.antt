-- A clerk revises a plan: the steps of the transaction that take a draft up, edit it, and commit it where that is asked for and it breaks no rule.
use Rattle.std.specs.Prelude.{◌≡◌, ◌≤◌, ℕ, Bool, true, List, [], ◌∷◌, ◌++◌, length, Option, Some, None, Result, Ok, Err, IfOk, if◌then◌else◌}
use Rattle.std.specs.Str.{bytes_eq}
use Rattle.signal_records.specs.{TimingSet.Rows, TimingSet.after_changes, declared.record.Change.Change, declared.state.DbState.DbState, declared.state.DbState.TheVariants.Normal, declared.state.Holder.Holder, declared.state.Holding.Holding, declared.state.Stage.Stage, declared.state.Holding.TheVariants.Begun, declared.state.Holding.TheVariants.Kept, declared.state.Stage.TheVariants.Transaction, declared.state.Stage.TheVariants.Verify, declared.state.Stage.TheVariants.Done}
use Rattle.signal_rules.specs.{Violations.violations_of, declared.violation.Violation.Violation}
use Rattle.draft_core.specs.{Within.AreChangesWithin, declared.refusal.DraftRefusal.DraftRefusal, declared.refusal.DraftRefusal.TheVariants.NotOwner, declared.step.Step.Step, declared.timing.Move.Move, declared.timing.Timing.Timing, declared.timing.TimingChange.TimingChange, DraftRows.RowsByKey, DraftRows.Stands, News.AreInOrder, News.AreNew, Transaction.Draft, Transaction.TimingSide, Transaction.table_line}
use Rattle.draft_core.specs.Moves.{Follows, draft_writes, drafted_in, timing_writes}
use Rattle.draft_core.specs.declared.step.Step.TheVariants as step
use Rattle.draft_core.specs.declared.timing.Reach.TheVariants as reach

-- ---- the steps

-- the rows of a draft, or the committed set where nobody owns one
abbrev pub base_from : Rows → Option Draft → Rows
base_from committed None = committed
base_from committed (Some draft) = draft.set

-- the rows that a revision goes on with
abbrev pub base_of : TimingSide → Rows
base_of side = base_from side.committed side.draft

-- a draft that was handed over is checked, and one that was checked is opened again
abbrev pub opening_steps : Stage → List Step
opening_steps Transaction = []
opening_steps Verify = step.Check ∷ step.Reopen ∷ []
opening_steps Done = step.Reopen ∷ []

-- a draft is begun where nobody owns one, else the one that is there is opened
abbrev pub taking_up : Option Draft → List Step
taking_up None = step.Begin ∷ []
taking_up (Some draft) = opening_steps draft.stage

-- a draft is handed over, checked and committed, where that is asked for and it breaks no rule
abbrev pub committing : (commit : Bool) → List Violation → List Step
committing true [] = step.Verify ∷ step.Check ∷ step.Commit ∷ []
committing commit violations = []

-- THE STEPS OF A REVISION: the draft is taken up, these edits are made to it, and it is committed where that is asked for and it breaks no rule
abbrev pub revision_steps : TimingSide → (edits : List Change) → (commit : Bool) → List Step
revision_steps side edits commit =
    taking_up side.draft ++ step.Edit edits ∷ committing commit (violations_of (after_changes (base_of side) edits))

-- what comes of a timing side by a line of the table, and then by more; or the refusal
abbrev pub and_then : Result TimingSide DraftRefusal → (TimingSide → Result TimingSide DraftRefusal) → Result TimingSide DraftRefusal
and_then (Ok side) more = more side
and_then (Err why) more = Err why

-- the lines of the table for the steps of one clerk in turn: the timing side after them, or the first refusal
abbrev pub lines_of : List ℕ → List Step → TimingSide → Result TimingSide DraftRefusal
lines_of clerk [] side = Ok side
lines_of clerk (step ∷ steps) side = and_then (table_line step clerk side) (lines_of clerk steps)

-- what becomes of who holds the draft where a clerk takes it up: one begins where nobody owns one, and the clerk's own is
-- open; for another clerk's the refusal is NotOwner
abbrev pub take_up : Option Holder → List ℕ → Result Holding DraftRefusal
take_up None clerk = Ok Begun
take_up (Some holder) clerk =
    if bytes_eq holder.owner clerk then Ok (Kept Transaction) else Err NotOwner

-- ---- what it writes

-- how many rows are written, by the state after it: a commit writes one timing row for each change of the committed set and drops each draft row; else there is
-- at most one write of a draft row for each edit
abbrev pub WritesRows : DbState → (delta edits settled : List Change) → List TimingChange → Type 0
WritesRows Normal delta edits settled written = (timing_writes written ≡ length settled) × (draft_writes written ≡ length delta)
WritesRows state delta edits settled written = (timing_writes written ≡ 0) × (draft_writes written ≤ length edits)

-- the rows that a revision adds are new, those that it stores as draft rows are within their limits where its edits are,
-- and it writes as many rows as `WritesRows` says
pub record RevisionWrites (timing : Timing) (edits settled : List Change) (move : Move) : Type 0 where
  pub news : AreInOrder timing.delta → AreInOrder settled → AreNew timing.committed timing.delta move.changes
  pub drafts : AreChangesWithin edits → AreChangesWithin (drafted_in move.changes)
  pub rows : WritesRows move.state timing.delta edits settled move.changes

-- A PLAN IS REVISED by edits of what a clerk goes on with, which make of it what `settled` makes of the committed set: the decision follows the lines of the
-- steps of a revision, whatever the timing side, whose committed set breaks no rule
pub record Revises (timing : Timing) (clerk : List ℕ) (edits settled : List Change) (commit : Bool) (result : Result Move DraftRefusal) : Type 0 where
  pub line : (rows : RowsByKey) (side : TimingSide) → Stands reach.Plan timing rows side
      → violations_of side.committed ≡ []
      → after_changes (base_of side) edits ≡ after_changes side.committed settled
      → Follows rows side clerk result (lines_of clerk (revision_steps side edits commit) side)
  pub writes : IfOk result (RevisionWrites timing edits settled)
