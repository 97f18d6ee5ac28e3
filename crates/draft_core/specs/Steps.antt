-- What each step of the transaction promises: its line of the table, how much it reads, what it refuses, and what it writes.
use Rattle.std.specs.Prelude.{◌≡◌, ◌≤◌, ℕ, List, [], length, Option, Some, None, Result, Err, IfErr, IfOk}
use Rattle.signal_records.specs.declared.{record.Change.Change, state.Holder.Holder, state.Stage.TheVariants.Transaction, state.Stage.TheVariants.Verify, state.Stage.TheVariants.Done}
use Rattle.signal_rules.specs.Violations.{violations_of}
use Rattle.draft_core.specs.{declared.step.Step.Step, declared.timing.Timing.Timing, declared.timing.Move.Move, declared.timing.Reach.Reach, declared.refusal.DraftRefusal.DraftRefusal, Within.AreChangesWithin, DraftRows.RowsByKey, DraftRows.Stands, News.AddsOnlyNew, Transaction.TimingSide, Transaction.refused_by, Transaction.table_line}
use Rattle.draft_core.specs.declared.refusal.DraftRefusal.TheVariants.{NotNormal, NotTransaction, NotVerify, NotDone, VerifyFailed, RevisionFull, NoMemory}
use Rattle.draft_core.specs.Moves.{Follows, draft_writes, drafted_in, timing_writes}
use Rattle.draft_core.specs.declared.step.Step.TheVariants as step
use Rattle.draft_core.specs.declared.timing.Reach.TheVariants as reach

-- how much of the timing side a step reads: the edit stores what differs from the committed rows, the
-- check and the commit judge the draft, the abandon drops its rows
abbrev pub reach_of : Step → Reach
reach_of (step.Edit changes) = reach.Plan
reach_of step.Check = reach.Plan
reach_of step.Commit = reach.Plan
reach_of step.Abandon = reach.Drafts
reach_of _ = reach.Row

-- a step that judges the draft relies on a committed set that breaks no rule
abbrev pub ReliesOn : Step → TimingSide → Type 0
ReliesOn step.Check side = violations_of side.committed ≡ []
ReliesOn step.Commit side = violations_of side.committed ≡ []
ReliesOn _ side = Unit {0}

-- ---- why it is refused: also where what was read represents no timing side

-- a step that the test of state and owner refuses is refused for that reason, never for want of memory; a step that passes the test
-- is refused, if at all, for a later reason
abbrev pub RefusesFirst : Option DraftRefusal → (DraftRefusal → Type 0) → Result Move DraftRefusal → Type 0
RefusesFirst (Some why) Later result = result ≡ Err why
RefusesFirst None Later result = IfErr result Later

-- the refusal is one of a checked draft whose owner commits it: it breaks rules, the revision is the last, or memory was refused
abbrev pub IsUnsettled : DraftRefusal → Type 0
IsUnsettled (VerifyFailed count) = Unit {0}
IsUnsettled RevisionFull = Unit {0}
IsUnsettled NoMemory = Unit {0}
IsUnsettled _ = ⊥

-- why a step is refused by the test of state and owner, if it is
abbrev pub first_refusal : Step → Option Holder → List ℕ → Option DraftRefusal
first_refusal step.Begin None clerk = None
first_refusal step.Begin (Some holder) clerk = Some NotNormal
first_refusal (step.Edit changes) holder clerk = refused_by holder Transaction NotTransaction clerk
first_refusal step.Verify holder clerk = refused_by holder Transaction NotTransaction clerk
first_refusal step.Check holder clerk = refused_by holder Verify NotVerify clerk
first_refusal step.Commit holder clerk = refused_by holder Done NotDone clerk
first_refusal step.Reopen holder clerk = refused_by holder Done NotDone clerk
first_refusal step.Abandon None clerk = Some NotTransaction
first_refusal step.Abandon (Some holder) clerk = None

-- what a step may be refused for after the test of state and owner
abbrev pub IsLater : Step → DraftRefusal → Type 0
IsLater step.Commit why = IsUnsettled why
IsLater (step.Edit changes) why = why ≡ NoMemory
IsLater step.Check why = why ≡ NoMemory
IsLater step.Abandon why = why ≡ NoMemory
IsLater _ why = ⊥

-- ---- what it writes

-- the changes that a step asks for: those of an edit; none for any other step
abbrev pub asked_changes : Step → List Change
asked_changes (step.Edit changes) = changes
asked_changes _ = []

-- the most timing rows that a step writes where so many draft rows are stored
abbrev pub most_committed : Step → ℕ → ℕ
most_committed step.Commit rows = rows
most_committed _ rows = 0

-- the most draft rows that a step writes where so many are stored
abbrev pub most_drafted : Step → ℕ → ℕ
most_drafted (step.Edit changes) rows = length changes
most_drafted step.Commit rows = rows
most_drafted step.Abandon rows = rows
most_drafted _ rows = 0

-- the rows that a step adds are new, those that it stores as draft rows are within their limits where the changes that it
-- asks for are, and it writes no more timing rows and no more draft rows than such a step may
pub record StepWrites (step : Step) (timing : Timing) (move : Move) : Type 0 where
  pub news : AddsOnlyNew (reach_of step) timing move.changes
  pub drafts : AreChangesWithin (asked_changes step) → AreChangesWithin (drafted_in move.changes)
  pub committed : timing_writes move.changes ≤ most_committed step (length timing.delta)
  pub drafted : draft_writes move.changes ≤ most_drafted step (length timing.delta)

-- A STEP IS TAKEN. The decision follows the step's line of the table, whatever the timing side that was
-- read in part (for a check or a commit, one whose committed set breaks no rule), and whichever draft
-- rows represent that side's draft.
pub record Takes (step : Step) (timing : Timing) (clerk : List ℕ)
    (result : Result Move DraftRefusal) : Type 0 where
  pub line : (rows : RowsByKey) (side : TimingSide) → Stands (reach_of step) timing rows side
      → ReliesOn step side → Follows rows side clerk result (table_line step clerk side)
  pub refuses : RefusesFirst (first_refusal step timing.holder clerk) (IsLater step) result
  pub writes : IfOk result (StepWrites step timing)
