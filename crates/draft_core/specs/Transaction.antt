-- The timing side of an intersection, and what each step of the transaction makes of it (NTCIP 1201, `dbCreateTransaction`; the profile is this project's).
use Rattle.std.specs.Prelude.{ℕ, ◌+◌, Bool, true, false, not, List, [], ◌∷◌, length, ◌==◌, if◌then◌else◌, Option, Some, None, Result, Ok, Err}
use Rattle.std.specs.{Str.bytes_eq, Result.result_err}
use Rattle.signal_records.specs.{TimingSet.Rows, TimingSet.after_changes, declared.revision.TheConstants.LAST_REVISION, declared.state.Stage.Stage, declared.state.Stage.TheVariants.Transaction, declared.state.Stage.TheVariants.Verify, declared.state.Stage.TheVariants.Done, declared.state.DbState.DbState, declared.state.Verdict.Verdict, declared.state.Verdict.TheVariants.NotDone as NotJudged, declared.state.Verdict.TheVariants.DoneWithError, declared.state.Verdict.TheVariants.DoneWithNoError, declared.state.Holder.Holder}
use Rattle.signal_rules.specs.{Violations.violations_of, declared.violation.Violation.Violation}
use Rattle.signal_records.specs.declared.state.DbState.TheVariants.{Normal, Transaction as InTransaction, Verify as InVerify, Done as InDone}
use Rattle.draft_core.specs.declared.{step.Step.Step, refusal.DraftRefusal.DraftRefusal}
use Rattle.draft_core.specs.declared.refusal.DraftRefusal.TheVariants.{NotNormal, NotTransaction, NotOwner, NotVerify, NotDone, VerifyFailed, RevisionFull}
use Rattle.draft_core.specs.declared.step.Step.TheVariants as step

-- a draft: a whole set, who owns it, and its stage
pub record Draft : Type 0 where
  pub stage : Stage
  pub owner : List ℕ
  pub set : Rows

-- how often a set was committed, the committed set, and the draft where a clerk owns one
pub record TimingSide : Type 0 where
  pub revision : ℕ
  pub committed : Rows
  pub draft : Option Draft

-- who owns a draft, and in which stage it is
abbrev pub holder_of : Draft → Holder
holder_of draft = record { stage = draft.stage; owner = draft.owner }

-- the state of an intersection whose draft is in a stage
abbrev pub in_stage : Stage → DbState
in_stage Transaction = InTransaction
in_stage Verify = InVerify
in_stage Done = InDone

-- the state of an intersection by its draft: Normal without one (NTCIP 1201, `dbCreateTransaction`)
abbrev pub state_of : Option Draft → DbState
state_of None = Normal
state_of (Some draft) = in_stage draft.stage

-- the state of an intersection by who owns its draft, and in which stage: Normal where nobody does
abbrev pub state_of_holder : Option Holder → DbState
state_of_holder None = Normal
state_of_holder (Some holder) = in_stage holder.stage

-- what the check of a draft found, by its stage and the rules that it breaks: nothing before it is done (NTCIP 1201, `dbVerifyStatus`)
abbrev pub verdict_on : Stage → List Violation → Verdict
verdict_on Transaction violations = NotJudged
verdict_on Verify violations = NotJudged
verdict_on Done [] = DoneWithNoError
verdict_on Done (violation ∷ violations) = DoneWithError

-- what the check of a draft found: computed from the draft, and never stored (NTCIP 1201, `dbVerifyStatus`)
abbrev pub verdict_of : Option Draft → Verdict
verdict_of None = NotJudged
verdict_of (Some draft) = verdict_on draft.stage (violations_of draft.set)

-- two stages are equal
abbrev pub is_stage : Stage → Stage → Bool
is_stage Transaction Transaction = true
is_stage Verify Verify = true
is_stage Done Done = true
is_stage _ _ = false

-- A STEP OF THE OWNER, in one stage. Without a draft, or with one in another stage, the answer is
-- the refusal for a wrong state; for another clerk it is NotOwner; else the step is taken. What is
-- held is a draft, or its holder alone.
abbrev pub owned : {Held T : Type 0} → (Held → Holder) → Option Held → Stage → DraftRefusal
    → List ℕ → (Held → Result T DraftRefusal) → Result T DraftRefusal
owned holder None stage wrong clerk step = Err wrong
owned holder (Some held) stage wrong clerk step =
    if not (is_stage (holder held).stage stage) then Err wrong
    else if not (bytes_eq (holder held).owner clerk) then Err NotOwner
    else step held

-- why a step of the owner alone is refused before it begins, if it is: by the stage of the draft, else by its owner
abbrev pub refused_by : Option Holder → Stage → DraftRefusal → List ℕ → Option DraftRefusal
refused_by holder stage wrong clerk = result_err (owned (λ who. who) holder stage wrong clerk Ok)

-- the timing side with this draft
abbrev pub with_draft : TimingSide → Draft → TimingSide
with_draft side draft = record side { draft = Some draft }

-- a draft begins as the committed set, where nobody owns one; else the refusal is NotNormal
abbrev pub begun_from : TimingSide → List ℕ → Option Draft → Result TimingSide DraftRefusal
begun_from side clerk None = Ok (with_draft side (record { stage = Transaction; owner = clerk; set = side.committed }))
begun_from side clerk (Some draft) = Err NotNormal

-- a draft is committed unless it has violations, and then unless the revision is the last
abbrev pub committed_with : TimingSide → Draft → List Violation → Result TimingSide DraftRefusal
committed_with side draft [] = if side.revision == LAST_REVISION then Err RevisionFull else Ok (record { revision = side.revision + 1; committed = draft.set; draft = None })
committed_with side draft (violation ∷ violations) = Err (VerifyFailed (length (violation ∷ violations)))

-- any clerk may abandon a draft; where there is none, the refusal is NotTransaction
abbrev pub abandoned_from : TimingSide → Option Draft → Result TimingSide DraftRefusal
abandoned_from side None = Err NotTransaction
abandoned_from side (Some draft) = Ok (record side { draft = None })

-- THE TRANSACTION TABLE, a line for each step: the next timing side, or why not.
abbrev pub table_line : Step → List ℕ → TimingSide → Result TimingSide DraftRefusal
table_line step.Begin clerk side = begun_from side clerk side.draft
table_line (step.Edit changes) clerk side =
    owned holder_of side.draft Transaction NotTransaction clerk (λ draft. Ok (with_draft side
    (record draft { stage = Transaction; set = after_changes draft.set changes })))
table_line step.Verify clerk side =
    owned holder_of side.draft Transaction NotTransaction clerk (λ draft.
    Ok (with_draft side (record draft { stage = Verify })))
table_line step.Check clerk side = owned holder_of side.draft Verify NotVerify clerk (λ draft.
    Ok (with_draft side (record draft { stage = Done })))
table_line step.Reopen clerk side = owned holder_of side.draft Done NotDone clerk (λ draft.
    Ok (with_draft side (record draft { stage = Transaction })))
table_line step.Commit clerk side = owned holder_of side.draft Done NotDone clerk (λ draft.
    committed_with side draft (violations_of draft.set))
table_line step.Abandon clerk side = abandoned_from side side.draft
