-- A line of the table keeps the committed set as it is, or commits a set that breaks no rule.
use Rattle.std.proofs.Common.{◌≡◌, ℕ, ◌+◌, ◌==◌, false, List, [], Option, Some, None, Result, Ok, Err, refl, arith}
use Rattle.signal_rules.specs.{Violations.violations_of, declared.violation.Violation.Violation}
use Rattle.signal_records.specs.declared.{revision.TheConstants.LAST_REVISION, state.Stage.Stage, state.Stage.TheVariants.Done}
use Rattle.draft_core.specs.declared.{step.Step.TheVariants.Commit, refusal.DraftRefusal.DraftRefusal, refusal.DraftRefusal.TheVariants.NotDone}
use Rattle.draft_core.specs.Transaction.{TimingSide, Draft, holder_of, owned, committed_with, table_line}

-- what an owned command gives is the step of the draft that is held
pub record OwnedStep (side : TimingSide) (step : Draft → Result TimingSide DraftRefusal) (next : TimingSide) : Type 0 where
  pub draft : Draft
  pub held : side.draft ≡ Some draft
  pub gives : step draft ≡ Ok next

given : (draft : Draft) (stage : Stage) (wrong : DraftRefusal) (clerk : List ℕ)
    (step : Draft → Result TimingSide DraftRefusal) (next : TimingSide)
    → owned holder_of (Some draft) stage wrong clerk step ≡ Ok next → step draft ≡ Ok next
given draft stage wrong clerk step next e = grind arith

pub owned_inverts : (side : TimingSide) (stage : Stage) (wrong : DraftRefusal) (clerk : List ℕ) (step : Draft → Result TimingSide DraftRefusal) (next : TimingSide)
    → owned holder_of side.draft stage wrong clerk step ≡ Ok next → OwnedStep side step next
owned_inverts side stage wrong clerk step next e = go side.draft refl e
  where
    go : (held : Option Draft) → side.draft ≡ held
        → owned holder_of held stage wrong clerk step ≡ Ok next → OwnedStep side step next
    go None is e = absurd (let f : Err wrong ≡ Ok next = e in cc)
    go (Some draft) is e = record { draft = draft; held = is; gives = given draft stage wrong clerk step next e }

-- a commit: the draft breaks no rule and becomes the committed set, the revision was not the last and rises by one, and nobody holds a draft
pub record Commits (side : TimingSide) (draft : Draft) (next : TimingSide) : Type 0 where
  pub sound : violations_of draft.set ≡ []
  pub before : (side.revision == LAST_REVISION) ≡ false
  pub becomes : next ≡ record { revision = side.revision + 1; committed = draft.set; draft = None }

committed : (side : TimingSide) (draft : Draft) (found : List Violation) (next : TimingSide)
    → committed_with side draft found ≡ Ok next
    → (found ≡ []) × ((side.revision == LAST_REVISION) ≡ false)
    × (next ≡ record { revision = side.revision + 1; committed = draft.set; draft = None })
committed side draft found next e = grind arith

pub committed_inverts : (side : TimingSide) (clerk : List ℕ) (next : TimingSide) → table_line Commit clerk side ≡ Ok next
    → (draft : Draft) × (side.draft ≡ Some draft) × Commits side draft next
committed_inverts side clerk next e =
    let step = owned_inverts side Done NotDone clerk (λ draft. committed_with side draft (violations_of draft.set)) next e in
    let made = committed side step.draft (violations_of step.draft.set) next step.gives in
    (step.draft, step.held, record { sound = made.0; before = made.1; becomes = made.2 })
