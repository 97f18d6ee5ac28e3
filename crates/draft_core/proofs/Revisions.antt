-- What the lines of a revision's steps come to.
use Rattle.std.proofs.Common.{◌≡◌, ℕ, ◌==◌, Bool, true, false, List, [], ◌∷◌, ◌++◌, length, Option, Some, None, Result, Ok, refl, ap, sym, subst₂, ◌∙◌, arith}
use Rattle.std.proofs.lemmas.{Bool.Decides.nat_tests, Slice.Eq.bytes_eq-Decides}
use Rattle.std.specs.{Option.option_map, Str.bytes_eq}
use Rattle.signal_rules.specs.{Violations.violations_of, declared.violation.Violation.Violation}
use Rattle.signal_records.specs.{TimingSet.Rows, TimingSet.after_changes, declared.record.Change.Change, declared.state.Holding.Holding, declared.state.Holding.TheVariants.Begun, declared.state.Holding.TheVariants.Kept, declared.state.Stage.Stage, declared.state.Stage.TheVariants.Transaction, declared.state.Stage.TheVariants.Done}
use Rattle.draft_core.specs.{declared.step.Step.Step, declared.refusal.DraftRefusal.DraftRefusal, declared.timing.Timing.Timing, DraftRows.RowsByKey, DraftRows.Stands, Moves.next_holder}
use Rattle.draft_core.specs.Revising.{base_of, committing, lines_of, opening_steps, revision_steps, take_up}
use Rattle.draft_core.specs.Transaction.{TimingSide, Draft, committed_with, holder_of, with_draft}
use Rattle.draft_core.specs.declared.timing.Reach.TheVariants as reach
use Rattle.draft_core.specs.declared.step.Step.TheVariants as step

-- what the steps that are left make of an edited draft: without any it stays open, else it is committed
abbrev pub ends_with : TimingSide → (owner : List ℕ) → Rows → List Step
    → Result TimingSide DraftRefusal
ends_with side owner set [] =
    Ok (with_draft side (record { stage = Transaction; owner = owner; set = set }))
ends_with side owner set (step ∷ steps) =
    committed_with side (record { stage = Done; owner = owner; set = set }) []

-- who owns a draft that a clerk takes up, and what the lines then come to
pub record TakesUp (side : TimingSide) (clerk : List ℕ) (holding : Holding) : Type 0 where
  pub owner : List ℕ
  pub holds : next_holder holding clerk (option_map holder_of side.draft)
      ≡ Some (record { stage = Transaction; owner = owner })
  pub lines : (edits : List Change) (commit : Bool)
      → lines_of clerk (revision_steps side edits commit) side
      ≡ ends_with side owner (after_changes (base_of side) edits)
      (committing commit (violations_of (after_changes (base_of side) edits)))

module _ (revision : ℕ) (committed : Rows) (clerk owner : List ℕ) where
  abbrev side_of : Option Draft → TimingSide
  side_of draft = record { revision = revision; committed = committed; draft = draft }

  -- in whichever stage the clerk's draft is, the edit is made to it
  edited : (stage : Stage) (set : Rows) (edits : List Change) (more : List Step) → bytes_eq owner clerk ≡ true
      → lines_of clerk (opening_steps stage ++ step.Edit edits ∷ more)
      (side_of (Some (record { stage = stage; owner = owner; set = set })))
      ≡ lines_of clerk more (side_of (Some (record { stage = Transaction; owner = owner; set = after_changes set edits })))
  edited stage set edits more owns = grind arith

  ended : (commit : Bool) (set : Rows) (found : List Violation) (held : Option Draft) → bytes_eq owner clerk ≡ true
      → violations_of set ≡ found
      → lines_of clerk (committing commit found) (side_of (Some (record { stage = Transaction; owner = owner; set = set })))
      ≡ ends_with (side_of held) owner set (committing commit found)
  ended commit set found held owns is = grind arith

taken : (side : TimingSide) (clerk : List ℕ) (held : Option Draft) (holding : Holding)
    → take_up (option_map holder_of held) clerk ≡ Ok holding → side.draft ≡ held
    → TakesUp side clerk holding
taken side clerk None holding e none =
    let owns = (bytes_eq-Decides clerk clerk).1 refl in
    subst₂ (λ d h. TakesUp (record side { draft = d }) clerk h) (sym none) (let same : Begun ≡ holding = cc in same) (record {
      owner = clerk;
      holds = refl;
      lines = λ edits commit. edited side.revision side.committed clerk clerk Transaction side.committed edits _ owns
          ∙ ended side.revision side.committed clerk clerk commit _ _ None owns refl;
    })
taken side clerk (Some draft) holding e is =
    let own : (bytes_eq draft.owner clerk ≡ true) × (Kept Transaction ≡ holding) = grind arith in
    subst₂ (λ d h. TakesUp (record side { draft = d }) clerk h) (sym is) own.1 (record {
      owner = draft.owner;
      holds = refl;
      lines = λ edits commit. edited side.revision side.committed clerk draft.owner draft.stage draft.set edits _ own.0
          ∙ ended side.revision side.committed clerk draft.owner commit _ _ (Some draft) own.0 refl;
    })

pub takes_up : {timing : Timing} {rows : RowsByKey} {side : TimingSide}
    → Stands reach.Plan timing rows side → (clerk : List ℕ) (holding : Holding)
    → Ok holding ≡ take_up timing.holder clerk → TakesUp side clerk holding
takes_up {side = side} stands clerk holding e = taken side clerk side.draft holding
    (ap (λ h. take_up h clerk) (sym stands.same_holder) ∙ sym e) refl

-- a draft that breaks rules is not committed
pub breaks_stay : (commit : Bool) (found : List Violation) → (length found == 0) ≡ false
    → committing commit found ≡ []
breaks_stay commit found e = grind (arith, nat_tests)
