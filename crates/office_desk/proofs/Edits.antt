-- From an edit that was decided to one that was made, or not.
use Rattle.std.proofs.Common.{◌≡◌, List, [], ℕ, Result, Ok, Err, refl, inl, inr}
use Rattle.std.specs.Prelude.{⊤}
use Rattle.draft_core.specs.declared.timing.Reach.TheVariants.{Plan}
use Rattle.office_desk.specs.{Asks.OnlyLooks, Damage.HasDamageIn, Editing.AfterEdit, Editing.EditsPlan, Running.MakesTables, Running.StopLeaves, Running.WasAnswered}
use Rattle.office_desk.proofs.{Answering.IsTold, Looks.looks_any, Looks.looks_open, Runs.done_makes, Runs.done_stops, Runs.was_answered}
use Rattle.office_desk_timing.specs.{Revising.AnswersAnyEdit, Revising.DecidesEdit, Revising.IsEditDecision, declared.revising.PlanEdit.PlanEdit}
use Rattle.office_desk_timing.proofs.{Revisions.told, Stands.no_damage}
use Rattle.office_machine.specs.declared.{reply.Reply.Reply, reply.Reply.TheVariants.Refused}
use Rattle.office_tables_decisions.specs.{Reads.OnlyReads, declared.decided.Decided.Decided}
use Rattle.office_tables_shelf.specs.{Change.changed_by, Content.Content, declared.shelf.Shelf.Ghosts, declared.shelf.ShelfFault.ShelfFault, declared.shelf.ShelfFault.TheVariants.Damaged}
use Rattle.office_machine.specs.declared.refusal.Refusal.TheVariants as refusal

module _ (id : ℕ) (clerk : List ℕ) (edit : PlanEdit) where
  -- an edit that was decided, on these tables
  abbrev Decides : Content → Decided → Type 0
  Decides tables decided = IsEditDecision ⊤ tables id clerk edit decided.reply decided.changes.items

  unavailable_edit : (tables : Content) → AnswersAnyEdit tables id clerk edit (Refused refusal.Unavailable) tables
  unavailable_edit tables office stands = record { next = office; step = inl (refl, refl); stand = stands }

  -- an edit that was decided, or a fault of the shelf as its refusal
  pub edit_look : {S : Type 0} (g : Ghosts S) (read : Result Decided ShelfFault) (given : Decided) (old new : S) → OnlyReads g ⊤ read old new → IsTold read given
      → DecidesEdit (g.is_honest new) (g.content old) id clerk edit read → OnlyLooks g old new (λ tables. Decides tables given)
  edit_look g (Ok decided) given old new reads is decides = looks_open reads.kept reads.clean_before (λ clean. reads.read tt clean tt) (λ honest. rw is (record {
    step = λ _. decides.step honest;
    writes = λ _. decides.writes honest;
    news = λ _. decides.news honest;
    made = decides.made;
    refused = decides.refused;
    damaged = λ told _. decides.damaged told honest;
  }))
  edit_look g (Err Damaged) given old new reads is decides = looks_open reads.kept reads.clean_before (λ clean. reads.read tt clean refl) (λ honest. rw (is.0, is.1) (record {
    step = λ _ office stands. absurd (no_damage Plan (g.content old) id (decides refl honest) office stands);
    writes = λ _ office stands. refl;
    news = λ _. tt;
    made = λ moved. absurd moved;
    refused = λ refused. refl;
    damaged = λ said _. decides refl honest;
  }))
  edit_look g (Err _) given old new reads is decides = looks_any reads.kept reads.clean_before
      (λ tables. rw (is.0, is.1) (told ⊤ tables id clerk edit _ (λ side. refl) (λ moved. moved) (λ e. cc) (λ _. unavailable_edit tables)))

  after_edit : (tables : Content) (decided : Decided) → Decides tables decided → (decided.changes.items ≡ [] → ⊥) → AfterEdit id clerk edit tables (changed_by tables decided.changes.items)
  after_edit tables decided is some office stands =
      let answer = is.step tt office stands in (
        decided.reply,
        answer.next,
        elim answer.step [ inl left ↦ absurd (some (is.refused (rw left.0 tt))) | inr edits ↦ edits ],
        answer.stand,
      )

  module _ {S : Type 0} {g : Ghosts S} {reply : Reply} {old new : S} (it : EditsPlan g id clerk edit reply old new) where
    pub edit_makes : MakesTables g old new (λ tables. WasAnswered (λ before. AnswersAnyEdit before id clerk edit) (λ before. HasDamageIn Plan before id) tables reply)
    edit_makes = done_makes it _ (λ tables is.
        rw it.carried.told (was_answered _ _ tables it.decided it.carried.made (is.step tt) (unavailable_edit tables) (λ said. is.damaged said tt)))

    pub edit_stops : StopLeaves g old new (AfterEdit id clerk edit)
    edit_stops = done_stops it _ (λ tables. after_edit tables it.decided)
