-- What is done for a request, from what is known of the call that did it: of one that looks, and of one that changes.
use Rattle.std.proofs.Common.{◌≡◌, inl, inr, refl, subst, sym}
use Rattle.std.specs.Prelude.{Result}
use Rattle.office_desk.specs.Asks.{KeepsOffice}
use Rattle.office_tables_shelf.specs.{Content.Content, declared.shelf.Shelf.Ghosts}
use Rattle.signal_office.specs.Requests.{change_effect, look_effect}
use Rattle.signal_office.specs.declared.asking.Outcome.{Outcome}
use Rattle.signal_office_commands.specs.Changing.{ChangesShelf}
use Rattle.signal_office_faults.specs.declared.fault.Fault.{Fault}
use Rattle.signal_office_file.specs.Task.{DoesTask, Effect}

module _ {S : Type 0} {g : Ghosts S} {old new : S} {effect : Effect Outcome} (result : Result Outcome Fault) where
  pub does_look : effect ≡ look_effect → KeepsOffice g old new → DoesTask g old new effect result
  does_look is looks = subst (λ (it : Effect Outcome). DoesTask g old new it result) (sym is) (record {
    clean = looks.clean;
    honest = looks.kept.honest_before;
    does = λ clean honest. looks.kept.same_content honest;
    stop = λ clean tables held alone found may. alone found (looks.kept.same_outcomes found may);
  })

  pub does_change : {T : Type 0} (Gives : Result T Fault → Result Outcome Fault → Type 0) (Makes : Content → Content → Result T Fault → Type 0) (After : Content → Content → Type 0)
      (it : Result T Fault) → effect ≡ change_effect Gives Makes After → ChangesShelf g old new (λ before now. Makes before now it) After → Gives it result
      → DoesTask g old new effect result
  does_change Gives Makes After it is change gives = subst (λ (asked : Effect Outcome). DoesTask g old new asked result) (sym is) (record {
    clean = change.clean;
    honest = change.honest;
    does = λ clean honest.
        let made = change.makes clean (g.content old) (λ _. refl) in
        (it, subst (λ now. Makes (g.content old) now it) (sym (made.2 honest)) made.1, gives);
    stop = λ clean tables held alone found may. elim (change.stop clean tables held found may) [
      | inl was ↦ inl (alone found was)
      | inr so ↦ inr so
    ];
  })
