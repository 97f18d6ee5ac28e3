-- What leads from the tests of a decision to its line of the table.
use Rattle.std.proofs.Common.{◌≡◌, ℕ, ◌+◌, ◌==◌, cond, false, true, List, [], length, Option, Some, None, Result, Ok, Err, refl, ap, sym, subst, ◌∙◌, arith}
use Rattle.std.proofs.lemmas.{Bool.Decides.nat_tests, Grind.common_steps}
use Rattle.std.specs.Option.{option_map}
use Rattle.signal_rules.specs.declared.violation.Violation.{Violation}
use Rattle.signal_records.specs.{declared.revision.TheConstants.LAST_REVISION, declared.state.Stage.Stage, declared.state.Holder.Holder}
use Rattle.draft_core.specs.{declared.timing.Timing.Timing, declared.timing.Reach.Reach, declared.refusal.DraftRefusal.DraftRefusal, declared.refusal.DraftRefusal.TheVariants.VerifyFailed, DraftRows.RowsByKey, DraftRows.Stands}
use Rattle.draft_core.specs.Transaction.{TimingSide, Draft, holder_of, owned, refused_by, committed_with}

none_held : (held : Option Draft) → option_map holder_of held ≡ None → held ≡ None
none_held held e = grind arith

some_held : (held : Option Draft) (holder : Holder) → option_map holder_of held ≡ Some holder
    → (draft : Draft) × (held ≡ Some draft) × (holder_of draft ≡ holder)
some_held None holder e = absurd (let f : None ≡ Some holder = e in cc)
some_held (Some draft) holder e = (draft, refl, let f : Some (holder_of draft) ≡ Some holder = e in cc)

-- what is told of a step of the owner, where the tests of state and owner pass
passed : (held : Option Draft) (stage : Stage) (wrong : DraftRefusal) (clerk : List ℕ)
    (step : Draft → Result TimingSide DraftRefusal)
    → refused_by (option_map holder_of held) stage wrong clerk ≡ None
    → (draft : Draft) × (held ≡ Some draft) × (owned holder_of held stage wrong clerk step ≡ step draft)
passed None stage wrong clerk step e = absurd (let f : Some wrong ≡ None = e in cc)
passed (Some draft) stage wrong clerk step e = (draft, refl, grind arith)

module _ {reach : Reach} {timing : Timing} {rows : RowsByKey} {side : TimingSide}
    (stands : Stands reach timing rows side) where
  pub held_by : (holder : Holder) → timing.holder ≡ Some holder
      → (draft : Draft) × (side.draft ≡ Some draft) × (holder_of draft ≡ holder)
  held_by holder is = some_held side.draft holder (sym stands.same_holder ∙ is)

  pub free_of : timing.holder ≡ None → side.draft ≡ None
  free_of is = none_held side.draft (sym stands.same_holder ∙ is)

  pub owned_passes : (stage : Stage) (wrong : DraftRefusal) (clerk : List ℕ)
      (step : Draft → Result TimingSide DraftRefusal) (P : Result TimingSide DraftRefusal → Type 0)
      → refused_by timing.holder stage wrong clerk ≡ None
      → ((draft : Draft) → side.draft ≡ Some draft → P (step draft))
      → P (owned holder_of side.draft stage wrong clerk step)
  owned_passes stage wrong clerk step P is goes =
      let took = passed side.draft stage wrong clerk step
      (ap (λ h. refused_by h stage wrong clerk) (sym stands.same_holder) ∙ is) in
      subst P (sym took.2) (goes took.0 took.1)

-- a commit at the next revision
pub commit_line : (side : TimingSide) (draft : Draft) (revision : ℕ)
    → cond (side.revision == LAST_REVISION) None (Some (side.revision + 1)) ≡ Some revision
    → committed_with side draft [] ≡ Ok (record { revision = revision; committed = draft.set; draft = None })
commit_line side draft revision e = grind arith

-- where the draft breaks rules, the line refuses
pub commit_breaks : (side : TimingSide) (draft : Draft) (violations : List Violation)
    → (length violations == 0) ≡ false
    → committed_with side draft violations ≡ Err (VerifyFailed (length violations))
commit_breaks side draft violations e = grind (arith, nat_tests)

pub none_found : (violations : List Violation) → (length violations == 0) ≡ true → violations ≡ []
none_found violations e = grind (arith, common_steps, nat_tests)
