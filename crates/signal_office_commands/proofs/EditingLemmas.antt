-- An edit that was answered, what is told of it, and a fault that may be explained.
use Rattle.std.proofs.Common.{◌≡◌, ◌⊎◌, inl, inr, ℕ, Bool, true, false, List, Result, Ok, Err, ap, refl, subst}
use Rattle.std.specs.Result.{result_ok}
use Rattle.office_desk.proofs.{Edits.edit_makes, Edits.edit_stops, Looks.looks_weaker, Runs.done_clean, Runs.done_honest}
use Rattle.office_desk.specs.Asks.{IsReply, OnlyLooks, reply_to}
use Rattle.office_desk.specs.Editing.{AfterEdit, EditsPlan}
use Rattle.office_desk_timing.specs.declared.revising.PlanEdit.{PlanEdit}
use Rattle.office_machine.specs.{declared.command.Command.TheVariants.Draft, declared.command.Command.TheVariants.Timing, declared.refusal.Refusal.Refusal, declared.reply.OpenDraft.OpenDraft, declared.reply.Reply.Reply, declared.reply.RunningTiming.RunningTiming}
use Rattle.office_machine.specs.declared.reply.Reply.TheVariants as reply
use Rattle.office_tables_shelf.specs.declared.shelf.Shelf.{Ghosts}
use Rattle.signal_office_commands.specs.Changing.{ChangesShelf}
use Rattle.signal_office_commands.specs.Editing.{EditAnswered, TellsEdited, TellsMove, open_draft}
use Rattle.signal_office_commands.specs.declared.editing.{Revised.Revised, Revised.TheVariants.Committed}
use Rattle.signal_office_faults.specs.declared.fault.Fault.{Fault}
use Rattle.signal_records.specs.declared.state.DbState.{DbState}
use Rattle.signal_records.specs.declared.state.DbState.TheVariants.{Normal, Transaction, Verify, Done}

-- an edit of a clerk, by whatever words of the name it is run, is a change
pub edit_answered : {S : Type 0} {g : Ghosts S} {old new : S} (id : ℕ) (words clerk : List ℕ) (asked : PlanEdit) (given : Reply) → words ≡ clerk → EditsPlan g id words asked given old new
    → ChangesShelf g old new (λ tables made. EditAnswered id clerk asked tables given made) (AfterEdit id clerk asked)
edit_answered {g = g} {old = old} {new = new} id words clerk asked given same edits =
    let it = subst (λ (c : List ℕ). EditsPlan g id c asked given old new) same edits in
    record { clean = done_clean it; honest = done_honest it; makes = edit_makes id clerk asked it; stop = edit_stops id clerk asked it }

module _ {S : Type 0} {g : Ghosts S} {old new : S} (id : ℕ) where
  -- in state Normal it is told that the plan was committed
  pub tells_committed : (read : Result RunningTiming Refusal) (result : Result Revised Fault) (state : DbState) → state ≡ Normal
      → OnlyLooks g old new (λ tables. IsReply tables (Timing id) (reply_to (λ it. reply.Timing it) read)) → result ≡ Ok (Committed (result_ok read))
      → OnlyLooks g old new (λ tables. TellsMove id state tables result)
  tells_committed read result Normal is reads told = looks_weaker reads (λ tables it. (read, it, told))
  tells_committed read result _ is reads told = absurd cc

  -- in any other that the draft is open
  pub tells_open : (read : Result OpenDraft Refusal) (result : Result Revised Fault) (state : DbState) → (state ≡ Transaction) ⊎ ((state ≡ Verify) ⊎ (state ≡ Done))
      → OnlyLooks g old new (λ tables. IsReply tables (Draft id) (reply_to (λ it. reply.Draft it) read)) → result ≡ open_draft read
      → OnlyLooks g old new (λ tables. TellsMove id state tables result)
  tells_open read result Normal is reads told = absurd (elim is [ inl e ↦ cc | inr more ↦ elim more [ inl e ↦ cc | inr e ↦ cc ] ])
  tells_open read result _ is reads told = looks_weaker reads (λ tables it. (read, it, told))

-- a fault is told as it is, or explained
pub explained : (explain : Bool) (why told : Fault) → (explain ≡ false → told ≡ why) → TellsEdited (Err why) explain (Err told)
explained true why told plain = (told, refl)
explained false why told plain = ap Err (plain refl)
