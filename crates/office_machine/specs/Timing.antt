-- The running timing of an intersection over a run of commands.
use Rattle.std.specs.Prelude.{ℕ, Bool, true, false, ◌==◌, ◌&&◌, cond, List, [], ◌∷◌, Option, Some, None}
use Rattle.signal_records.specs.TimingSet.{Rows}
use Rattle.draft_core.specs.Transaction.{Draft}
use Rattle.office_machine.specs.{declared.command.Command.Command, declared.reply.Reply.Reply, declared.reply.Reply.TheVariants.Moved, Office.Office, Office.side_at, Step.Run}
use Rattle.office_machine.specs.declared.command.Command.TheVariants as command

-- the command asks to commit the draft of this intersection
abbrev pub is_commit_of : ℕ → Command → Bool
is_commit_of id (command.Commit other clerk) = id == other
is_commit_of id _ = false

-- the reply accepts a step of the transaction
abbrev pub is_moved : Reply → Bool
is_moved (Moved revision state verdict) = true
is_moved _ = false

-- the set of a draft; without a draft, the set that is given instead
abbrev pub set_of_draft : Option Draft → Rows → Rows
set_of_draft None instead = instead
set_of_draft (Some draft) instead = draft.set

-- the draft just before the last accepted commit of the intersection, or what ran before
abbrev pub running_plan : ℕ → Rows → (first : Office) (commands : List Command) (replies : List Reply) (last : Office) → Run first commands replies last → Rows
running_plan id before first (command ∷ commands) (reply ∷ replies) last run =
    running_plan id (cond (is_commit_of id command && is_moved reply) (set_of_draft (side_at first id).draft before) before) run.0 commands replies last run.2
running_plan id before first _ _ last run = before
