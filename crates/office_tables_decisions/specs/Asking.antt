-- The command that asks a step of the transaction on one intersection.
use Rattle.std.specs.Prelude.{ℕ, List}
use Rattle.draft_core.specs.declared.step.Step.{Step}
use Rattle.draft_core.specs.declared.step.Step.TheVariants.{Begin, Edit, Verify, Check, Commit, Reopen, Abandon}
use Rattle.office_machine.specs.declared.command.Command.{Command}
use Rattle.office_machine.specs.declared.command.Command.TheVariants as command

-- a step of the transaction, as the command of a clerk on an intersection
abbrev pub asking_command : ℕ → List ℕ → Step → Command
asking_command id clerk Begin = command.Begin id clerk
asking_command id clerk (Edit changes) = command.Edit id clerk changes
asking_command id clerk Verify = command.Verify id clerk
asking_command id clerk Check = command.Check id clerk
asking_command id clerk Commit = command.Commit id clerk
asking_command id clerk Reopen = command.Reopen id clerk
asking_command id clerk Abandon = command.Abandon id clerk
