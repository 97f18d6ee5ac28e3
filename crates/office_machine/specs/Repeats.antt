-- Imports that are sent again over a run of commands.
use Rattle.std.specs.Prelude.{◌≡◌, ◌⊎◌, ℕ, List, [], ◌∷◌, length}
use Rattle.cabinet_core.specs.declared.command.RecordCommand.{RecordCommand}
use Rattle.office_machine.specs.{Office.Office, Step.Run, declared.command.Command.Command, declared.command.Command.TheVariants.Import, declared.refusal.Refusal.TheVariants.Unavailable, declared.reply.Reply.Reply, declared.reply.Reply.TheVariants.Imported, declared.reply.Reply.TheVariants.Refused}

-- the import adds none of the records, since each is recorded already, or it is answered Unavailable; and the office
-- is as it was
abbrev pub IsRepeat : Office → List RecordCommand → Reply → Office → Type 0
IsRepeat office records reply next = ((reply ≡ Imported 0 (length records)) ⊎ (reply ≡ Refused Unavailable)) × (next ≡ office)

-- each import of these records in a run is a repeat
abbrev pub AreRepeats : List RecordCommand → (first : Office) (commands : List Command) (replies : List Reply) (last : Office) → Run first commands replies last → Type 0
AreRepeats records first (command ∷ commands) (reply ∷ replies) last run =
    (command ≡ Import records → IsRepeat first records reply run.0) × AreRepeats records run.0 commands replies last run.2
AreRepeats records first _ _ last run = Unit {0}

-- once an import of a run was accepted, each further import of its records is a repeat
abbrev pub Repeats : (first : Office) (commands : List Command) (replies : List Reply) (last : Office) → Run first commands replies last → Type 0
Repeats first (command ∷ commands) (reply ∷ replies) last run =
    ((records : List RecordCommand) (added same : ℕ) → command ≡ Import records → reply ≡ Imported added same → AreRepeats records run.0 commands replies last run.2)
    × Repeats run.0 commands replies last run.2
Repeats first _ _ last run = Unit {0}
