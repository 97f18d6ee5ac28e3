-- What it means that a command was answered rightly, on tables that stand for an office.
use Rattle.std.specs.Prelude.{◌≡◌}
use Rattle.office_tables_shelf.specs.Content.{Content}
use Rattle.office_machine.specs.{declared.command.Command.Command, declared.reply.Reply.Reply, Office.Office, Step.Step, Step.answered}
use Rattle.office_tables_decisions.specs.StandFor.{StandForSound}

-- From an office, the reply is that of a step, and the tables stand for a sound office after it.
pub record Answers (office : Office) (command : Command) (reply : Reply) (tables : Content) : Type 0 where
  pub next : Office
  pub step : Step office command reply next
  pub stand : StandForSound tables next

-- Whichever sound office the old tables stand for, the reply and the new tables are one step of it.
abbrev pub AnswersAny : Content → Command → Reply → Content → Type 0
AnswersAny old command reply new = (office : Office) → StandForSound old office → Answers office command reply new

-- What is said holds of some tables; where the shelf's database is open, these are the tables that it stores.
abbrev pub EndsIn : Type 0 → Content → (Content → Type 0) → Type 0
EndsIn is_open stored Holds = (tables : Content) × Holds tables × (is_open → stored ≡ tables)

-- tables that stand for the office after the command's own step, whichever sound office the old ones stand for
abbrev pub StandsAfterStep : Content → Command → Content → Type 0
StandsAfterStep old command new = (office : Office) → StandForSound old office → StandForSound new (answered office command).1
