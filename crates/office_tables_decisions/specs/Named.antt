-- Which refusals are named for a command, by their numbers in the table.
use Rattle.std.specs.Prelude.{◌≡◌, ◌⊎◌, ℕ, List, [], ◌∷◌, map, Option, Some, None}
use Rattle.office_tables_decisions.specs.RecordBounds.{IsOneOf, refusals_of}
use Rattle.office_machine.specs.{Refusal.line_of, Step.cabinet_of, Step.refusal_of_record, declared.command.Command.Command, declared.refusal.Refusal.Refusal, declared.refusal.Refusal.TheVariants.Unavailable, declared.refusal.Refusal.TheVariants.Damaged, declared.reply.Reply.Reply, declared.reply.Reply.TheVariants.Refused}
use Rattle.office_machine.specs.declared.command.Command.TheVariants as command

-- the number of a refusal in the table
abbrev pub number_of : Refusal → ℕ
number_of why = (line_of why).number

-- the numbers that are named for a command of the register: its own, and, where it is about an intersection, first 10 (UnknownIntersection)
abbrev pub numbers_about : Option ℕ → List ℕ → List ℕ
numbers_about None numbers = numbers
numbers_about (Some id) numbers = 10 ∷ numbers

-- the numbers of the refusals that are named for a command; 90 (Unavailable) and 91 (Damaged), which any may meet, are not among them
abbrev pub numbers_of : Command → List ℕ
numbers_of (command.AddIntersection id interval name) = 11 ∷ []
numbers_of (command.Begin id clerk) = 10 ∷ 12 ∷ []
numbers_of (command.Edit id clerk changes) = 10 ∷ 13 ∷ 14 ∷ []
numbers_of (command.Verify id clerk) = 10 ∷ 13 ∷ 14 ∷ []
numbers_of (command.Check id clerk) = 10 ∷ 15 ∷ 14 ∷ []
numbers_of (command.Commit id clerk) = 10 ∷ 16 ∷ 14 ∷ 17 ∷ 18 ∷ []
numbers_of (command.Reopen id clerk) = 10 ∷ 16 ∷ 14 ∷ []
numbers_of (command.Abandon id clerk) = 10 ∷ 13 ∷ []
numbers_of (command.Draft id) = 10 ∷ 13 ∷ []
numbers_of (command.Record c) = numbers_about (cabinet_of c) (map (λ why. number_of (refusal_of_record why)) (refusals_of c))
numbers_of (command.Import records) = 30 ∷ []
numbers_of command.Stock = []
numbers_of (command.Overdue day) = []
numbers_of _ = 10 ∷ []

-- a reply that refuses gives one of these numbers
abbrev pub RefusesBy : List ℕ → Reply → Type 0
RefusesBy numbers reply = (why : Refusal) → reply ≡ Refused why → IsOneOf numbers (number_of why)

-- a refusal is Unavailable, or Damaged, or one that is named for the command; so want of memory, whose number no command names, is reported as Unavailable
-- alone
abbrev pub IsNamedFor : Command → Reply → Type 0
IsNamedFor command reply = (why : Refusal) → reply ≡ Refused why → (why ≡ Unavailable) ⊎ ((why ≡ Damaged) ⊎ IsOneOf (numbers_of command) (number_of why))
