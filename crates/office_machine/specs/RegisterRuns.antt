-- The register of an office over a run of commands: which orders are open, and what is in stock.
use Rattle.std.specs.Prelude.{◌≡◌, ℕ, ◌+◌, Bool, true, false, ◌==◌, cond, List, [], ◌∷◌, ◌++◌}
use Rattle.std.specs.{Cmp.Lexicographic.slice_cmp, FinMap.find, List.list_any, Ordering.nat_cmp}
use Rattle.cabinet_core.specs.Cabinet.{Line, added as added_line, same as same_line, refused as refused_line, on_hand}
use Rattle.cabinet_core.specs.{declared.command.RecordCommand.RecordCommand, Orders.is_open_at, Register.Register, Runs.open_by, Runs.received_by, Runs.spent_by, Step.line_at, Step.with_record, Stock.pieces}
use Rattle.office_machine.specs.{Office.Office, Step.Run, declared.command.Command.Command, declared.reply.Reply.Reply}
use Rattle.office_machine.specs.declared.reply.Reply.TheVariants.{Added, Imported, OpenOrders, Stock}
use Rattle.office_machine.specs.declared.command.Command.TheVariants as command

-- ---- accepted records

-- the first list if a record is new by its line of the table, the second if it was recorded already, and none if it
-- is refused
abbrev pub new_by : Line → (added same : List RecordCommand) → List RecordCommand
new_by added_line added same = added
new_by same_line added same = same
new_by (refused_line why) added same = []

-- the records of an import that are new, each tested in its turn
abbrev pub new_among : Register → List RecordCommand → List RecordCommand
new_among r [] = []
new_among r (c ∷ cs) = new_by (line_at r c) (c ∷ new_among (with_record r c) cs) (new_among r cs)

-- the reply accepts what was asked: it is Added or Imported
abbrev pub is_accepted : Reply → Bool
is_accepted Added = true
is_accepted (Imported added same) = true
is_accepted _ = false

-- the records that a command would bring in: its own, or those of an import that are new
abbrev pub records_asked : Office → Command → List RecordCommand
records_asked office (command.Record c) = c ∷ []
records_asked office (command.Import records) = new_among office.register records
records_asked office _ = []

-- the records that a command brought in, by its reply: none unless the reply accepts them
abbrev pub accepted_of : Office → Command → Reply → List RecordCommand
accepted_of office command reply = cond (is_accepted reply) (records_asked office command) []

-- the records that were brought in over a run, in their order
abbrev pub records_accepted : (first : Office) (commands : List Command) (replies : List Reply) (last : Office) → Run first commands replies last → List RecordCommand
records_accepted first (command ∷ commands) (reply ∷ replies) last run = accepted_of first command reply ++ records_accepted run.0 commands replies last run.2
records_accepted first _ _ last run = []

-- ---- what accepted records make of the register

-- ---- what the replies show of the register

-- the number is one of the list
abbrev pub is_among_numbers : List ℕ → ℕ → Bool
is_among_numbers numbers n = list_any (λ m. m == n) numbers

-- the pieces of a part that a list of stock shows; 0 if it does not name the part
abbrev pub pieces_in : List (List ℕ × ℕ) → List ℕ → ℕ
pieces_in stock code = on_hand (find (slice_cmp nat_cmp) code stock)

-- after the records accepted since the first office, a reply to OpenOrders shows the orders that they left open; and
-- for each part, the pieces that a reply to Stock shows plus those used since are those on hand in the first office
-- plus those received since
abbrev pub ShowsAccepted : Office → List RecordCommand → Command → Reply → Type 0
ShowsAccepted first so_far (command.OpenOrders id) (OpenOrders numbers) =
    (n : ℕ) → is_among_numbers numbers n ≡ open_by id n (is_open_at first.register id n) so_far
ShowsAccepted first so_far command.Stock (Stock stock) =
    (code : List ℕ) → pieces_in stock code + spent_by code so_far ≡ pieces first.register code + received_by code so_far
ShowsAccepted first so_far _ _ = Unit {0}

-- each reply of a run shows the records that were accepted before it
abbrev pub ShowAccepted : Office → List RecordCommand → (now : Office) (commands : List Command) (replies : List Reply) (last : Office) → Run now commands replies last → Type 0
ShowAccepted first so_far now (command ∷ commands) (reply ∷ replies) last run =
    ShowsAccepted first so_far command reply × ShowAccepted first (so_far ++ accepted_of now command reply) run.0 commands replies last run.2
ShowAccepted first so_far now _ _ last run = Unit {0}

-- an order is open after it was opened, not open after it was closed, else as before; and for each part, what is on
-- hand plus what was used is what was on hand plus what was received: at the end, and in each reply that shows it
pub record RegisterRuns (first : Office) (commands : List Command) (replies : List Reply) (last : Office) (run : Run first commands replies last) : Type 0 where
  pub orders : (id n : ℕ) → is_open_at last.register id n ≡ open_by id n (is_open_at first.register id n) (records_accepted first commands replies last run)
  pub stock : (code : List ℕ) →
      pieces last.register code + spent_by code (records_accepted first commands replies last run) ≡ pieces first.register code + received_by code (records_accepted first commands replies last run)
  pub shown : ShowAccepted first [] first commands replies last run
