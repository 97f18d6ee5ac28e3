-- What a run of accepted commands makes of an order and of the stock.
use Rattle.std.specs.Prelude.{◌≡◌, ℕ, ◌+◌, Bool, true, false, ◌==◌, ◌&&◌, if◌then◌else◌, List, [], ◌∷◌}
use Rattle.std.specs.Str.{bytes_eq}
use Rattle.cabinet_core.specs.Cabinet.{added}
use Rattle.cabinet_core.specs.Register.{Register}
use Rattle.cabinet_core.specs.Step.{line_at, with_record}
use Rattle.cabinet_core.specs.declared.command.RecordCommand.{RecordCommand}
use Rattle.cabinet_core.specs.declared.command.RecordCommand.TheVariants.{Inspect, OpenOrder, UsePart, CloseOrder, Receive}

-- the commands, each accepted in its turn, lead from the first register to the last
abbrev pub AreAccepted : Register → List RecordCommand → Register → Type 0
AreAccepted r [] last = last ≡ r
AreAccepted r (command ∷ commands) last = (line_at r command ≡ added) × AreAccepted (with_record r command) commands last

-- ---- orders

-- whether an order is open after an accepted command, by whether it was open before
abbrev pub open_with : ℕ → ℕ → Bool → RecordCommand → Bool
open_with id n before (OpenOrder other opening) = if (other == id) && (opening.number == n) then true else before
open_with id n before (CloseOrder other order closing) = if (other == id) && (order == n) then false else before
open_with id n before (Inspect other inspection) = before
open_with id n before (UsePart other line) = before
open_with id n before (Receive delivery) = before

-- whether an order is open after a run of accepted commands: by the last of them that opens or closes it
abbrev pub open_by : ℕ → ℕ → Bool → List RecordCommand → Bool
open_by id n before [] = before
open_by id n before (command ∷ commands) = open_by id n (open_with id n before command) commands

-- ---- stock

-- the pieces of a part that a command brings into stock
abbrev pub pieces_received : List ℕ → RecordCommand → ℕ
pieces_received code (Receive delivery) = if bytes_eq delivery.part code then delivery.count else 0
pieces_received code (Inspect id inspection) = 0
pieces_received code (OpenOrder id opening) = 0
pieces_received code (UsePart id line) = 0
pieces_received code (CloseOrder id order closing) = 0

-- the pieces of a part that a command takes from stock
abbrev pub pieces_spent : List ℕ → RecordCommand → ℕ
pieces_spent code (UsePart id line) = if bytes_eq line.part code then line.count else 0
pieces_spent code (Inspect id inspection) = 0
pieces_spent code (OpenOrder id opening) = 0
pieces_spent code (CloseOrder id order closing) = 0
pieces_spent code (Receive delivery) = 0

-- how many pieces of a part the deliveries of commands bring
abbrev pub received_by : List ℕ → List RecordCommand → ℕ
received_by code [] = 0
received_by code (command ∷ commands) = pieces_received code command + received_by code commands

-- how many pieces of a part commands use for orders
abbrev pub spent_by : List ℕ → List RecordCommand → ℕ
spent_by code [] = 0
spent_by code (command ∷ commands) = pieces_spent code command + spent_by code commands
