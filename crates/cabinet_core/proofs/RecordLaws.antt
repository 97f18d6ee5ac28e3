-- Over commands that were accepted in turn: which orders are open, and what is in stock.
use Rattle.std.proofs.Common.{◌≡◌, ℕ, ◌+◌, Bool, true, false, ◌&&◌, ◌==◌, cond, List, [], ◌∷◌, Option, None, Some, refl, ap, ◌∙◌, arith}
use Rattle.std.specs.FinMap.{FinMap, get, insert, get-insert}
use Rattle.cabinet_core.specs.Cabinet.{added, close_line, record_of, with_closing}
use Rattle.cabinet_core.specs.declared.{command.RecordCommand.RecordCommand, record.Closing.Closing}
use Rattle.cabinet_core.specs.declared.command.RecordCommand.TheVariants.{OpenOrder, UsePart, CloseOrder, Receive}
use Rattle.cabinet_core.specs.{declared.record.Order.Order, Orders.is_open_order, Orders.is_open_at, Register.Register, Register.LineKey, Register.DeliveryKey, Register.record_cmp, Register.line_cmp, Register.delivery_cmp, Runs.AreAccepted, Sound.IsSoundRegister, Step.line_at, Step.with_closed, Step.with_record, Stock.pieces_brought, Stock.pieces_taken}
use Rattle.cabinet_core.specs.Runs.{open_with, open_by, pieces_received, pieces_spent, received_by, spent_by}
use Rattle.cabinet_core.specs.Stock.{pieces_delivered, pieces_used, pieces, hand_of}
use Rattle.cabinet_core.proofs.{EntrySums.sum_insert, RecordKept.closed_leaves, Sound.usable, Sound.receivable}
use Rattle.cabinet_core.proofs.KeyOrders.{record_total, line_total, delivery_total, record_ties}

-- ---- orders

-- an order that is put is the one that stands there
open_put : (r : Register) (id n other order : ℕ) (put : Order) (after : Bool) → is_open_order (Some put) ≡ after
    → is_open_order (get (insert r.orders (other, order) put) (id, n)) ≡ cond ((other == id) && (order == n)) after (is_open_at r id n)
open_put r id n other order put after is =
    ap is_open_order (get-insert record_total r.orders (other, order) put (id, n))
    ∙ ap (λ b. is_open_order (cond b (Some put) (get r.orders (id, n)))) (record_ties id n other order)
    ∙ elim ((other == id) && (order == n)) as (λ b. is_open_order (cond b (Some put) (get r.orders (id, n))) ≡ cond b after (is_open_at r id n)) [ true ↦ is | false ↦ refl ]

open_closed : (r : Register) (id n other order : ℕ) (closing : Closing) (there : Option Order) → close_line there closing ≡ added
    → is_open_at (with_closed r other order closing there) id n ≡ cond ((other == id) && (order == n)) false (is_open_at r id n)
open_closed r id n other order closing None line = absurd cc
open_closed r id n other order closing (Some found) line = open_put r id n other order (with_closing found closing) false refl

open_step : (r : Register) (id n : ℕ) (command : RecordCommand) → line_at r command ≡ added → is_open_at (with_record r command) id n ≡ open_with id n (is_open_at r id n) command
open_step r id n (OpenOrder other opening) line = open_put r id n other opening.number (record_of opening) true refl
open_step r id n (CloseOrder other order closing) line = open_closed r id n other order closing (get r.orders (other, order)) line
open_step r id n _ line = refl

-- after commands that were accepted an order is open as they say
pub open_law : (id n : ℕ) (commands : List RecordCommand) (r last : Register) → AreAccepted r commands last → is_open_at last id n ≡ open_by id n (is_open_at r id n) commands
open_law id n [] r last run = ap (λ (x : Register). is_open_at x id n) run
open_law id n (command ∷ commands) r last run =
    open_law id n commands (with_record r command) last run.1
    ∙ ap (λ b. open_by id n b commands) (open_step r id n command run.0)

-- ---- stock

nothing_more : (n : ℕ) → n ≡ n + 0
nothing_more n = omega arith

-- closing an order leaves what is counted of the other records
closed_still : (count : Register → ℕ) (r : Register) → ((orders : FinMap record_cmp Order) → count (record r { orders = orders }) ≡ count r)
    → (id order : ℕ) (closing : Closing) → count (with_record r (CloseOrder id order closing)) ≡ count r + 0
closed_still count r still id order closing = closed_leaves count r still id order closing (get r.orders (id, order)) ∙ nothing_more (count r)

delivered_step : (r : Register) (code : List ℕ) (command : RecordCommand) → line_at r command ≡ added → pieces_delivered (with_record r command) code ≡ pieces_delivered r code + pieces_received code command
delivered_step r code (CloseOrder id order closing) line = closed_still (λ x. pieces_delivered x code) r (λ _. refl) id order closing
delivered_step r code (Receive delivery) line =
    let key : DeliveryKey = (delivery.part, delivery.number) in
    sum_insert delivery_cmp delivery_total r.deliveries key delivery (receivable (get r.deliveries key) (hand_of r delivery.part) delivery line).new (pieces_brought code)
delivered_step r code _ line = nothing_more (pieces_delivered r code)

used_step : (r : Register) (code : List ℕ) (command : RecordCommand) → line_at r command ≡ added → pieces_used (with_record r command) code ≡ pieces_used r code + pieces_spent code command
used_step r code (UsePart id used_line) line =
    let key : LineKey = (id, (used_line.order, used_line.line)) in
    sum_insert line_cmp line_total r.lines key used_line (usable (get r.lines key) (get r.orders (id, used_line.order)) (hand_of r used_line.part) used_line line).new (pieces_taken code)
used_step r code (CloseOrder id order closing) line = closed_still (λ x. pieces_used x code) r (λ _. refl) id order closing
used_step r code _ line = nothing_more (pieces_used r code)

-- what each command that was accepted adds to a count, all of them add
counted_law : (count : Register → ℕ) (one : RecordCommand → ℕ) (all : List RecordCommand → ℕ) → 0 ≡ all []
    → ((c : RecordCommand) (cs : List RecordCommand) → one c + all cs ≡ all (c ∷ cs))
    → ((r : Register) (c : RecordCommand) → line_at r c ≡ added → count (with_record r c) ≡ count r + one c)
    → (commands : List RecordCommand) (r last : Register) → AreAccepted r commands last → count last ≡ count r + all commands
counted_law count one all none more step [] r last run = omega (arith, ap count run, none)
counted_law count one all none more step (c ∷ cs) r last run =
    omega (arith, counted_law count one all none more step cs (with_record r c) last run.1, step r c run.0, more c cs)

-- the deliveries grow by what was received
pub delivered_law : (code : List ℕ) (commands : List RecordCommand) (r last : Register) → AreAccepted r commands last → pieces_delivered last code ≡ pieces_delivered r code + received_by code commands
delivered_law code = counted_law (λ x. pieces_delivered x code) (pieces_received code) (received_by code) refl (λ c cs. refl) (λ x c. delivered_step x code c)

-- the used lines grow by what was taken
pub used_law : (code : List ℕ) (commands : List RecordCommand) (r last : Register) → AreAccepted r commands last → pieces_used last code ≡ pieces_used r code + spent_by code commands
used_law code = counted_law (λ x. pieces_used x code) (pieces_spent code) (spent_by code) refl (λ c cs. refl) (λ x c. used_step x code c)

-- what is on hand and what was taken is what was on hand and what was received
pub stock_law : (code : List ℕ) (commands : List RecordCommand) (r last : Register) → AreAccepted r commands last → IsSoundRegister r → IsSoundRegister last → pieces last code + spent_by code commands ≡ pieces r code + received_by code commands
stock_law code commands r last run first_sound last_sound =
    omega (arith, delivered_law code commands r last run, used_law code commands r last run, (first_sound.stock code).covered, (last_sound.stock code).covered)
