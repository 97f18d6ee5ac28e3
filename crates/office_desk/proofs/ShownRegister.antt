-- What the queries of the register show after records that were accepted, each in its turn.
use Rattle.std.proofs.Common.{◌≡◌, ℕ, ◌+◌, Bool, true, false, ◌&&◌, ◌==◌, List, [], ◌∷◌, ◌++◌, map, filter, Option, Some, None, T, refl, ap, sym, subst, ◌∙◌, inl, inr, arith}
use Rattle.std.proofs.lemmas.Bool.{cases_Bool}
use Rattle.std.specs.FinMap.{get, entries, entries_sorted, get-entries}
use Rattle.std.specs.{FinMap.Entries.is_sorted, FinMap.Entries.below_all, FinMap.Entries.where_key, List.AllByRecursion, Prelude.IfSome, Ordering.eq_by_cmp, Ordering.is_eq}
use Rattle.cabinet_core.specs.{Cabinet.added, Cabinet.close_line, Cabinet.with_closing, Cabinet.record_of, Orders.is_open, Orders.is_open_at, Orders.is_open_order, Orders.open_at, Runs.AreAccepted, Runs.open_by, Runs.received_by, Runs.spent_by, Stock.IsStocked, Stock.pieces, Stock.stock_by_code, Stock.stock_of, Register.RecordKey, Register.Register, Register.record_cmp, Sound.IsOrderAt, Sound.IsSoundRegister, Step.line_at, Step.with_closed, Step.with_record, declared.command.RecordCommand.RecordCommand, declared.record.Closing.Closing, declared.record.Order.Order}
use Rattle.cabinet_core.specs.declared.command.RecordCommand.TheVariants.{Inspect, OpenOrder, UsePart, CloseOrder, Receive}
use Rattle.cabinet_core.proofs.{EntryLemmas.entries_stand, EntryLemmas.tied, KeyOrders.record_exact, KeyOrders.record_total, KeyOrders.record_ties, Puts.all_put, Puts.if_more, RecordLaws.open_law, RecordLaws.delivered_law, RecordLaws.used_law, StockList.stock_has, Sound.usable, Sound.receivable, StockLemmas.line_stocked, StockLemmas.delivery_stocked, StockLemmas.hand_adds}
use Rattle.office_tables_shelf.proofs.ListLemmas.{less, parts}
use Rattle.office_machine.specs.RegisterRuns.{is_among_numbers, pieces_in}
use Rattle.std.specs.FinMap as finite

-- ---- what stays over records that are accepted

-- an order under its own number
abbrev IsNumbered : RecordKey → Order → Type 0
IsNumbered key order = order.number ≡ key.1

-- an order with its key
abbrev Entry : Type 0
Entry = RecordKey × Order

-- each order stands under its own number, and no more of a part was used than was delivered
pub record IsTidy (r : Register) : Type 0 where
  pub orders : (key : RecordKey) → IfSome (get r.orders key) (IsNumbered key)
  pub stock : (code : List ℕ) → IsStocked r code

pub sound_tidy : (r : Register) → IsSoundRegister r → IsTidy r
sound_tidy r sound = record {
  orders = λ key. if_more (IsOrderAt key) (IsNumbered key) (λ order at. at.number) (get r.orders key) (sound.orders key);
  stock = sound.stock;
}

closed_tidy : (r : Register) (id n : ℕ) (closing : Closing) (there : Option Order) → get r.orders (id, n) ≡ there → close_line there closing ≡ added → IsTidy r → IsTidy (with_closed r id n closing there)
closed_tidy r id n closing None is line tidy = absurd cc
closed_tidy r id n closing (Some order) is line tidy = record {
  orders = all_put record_total record_exact IsNumbered r.orders (id, n) (with_closing order closing) tidy.orders (subst (λ (o : Option Order). IfSome o (IsNumbered (id, n))) is (tidy.orders (id, n)));
  stock = λ code. search (tidy.stock code);
}

tidy_step : (r : Register) (command : RecordCommand) → line_at r command ≡ added → IsTidy r → IsTidy (with_record r command)
tidy_step r (Inspect id inspection) line tidy = record { orders = tidy.orders; stock = λ code. search (tidy.stock code) }
tidy_step r (OpenOrder id opening) line tidy = record {
  orders = all_put record_total record_exact IsNumbered r.orders (id, opening.number) (record_of opening) tidy.orders refl;
  stock = λ code. search (tidy.stock code);
}
tidy_step r (UsePart id used) line tidy =
    let is = usable _ _ _ used line in
    record { orders = tidy.orders; stock = λ code. line_stocked r (id, (used.order, used.line)) used is.new is.enough code (tidy.stock code) }
tidy_step r (CloseOrder id order closing) line tidy = closed_tidy r id order closing (get r.orders (id, order)) refl line tidy
tidy_step r (Receive delivery) line tidy =
    let is = receivable _ _ delivery line in
    record { orders = tidy.orders; stock = λ code. delivery_stocked r (delivery.part, delivery.number) delivery is.new is.room code (tidy.stock code) }

pub accepted_tidy : (commands : List RecordCommand) (r last : Register) → AreAccepted r commands last → IsTidy r → IsTidy last
accepted_tidy [] r last same tidy = subst IsTidy (sym same) tidy
accepted_tidy (command ∷ commands) r last run tidy = accepted_tidy commands (with_record r command) last run.1 (tidy_step r command run.0 tidy)

-- records that were accepted after others
pub accepted_more : (commands more : List RecordCommand) (r mid last : Register) → AreAccepted r commands mid → AreAccepted mid more last → AreAccepted r (commands ++ more) last
accepted_more [] more r mid last same run = subst (λ (x : Register). AreAccepted x more last) same run
accepted_more (command ∷ commands) more r mid last first run = (first.0, accepted_more commands more (with_record r command) mid last first.1 run)

-- ---- open orders

-- nothing stands at a key that ties with one below all others
none_above : (q k : RecordKey) (es : List Entry) → eq_by_cmp record_cmp q k ≡ true → T (below_all record_cmp k es) → finite.find record_cmp q es ≡ None
none_above q k [] tie below = refl
none_above q k (e ∷ es) tie below =
    let hs = parts _ _ below in
    let apart : eq_by_cmp record_cmp q e.0 ≡ false = ap is_eq (record_total.congr q k e.0 (tied _ tie) ∙ less _ hs.0) in
    rw apart (none_above q k es tie hs.1)

abbrev numbers_of : List Order → List ℕ
numbers_of orders = map (λ (order : Order). order.number) (filter is_open orders)

abbrev of_id : ℕ → RecordKey → Bool
of_id id key = key.0 == id

abbrev open_of : ℕ → List (Entry) → List ℕ
open_of id es = numbers_of (map (λ e. e.1) (where_key record_cmp (of_id id) es))

open_listed : (id n : ℕ) (es : List (Entry)) → T (is_sorted record_cmp es) → AllByRecursion (λ e. IsNumbered e.0 e.1) es
    → is_among_numbers (open_of id es) n ≡ is_open_order (finite.find record_cmp (id, n) es)
open_listed id n [] sorted each = refl
open_listed id n (e ∷ es) sorted each =
    let later = open_listed id n es (parts _ _ sorted).1 each.1 in
    let ties : eq_by_cmp record_cmp (id, n) e.0 ≡ ((e.0.0 == id) && (e.1.number == n)) = record_ties id n e.0.0 e.0.1 ∙ ap (λ m. (e.0.0 == id) && (m == n)) (sym each.0) in
    rw ties (elim (cases_Bool (e.0.0 == id)) [
      | inr other ↦ rw other later
      | inl here ↦ elim (cases_Bool (e.1.number == n)) [
        | inr not ↦ elim (cases_Bool (is_open e.1)) [ inl open_now ↦ rw (here, open_now, not) later | inr closed ↦ rw (here, closed, not) later ]
        | inl same ↦
            let gone = none_above (id, n) e.0 es (rw (here, same) at ties) (parts _ _ sorted).0 in
            elim (cases_Bool (is_open e.1)) [ inl open_now ↦ rw (here, open_now, same) (sym open_now) | inr closed ↦ rw (here, closed, same) (later ∙ ap is_open_order gone ∙ sym closed) ]
      ]
    ])

-- the orders that are shown are those that records that were accepted left open
pub open_shown : (first now : Register) (so_far : List RecordCommand) → AreAccepted first so_far now → IsTidy now → (id n : ℕ) → is_among_numbers (open_at now id) n ≡ open_by id n (is_open_at first id n) so_far
open_shown first now so_far run tidy id n =
    open_listed id n (entries now.orders) (entries_sorted now.orders) (entries_stand record_total IsNumbered now.orders tidy.orders)
    ∙ ap is_open_order (sym (get-entries now.orders (id, n)))
    ∙ open_law id n so_far first now run

-- ---- stock

-- the pieces that are shown and those that were used are those that were on hand and those that were received
pub stock_shown : (first now : Register) (so_far : List RecordCommand) → AreAccepted first so_far now → IsTidy first → IsTidy now
    → (code : List ℕ) → pieces_in (stock_of now) code + spent_by code so_far ≡ pieces first code + received_by code so_far
stock_shown first now so_far run tidy still code = rw (← get-entries (stock_by_code now) code, stock_has now code)
    (omega (arith, hand_adds now code (still.stock code), delivered_law code so_far first now run, used_law code so_far first now run, (tidy.stock code).covered))
