-- A command that was accepted is the same when it comes again, and stays so whatever is accepted after it.
use Rattle.std.proofs.Common.{◌≡◌, ℕ, Bool, true, false, ◌==◌, cond, Option, None, Some, Ordering, refl, sym, ap, ◌∙◌, arith}
use Rattle.std.proofs.lemmas.Bool.Decides.{nat_tests}
use Rattle.std.specs.{Prelude.nat_lt, Prelude.is_some, Cmp.IsTotalOrder, Cmp.tied_itself, FinMap.FinMap, FinMap.IsAntisymmetric, FinMap.get, FinMap.insert, Ordering.is_eq, Ordering.eq_by_cmp}
use Rattle.cabinet_core.specs.Cabinet.{Line, added, same, refused, on_hand, is_same_inspection, is_same_closing, is_same_line, is_same_delivery, is_opened_so, inspect_line, open_line, use_line, close_order_line, close_line, receive_line, record_of, with_closing}
use Rattle.cabinet_core.specs.declared.{command.RecordCommand.RecordCommand, record.Closing.Closing}
use Rattle.cabinet_core.specs.declared.command.RecordCommand.TheVariants.{Inspect, OpenOrder, UsePart, CloseOrder, Receive}
use Rattle.cabinet_core.specs.declared.record.{Delivery.Delivery, Inspection.Inspection, Opening.Opening, Order.Order, UsedLine.UsedLine}
use Rattle.cabinet_core.specs.{declared.refusal.CabinetRefusal.CabinetRefusal, Stock.hand_of}
use Rattle.cabinet_core.specs.declared.refusal.CabinetRefusal.TheVariants.{InspectionDiffers, OrderDiffers, UnknownOrder, OrderClosed, DayBeforeOpening, NoStock, StockFull, DeliveryDiffers, LineDiffers, CloseDiffers}
use Rattle.cabinet_core.specs.Register.{Register, RecordKey, LineKey, DeliveryKey, record_cmp, line_cmp, delivery_cmp}
use Rattle.cabinet_core.specs.Step.{line_at, with_closed, with_record}
use Rattle.cabinet_core.proofs.{EntryLemmas.tied, Puts.get_put, Sound.held_adds}
use Rattle.cabinet_core.proofs.KeyOrders.{record_total, record_exact, line_total, line_exact, delivery_total, delivery_exact}
use Rattle.cabinet_core.proofs.StockLemmas.{bytes_alike}

-- ---- a record that is equal to itself

alike : (n : ℕ) → (n == n) ≡ true
alike n = grind (arith, nat_tests)

line_same : (b : Bool) (why : CabinetRefusal) → b ≡ true → cond b same (refused why) ≡ same
line_same b why is = ap (λ t. cond t same (refused why)) is

-- ---- lines

-- without the record a line is added or refused, never the same
refused_same : (why : CabinetRefusal) → refused why ≡ same → ⊥
refused_same why is = cc

added_same : added ≡ same → ⊥
added_same is = cc

tested_same : (b : Bool) (why : CabinetRefusal) → cond b (refused why) added ≡ same → ⊥
tested_same true why is = cc
tested_same false why is = cc

no_line_same : (order : Option Order) (hand : Option ℕ) (asked : UsedLine) → use_line None order hand asked ≡ same → ⊥
no_line_same None hand asked is = refused_same UnknownOrder is
no_line_same (Some order) hand asked is = go (is_some order.closing) is
  where
    go : (b : Bool) → cond b (refused OrderClosed) (cond (nat_lt (on_hand hand) asked.count) (refused NoStock) added) ≡ same → ⊥
    go true e = refused_same OrderClosed e
    go false e = tested_same (nat_lt (on_hand hand) asked.count) NoStock e

no_delivery_same : (hand : Option ℕ) (asked : Delivery) → receive_line None hand asked ≡ same → ⊥
no_delivery_same hand asked is = tested_same _ StockFull is

-- a line that is the same is so whatever else there is
line_stays : (there : Option UsedLine) (order later : Option Order) (hand left : Option ℕ) (asked : UsedLine) → use_line there order hand asked ≡ same → use_line there later left asked ≡ same
line_stays None order later hand left asked is = absurd (no_line_same order hand asked is)
line_stays (Some there) order later hand left asked is = is

delivery_stays : (there : Option Delivery) (hand left : Option ℕ) (asked : Delivery) → receive_line there hand asked ≡ same → receive_line there left asked ≡ same
delivery_stays None hand left asked is = absurd (no_delivery_same hand asked is)
delivery_stays (Some there) hand left asked is = is

-- an order is not both to be closed and closed
closed_once : (order : Order) (before : Option Closing) (first second : Closing) → close_order_line order before first ≡ added → close_order_line order before second ≡ same → ⊥
closed_once order None first second adds is = tested_same _ DayBeforeOpening is
closed_once order (Some earlier) first second adds is = held_adds _ CloseDiffers adds

-- ---- a record that is put

module _ {X : Type 0} where
  -- where a line adds, nothing is there, if it never adds to what is
  nothing_there : (line : Option X → Line) → ((x : X) → line (Some x) ≡ added → ⊥) → (there : Option X) → line there ≡ added → there ≡ None
  nothing_there line held None adds = refl
  nothing_there line held (Some x) adds = absurd (held x adds)

module _ {K X : Type 0} {R : K → K → Ordering} (total : IsTotalOrder R) (exact : IsAntisymmetric R) where
  -- a record that is put stands under its key
  put_stands : (records : FinMap R X) (k : K) (x : X) → get (insert records k x) k ≡ Some x
  put_stands records k x = get_put total exact records k x k ∙ ap (λ o. cond (is_eq o) (Some x) (get records k)) (tied_itself total k)

  -- what a line says of the record under a key it says once another is put, if it does so where the keys are one
  put_keeps : (line : Option X → Line) (records : FinMap R X) (k q : K) (x : X) → line (get records q) ≡ same → (line (get records k) ≡ same → line (Some x) ≡ same) → line (get (insert records k x) q) ≡ same
  put_keeps line records k q x is one =
      ap line (get_put total exact records k x q)
      ∙ elim (eq_by_cmp R q k) as (λ b. eq_by_cmp R q k ≡ b → line (cond b (Some x) (get records q)) ≡ same) [
        | true ↦ λ hit. one (sym (ap (λ key. line (get records key)) (exact q k (tied _ hit))) ∙ is)
        | false ↦ λ miss. is
      ] refl

  -- a record with a new key leaves what a line says
  new_keeps : (line : Option X → Line) (records : FinMap R X) (k q : K) (x : X) → (line None ≡ same → ⊥) → get records k ≡ None → line (get records q) ≡ same → line (get (insert records k x) q) ≡ same
  new_keeps line records k q x none new is = put_keeps line records k q x is (λ there. absurd (none (sym (ap line new) ∙ there)))

-- ---- orders that are closed

-- closing an order leaves all but the orders
pub closed_leaves : {A : Type 0} (part : Register → A) (r : Register) → ((orders : FinMap record_cmp Order) → part (record r { orders = orders }) ≡ part r)
    → (id order : ℕ) (closing : Closing) (there : Option Order) → part (with_closed r id order closing there) ≡ part r
closed_leaves part r still id order closing None = refl
closed_leaves part r still id order closing (Some found) = still (insert r.orders (id, order) (with_closing found closing))

-- what a line says of an order it says once one is closed, if it does so of the one
closed_keeps : (line : Option Order → Line) (r : Register) (id order : ℕ) (closing : Closing) (q : RecordKey) (there : Option Order) → get r.orders (id, order) ≡ there → line (get r.orders q) ≡ same
    → ((found : Order) → there ≡ Some found → line (Some found) ≡ same → line (Some (with_closing found closing)) ≡ same)
    → line (get (with_closed r id order closing there).orders q) ≡ same
closed_keeps line r id order closing q None is said one = said
closed_keeps line r id order closing q (Some found) is said one =
    put_keeps record_total record_exact line r.orders (id, order) q (with_closing found closing) said (λ there. one found refl (sym (ap line is) ∙ there))

closed_again : (id order : ℕ) (closing : Closing) (r : Register) (there : Option Order) → close_line there closing ≡ added → close_line (get (with_closed r id order closing there).orders (id, order)) closing ≡ same
closed_again id order closing r None adds = absurd (let f : refused UnknownOrder ≡ added = adds in cc)
closed_again id order closing r (Some found) adds =
    ap (λ o. close_line o closing) (put_stands record_total record_exact r.orders (id, order) (with_closing found closing))
    ∙ line_same (is_same_closing closing closing) CloseDiffers (rw (alike closing.day, bytes_alike closing.closer) refl)

-- ---- commands

-- a command that was accepted is the same when it comes again
pub same_after : (r : Register) (c : RecordCommand) → line_at r c ≡ added → line_at (with_record r c) c ≡ same
same_after r (Inspect id inspection) adds =
    ap (λ o. inspect_line o inspection) (put_stands record_total record_exact r.inspections (id, inspection.number) inspection)
    ∙ line_same (is_same_inspection inspection inspection) InspectionDiffers (rw (alike inspection.number, alike inspection.day, bytes_alike inspection.clerk, bytes_alike inspection.text) refl)
same_after r (OpenOrder id opening) adds =
    ap (λ o. open_line o opening) (put_stands record_total record_exact r.orders (id, opening.number) (record_of opening))
    ∙ line_same (is_opened_so (record_of opening) opening) OrderDiffers (rw (alike opening.number, alike opening.day, bytes_alike opening.clerk, bytes_alike opening.text) refl)
same_after r (UsePart id line) adds =
    let next = with_record r (UsePart id line) in
    ap (λ o. use_line o (get r.orders (id, line.order)) (hand_of next line.part) line) (put_stands line_total line_exact r.lines (id, (line.order, line.line)) line)
    ∙ line_same (is_same_line line line) LineDiffers (rw (alike line.order, alike line.line, bytes_alike line.part, alike line.count) refl)
same_after r (CloseOrder id order closing) adds = closed_again id order closing r (get r.orders (id, order)) adds
same_after r (Receive delivery) adds =
    let next = with_record r (Receive delivery) in
    ap (λ o. receive_line o (hand_of next delivery.part) delivery) (put_stands delivery_total delivery_exact r.deliveries (delivery.part, delivery.number) delivery)
    ∙ line_same (is_same_delivery delivery delivery) DeliveryDiffers (rw (bytes_alike delivery.part, alike delivery.number, alike delivery.day, alike delivery.count) refl)

-- ---- commands that were the same, after another that was accepted

inspect_kept : (r : Register) (id : ℕ) (asked : Inspection) (d : RecordCommand) → line_at r d ≡ added → line_at r (Inspect id asked) ≡ same → line_at (with_record r d) (Inspect id asked) ≡ same
inspect_kept r id asked (Inspect other new) adds is =
    new_keeps record_total record_exact (λ o. inspect_line o asked) r.inspections (other, new.number) (id, asked.number) new added_same
    (nothing_there (λ o. inspect_line o new) (λ x. held_adds (is_same_inspection x new) InspectionDiffers) _ adds) is
inspect_kept r id asked (CloseOrder other order closing) adds is =
    ap (λ (records : FinMap record_cmp Inspection). inspect_line (get records (id, asked.number)) asked) (closed_leaves (λ x. x.inspections) r (λ _. refl) other order closing (get r.orders (other, order))) ∙ is
inspect_kept r id asked _ adds is = is

open_kept : (r : Register) (id : ℕ) (asked : Opening) (d : RecordCommand) → line_at r d ≡ added → line_at r (OpenOrder id asked) ≡ same → line_at (with_record r d) (OpenOrder id asked) ≡ same
open_kept r id asked (OpenOrder other new) adds is =
    new_keeps record_total record_exact (λ o. open_line o asked) r.orders (other, new.number) (id, asked.number) (record_of new) added_same
    (nothing_there (λ o. open_line o new) (λ x. held_adds (is_opened_so x new) OrderDiffers) _ adds) is
open_kept r id asked (CloseOrder other order closing) adds is =
    closed_keeps (λ o. open_line o asked) r other order closing (id, asked.number) (get r.orders (other, order)) refl is (λ found there said. said)
open_kept r id asked _ adds is = is

use_kept : (r : Register) (id : ℕ) (asked : UsedLine) (d : RecordCommand) → line_at r d ≡ added → line_at r (UsePart id asked) ≡ same → line_at (with_record r d) (UsePart id asked) ≡ same
use_kept r id asked (UsePart other new) adds is =
    let k : LineKey = (id, (asked.order, asked.line)) in
    let order = get r.orders (id, asked.order) in
    line_stays (get (with_record r (UsePart other new)).lines k) order order (hand_of r asked.part) (hand_of (with_record r (UsePart other new)) asked.part) asked
    (new_keeps line_total line_exact (λ o. use_line o order (hand_of r asked.part) asked) r.lines (other, (new.order, new.line)) k new (no_line_same order (hand_of r asked.part) asked)
    (nothing_there (λ o. use_line o (get r.orders (other, new.order)) (hand_of r new.part) new) (λ x. held_adds (is_same_line x new) LineDiffers) _ adds) is)
use_kept r id asked (CloseOrder other order closing) adds is =
    let next = with_record r (CloseOrder other order closing) in
    ap (λ (records : FinMap line_cmp UsedLine). use_line (get records (id, (asked.order, asked.line))) (get next.orders (id, asked.order)) (hand_of next asked.part) asked)
    (closed_leaves (λ x. x.lines) r (λ _. refl) other order closing (get r.orders (other, order)))
    ∙ line_stays (get r.lines (id, (asked.order, asked.line))) _ (get next.orders (id, asked.order)) _ (hand_of next asked.part) asked is
use_kept r id asked (Inspect other new) adds is = is
use_kept r id asked (OpenOrder other new) adds is = line_stays (get r.lines (id, (asked.order, asked.line))) _ _ _ _ asked is
use_kept r id asked (Receive new) adds is = line_stays (get r.lines (id, (asked.order, asked.line))) _ _ _ _ asked is

close_kept : (r : Register) (id order : ℕ) (asked : Closing) (d : RecordCommand) → line_at r d ≡ added → line_at r (CloseOrder id order asked) ≡ same → line_at (with_record r d) (CloseOrder id order asked) ≡ same
close_kept r id order asked (OpenOrder other new) adds is =
    new_keeps record_total record_exact (λ o. close_line o asked) r.orders (other, new.number) (id, order) (record_of new) (refused_same UnknownOrder)
    (nothing_there (λ o. open_line o new) (λ x. held_adds (is_opened_so x new) OrderDiffers) _ adds) is
close_kept r id order asked (CloseOrder other number closing) adds is =
    let there = get r.orders (other, number) in
    closed_keeps (λ o. close_line o asked) r other number closing (id, order) there refl is
    (λ found this said. absurd (closed_once found found.closing closing asked (sym (ap (λ o. close_line o closing) this) ∙ adds) said))
close_kept r id order asked _ adds is = is

receive_kept : (r : Register) (asked : Delivery) (d : RecordCommand) → line_at r d ≡ added → line_at r (Receive asked) ≡ same → line_at (with_record r d) (Receive asked) ≡ same
receive_kept r asked (Receive new) adds is =
    let k : DeliveryKey = (asked.part, asked.number) in
    delivery_stays (get (with_record r (Receive new)).deliveries k) (hand_of r asked.part) (hand_of (with_record r (Receive new)) asked.part) asked
    (new_keeps delivery_total delivery_exact (λ o. receive_line o (hand_of r asked.part) asked) r.deliveries (new.part, new.number) k new (no_delivery_same (hand_of r asked.part) asked)
    (nothing_there (λ o. receive_line o (hand_of r new.part) new) (λ x. held_adds (is_same_delivery x new) DeliveryDiffers) _ adds) is)
receive_kept r asked (CloseOrder other order closing) adds is =
    let next = with_record r (CloseOrder other order closing) in
    ap (λ (records : FinMap delivery_cmp Delivery). receive_line (get records (asked.part, asked.number)) (hand_of next asked.part) asked)
    (closed_leaves (λ x. x.deliveries) r (λ _. refl) other order closing (get r.orders (other, order)))
    ∙ delivery_stays (get r.deliveries (asked.part, asked.number)) _ (hand_of next asked.part) asked is
receive_kept r asked (UsePart other new) adds is = delivery_stays (get r.deliveries (asked.part, asked.number)) _ _ asked is
receive_kept r asked _ adds is = is

-- a command that is the same is so after any other that is accepted
pub same_kept : (r : Register) (c d : RecordCommand) → line_at r d ≡ added → line_at r c ≡ same → line_at (with_record r d) c ≡ same
same_kept r (Inspect id inspection) d adds is = inspect_kept r id inspection d adds is
same_kept r (OpenOrder id opening) d adds is = open_kept r id opening d adds is
same_kept r (UsePart id line) d adds is = use_kept r id line d adds is
same_kept r (CloseOrder id order closing) d adds is = close_kept r id order closing d adds is
same_kept r (Receive delivery) d adds is = receive_kept r delivery d adds is
