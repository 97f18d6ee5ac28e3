-- A register stays sound with what a command adds.
use Rattle.std.proofs.Common.{◌≡◌, ◌≤◌, ◌+◌, ℕ, Bool, true, false, cond, Option, None, Some, refl, arith}
use Rattle.std.proofs.lemmas.Bool.Decides.{nat_tests}
use Rattle.std.specs.{Prelude.IfSome, Prelude.IsSome, Prelude.nat_lt, Prelude.is_some, FinMap.get, FinMap.insert, Int.IsInRange}
use Rattle.cabinet_core.specs.Cabinet.{added, same, refused, on_hand, is_same_closing, is_same_line, is_same_delivery, use_line, close_order_line, close_line, receive_line, with_closing}
use Rattle.cabinet_core.specs.Register.{Register, RecordKey, LineKey}
use Rattle.cabinet_core.specs.Sound.{IsInspectionAt, IsOrderAt, IsLineAt, IsDeliveryAt, IsSoundRegister}
use Rattle.cabinet_core.specs.{Step.with_record, Stock.hand_of, declared.record.Closing.Closing}
use Rattle.cabinet_core.specs.Within.{IsInspectionWithin, IsClosingWithin, IsUsedLineWithin, IsDeliveryWithin}
use Rattle.cabinet_core.specs.declared.command.RecordCommand.TheVariants.{Inspect, UsePart, Receive}
use Rattle.cabinet_core.specs.declared.{part.TheConstants.MOST_ON_HAND, record.Delivery.Delivery}
use Rattle.cabinet_core.specs.declared.record.{Inspection.Inspection, Order.Order}
use Rattle.cabinet_core.specs.declared.record.UsedLine.{UsedLine}
use Rattle.cabinet_core.specs.declared.refusal.CabinetRefusal.{CabinetRefusal}
use Rattle.cabinet_core.specs.declared.refusal.CabinetRefusal.TheVariants.{OrderClosed, DayBeforeOpening, NoStock, StockFull, DeliveryDiffers, LineDiffers, CloseDiffers}
use Rattle.cabinet_core.proofs.KeyOrders.{record_total, record_exact, line_total, line_exact, delivery_total, delivery_exact}
use Rattle.cabinet_core.proofs.{Puts.all_put, Puts.there_put, Puts.if_more, StockLemmas.line_stocked, StockLemmas.delivery_stocked}

-- ---- lines that add

not_less : (a b : ℕ) → nat_lt a b ≡ false → b ≤ a
not_less a b h = grind (arith, nat_tests)

-- what is there is the same or refused, never added
pub held_adds : (b : Bool) (why : CabinetRefusal) → cond b same (refused why) ≡ added → ⊥
held_adds true why is = cc
held_adds false why is = cc

-- a test that refuses did not hold
no_refusal : (b : Bool) (why : CabinetRefusal) → cond b (refused why) added ≡ added → b ≡ false
no_refusal true why is = absurd cc
no_refusal false why is = refl

second_refusal : (b c : Bool) (why other : CabinetRefusal) → cond b (refused why) (cond c (refused other) added) ≡ added → c ≡ false
second_refusal true c why other is = absurd cc
second_refusal false c why other is = no_refusal c other is

-- ---- inspections and orders

pub inspection_sound : (r : Register) (id : ℕ) (inspection : Inspection) → IsSoundRegister r
    → IsInRange 1 9999 id → IsInspectionWithin inspection
    → IsSoundRegister (with_record r (Inspect id inspection))
inspection_sound r id inspection sound of within = record {
  inspections = all_put record_total record_exact IsInspectionAt r.inspections
      (id, inspection.number) inspection sound.inspections
      (record { of = of; number = refl; within = within });
  orders = sound.orders;
  lines = λ key. if_more (IsLineAt r key) (IsLineAt (with_record r (Inspect id inspection)) key) (λ line at. record { of = at.of; number = at.number; within = at.within; order = at.order }) (get r.lines key) (sound.lines key);
  deliveries = sound.deliveries;
  stock = λ code. record { covered = (sound.stock code).covered; bounded = (sound.stock code).bounded };
}

pub order_sound : (r : Register) (key : RecordKey) (order : Order) → IsSoundRegister r → IsOrderAt key order → IsSoundRegister (record r { orders = insert r.orders key order })
order_sound r key order sound here = record {
  inspections = sound.inspections;
  orders = all_put record_total record_exact IsOrderAt r.orders key order sound.orders here;
  lines = λ k. if_more (IsLineAt r k) (IsLineAt (record r { orders = insert r.orders key order }) k)
      (λ line at. record { of = at.of; number = at.number; within = at.within; order = there_put record_total record_exact r.orders key order (k.0, k.1.0) at.order }) (get r.lines k) (sound.lines k);
  deliveries = sound.deliveries;
  stock = λ code. record { covered = (sound.stock code).covered; bounded = (sound.stock code).bounded };
}

-- what is closed was open, and opened no later
closed_late : (order : Order) (before : Option Closing) (closing : Closing) → close_order_line order before closing ≡ added → order.opened ≤ closing.day
closed_late order None closing adds = not_less closing.day order.opened (no_refusal (nat_lt closing.day order.opened) DayBeforeOpening adds)
closed_late order (Some earlier) closing adds = absurd (held_adds (is_same_closing earlier closing) CloseDiffers adds)

-- an order that is closed is still the one of its number
pub closed_order : (key : RecordKey) (order : Order) (closing : Closing) → IsOrderAt key order → IsClosingWithin closing → close_line (Some order) closing ≡ added → IsOrderAt key (with_closing order closing)
closed_order key order closing at within adds = record {
  number = at.number;
  within = record { number = at.within.number; opened = at.within.opened; clerk = at.within.clerk; text = at.within.text; closing = within };
  closed_after = closed_late order order.closing closing adds;
}

-- ---- parts used

-- what holds where a part may be used
pub record IsUsable (there : Option UsedLine) (order : Option Order) (hand : Option ℕ) (asked : UsedLine) : Type 0 where
  pub new : there ≡ None
  pub ordered : IsSome order
  pub enough : asked.count ≤ on_hand hand

pub usable : (there : Option UsedLine) (order : Option Order) (hand : Option ℕ) (asked : UsedLine) → use_line there order hand asked ≡ added → IsUsable there order hand asked
usable (Some there) order hand asked is = absurd (held_adds (is_same_line there asked) LineDiffers is)
usable None None hand asked is = absurd cc
usable None (Some order) hand asked is = record {
  new = refl;
  ordered = refl;
  enough = not_less (on_hand hand) asked.count (second_refusal (is_some order.closing) (nat_lt (on_hand hand) asked.count) OrderClosed NoStock is);
}

pub line_sound : (r : Register) (id : ℕ) (asked : UsedLine) → IsSoundRegister r → IsUsedLineWithin asked
    → IsUsable (get r.lines (id, (asked.order, asked.line))) (get r.orders (id, asked.order)) (hand_of r asked.part) asked → IsSoundRegister (with_record r (UsePart id asked))
line_sound r id asked sound within is =
    let next = with_record r (UsePart id asked) in
    let still : (key : LineKey) → IfSome (get r.lines key) (IsLineAt next key) =
    λ key. if_more (IsLineAt r key) (IsLineAt next key) (λ line at. record { of = at.of; number = at.number; within = at.within; order = at.order }) (get r.lines key) (sound.lines key) in
    record {
      inspections = sound.inspections;
      orders = sound.orders;
      lines = all_put line_total line_exact (IsLineAt next) r.lines (id, (asked.order, asked.line)) asked still (record { of = refl; number = refl; within = within; order = is.ordered });
      deliveries = sound.deliveries;
      stock = λ code. line_stocked r (id, (asked.order, asked.line)) asked is.new is.enough code (sound.stock code);
    }

-- ---- deliveries

-- what holds where a delivery may be received
pub record IsReceivable (there : Option Delivery) (hand : Option ℕ) (asked : Delivery) : Type 0 where
  pub new : there ≡ None
  pub room : on_hand hand + asked.count ≤ MOST_ON_HAND

pub receivable : (there : Option Delivery) (hand : Option ℕ) (asked : Delivery) → receive_line there hand asked ≡ added → IsReceivable there hand asked
receivable (Some there) hand asked is = absurd (held_adds (is_same_delivery there asked) DeliveryDiffers is)
receivable None hand asked is = record {
  new = refl;
  room = not_less MOST_ON_HAND (on_hand hand + asked.count) (no_refusal (nat_lt MOST_ON_HAND (on_hand hand + asked.count)) StockFull is);
}

pub delivery_sound : (r : Register) (asked : Delivery) → IsSoundRegister r → IsDeliveryWithin asked
    → IsReceivable (get r.deliveries (asked.part, asked.number)) (hand_of r asked.part) asked → IsSoundRegister (with_record r (Receive asked))
delivery_sound r asked sound within is =
    let next = with_record r (Receive asked) in
    record {
      inspections = sound.inspections;
      orders = sound.orders;
      lines = λ key. if_more (IsLineAt r key) (IsLineAt next key) (λ line at. record { of = at.of; number = at.number; within = at.within; order = at.order }) (get r.lines key) (sound.lines key);
      deliveries = all_put delivery_total delivery_exact IsDeliveryAt r.deliveries (asked.part, asked.number) asked sound.deliveries (record { part = refl; number = refl; within = within });
      stock = λ code. delivery_stocked r (asked.part, asked.number) asked is.new is.room code (sound.stock code);
    }
