-- A register in which nothing was recorded is sound.
use Rattle.std.proofs.Common.{◌≡◌, ℕ, List, [], ◌∷◌, length, map, Option, nat_cmp, refl, sym, ap, subst, ◌∙◌, arith}
use Rattle.std.specs.{Prelude.IfSome, Prelude.sum_by, Cmp.Lexicographic.slice_cmp}
use Rattle.std.specs.FinMap.{empty, entries, from_entries, get-empty, len-empty, len-entries}
use Rattle.cabinet_core.specs.Register.{DeliveryKey, no_register, record_cmp, line_cmp, delivery_cmp}
use Rattle.cabinet_core.specs.Sound.{IsInspectionAt, IsOrderAt, IsLineAt, IsDeliveryAt, IsSoundRegister}
use Rattle.cabinet_core.specs.Stock.{pieces_brought, pieces_taken, pieces_delivered, pieces_used, pieces, stock_of}
use Rattle.cabinet_core.specs.declared.record.{Inspection.Inspection, Order.Order, UsedLine.UsedLine, Delivery.Delivery}

no_items : {X : Type 0} (xs : List X) → length xs ≡ 0 → xs ≡ []
no_items [] e = refl
no_items (x ∷ xs) e = absurd (omega arith)

no_deliveries : entries (empty {X = Delivery} {R = delivery_cmp}) ≡ []
no_deliveries = no_items _ (sym (len-entries (empty {X = Delivery} {R = delivery_cmp})) ∙ len-empty delivery_cmp Delivery)

-- nothing is in stock
pub no_stock : stock_of no_register ≡ entries (empty {X = ℕ} {R = slice_cmp nat_cmp})
no_stock = ap (λ (es : List (DeliveryKey × Delivery)). entries (from_entries {R = slice_cmp nat_cmp} (map {B = List ℕ × ℕ} (λ e. (e.1.part, pieces no_register e.1.part)) es))) no_deliveries

none_delivered : (code : List ℕ) → pieces_delivered no_register code ≡ 0
none_delivered code = ap (λ es. sum_by (pieces_brought code) es) no_deliveries

none_used : (code : List ℕ) → pieces_used no_register code ≡ 0
none_used code = ap (λ es. sum_by (pieces_taken code) es) (no_items _ (sym (len-entries (empty {X = UsedLine} {R = line_cmp})) ∙ len-empty line_cmp UsedLine))

pub nothing_sound : IsSoundRegister no_register
nothing_sound = record {
  inspections = λ key. subst (λ (o : Option Inspection). IfSome o (IsInspectionAt key)) (sym (get-empty record_cmp key)) tt;
  orders = λ key. subst (λ (o : Option Order). IfSome o (IsOrderAt key)) (sym (get-empty record_cmp key)) tt;
  lines = λ key. subst (λ (o : Option UsedLine). IfSome o (IsLineAt no_register key)) (sym (get-empty line_cmp key)) tt;
  deliveries = λ key. subst (λ (o : Option Delivery). IfSome o (IsDeliveryAt key)) (sym (get-empty delivery_cmp key)) tt;
  stock = λ code.
      let gone : pieces_used no_register code ≡ 0 = none_used code in
      let came : pieces_delivered no_register code ≡ 0 = none_delivered code in
      record { covered = omega arith; bounded = omega arith };
}
