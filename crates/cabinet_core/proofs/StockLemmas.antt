-- The stock of a register after one more line or delivery.
use Rattle.std.proofs.Common.{◌≡◌, ℕ, ◌+◌, ◌-◌, ◌≤◌, Bool, true, false, ◌||◌, List, cond, Some, None, refl, ap, subst, ◌∙◌, arith}
use Rattle.std.proofs.lemmas.Slice.Eq.{bytes_eq-Decides}
use Rattle.std.specs.{Str.bytes_eq, FinMap.get, FinMap.insert, FinMap.entries}
use Rattle.cabinet_core.specs.{Cabinet.on_hand, declared.part.TheConstants.MOST_ON_HAND}
use Rattle.cabinet_core.specs.declared.record.{UsedLine.UsedLine, Delivery.Delivery}
use Rattle.cabinet_core.specs.Register.{Register, LineKey, DeliveryKey, line_cmp, delivery_cmp}
use Rattle.cabinet_core.specs.Stock.{IsStocked, pieces_brought, pieces_taken, pieces_delivered, pieces_used, was_delivered, pieces, hand_of}
use Rattle.cabinet_core.proofs.EntrySums.{sum_insert, any_insert, no_sum}
use Rattle.cabinet_core.proofs.KeyOrders.{line_total, delivery_total}

pub same_bytes : (a b : List ℕ) → bytes_eq a b ≡ true → a ≡ b
same_bytes a b = (bytes_eq-Decides a b).0

pub bytes_alike : (a : List ℕ) → bytes_eq a a ≡ true
bytes_alike a = (bytes_eq-Decides a a).1 refl

-- of a part that was never delivered nothing came
pub never_came : (r : Register) (code : List ℕ) → was_delivered r code ≡ false → pieces_delivered r code ≡ 0
never_came r code = no_sum (λ (e : DeliveryKey × Delivery). bytes_eq e.1.part code) (λ (e : DeliveryKey × Delivery). e.1.count) (entries r.deliveries)

-- ---- one more line

module _ (r : Register) (key : LineKey) (line : UsedLine) (new : get r.lines key ≡ None) where
  abbrev pub with_line : Register
  with_line = record r { lines = insert r.lines key line }

  pub used_after : (code : List ℕ) → pieces_used with_line code ≡ pieces_used r code + cond (bytes_eq line.part code) line.count 0
  used_after code = sum_insert line_cmp line_total r.lines key line new (pieces_taken code)

  -- the line leaves the other parts as they were
  pub line_elsewhere : (code : List ℕ) → bytes_eq line.part code ≡ false → hand_of with_line code ≡ hand_of r code
  line_elsewhere code other =
      let after : pieces_used with_line code ≡ pieces_used r code + 0 = used_after code ∙ ap (λ b. pieces_used r code + cond b line.count 0) other in
      let same : pieces with_line code ≡ pieces r code = omega arith in
      ap (λ n. cond (was_delivered r code) (Some n) None) same

  used_here : pieces_used with_line line.part ≡ pieces_used r line.part + line.count
  used_here = used_after line.part ∙ ap (λ b. pieces_used r line.part + cond b line.count 0) (bytes_alike line.part)

  -- and takes its pieces of its own, of which that many must be on hand
  pub line_here : 1 ≤ line.count → line.count ≤ on_hand (hand_of r line.part) → hand_of with_line line.part ≡ Some (on_hand (hand_of r line.part) - line.count)
  line_here some enough =
      elim (was_delivered r line.part) as (λ b. line.count ≤ on_hand (cond b (Some (pieces r line.part)) None) → cond b (Some (pieces with_line line.part)) None ≡ Some (on_hand (cond b (Some (pieces r line.part)) None) - line.count)) [
        | true ↦ λ h. let after = used_here in let same : pieces with_line line.part ≡ pieces r line.part - line.count = omega arith in ap Some same
        | false ↦ λ h. absurd (omega arith)
      ] enough

  taken_within : (code : List ℕ) (b : Bool) → bytes_eq line.part code ≡ b → line.count ≤ on_hand (hand_of r line.part) → IsStocked r code → pieces_used r code + cond b line.count 0 ≤ pieces_delivered r code
  taken_within code true here enough stocked =
      let code_is : line.part ≡ code = same_bytes line.part code here in
      let there : line.count ≤ on_hand (hand_of r code) = subst (λ c. line.count ≤ on_hand (hand_of r c)) code_is enough in
      elim (was_delivered r code) as (λ d. line.count ≤ on_hand (cond d (Some (pieces r code)) None) → pieces_used r code + line.count ≤ pieces_delivered r code) [
        | true ↦ λ h. let covered = stocked.covered in omega arith
        | false ↦ λ h. let covered = stocked.covered in omega arith
      ] there
  taken_within code false here enough stocked = let covered = stocked.covered in omega arith

  pub line_stocked : line.count ≤ on_hand (hand_of r line.part) → (code : List ℕ) → IsStocked r code → IsStocked with_line code
  line_stocked enough code stocked =
      let after = used_after code in
      let within = taken_within code (bytes_eq line.part code) refl enough stocked in
      let bounded = stocked.bounded in
      record { covered = omega arith; bounded = omega arith }

-- what is on hand, and what of it was used, is what came
pub hand_adds : (r : Register) (code : List ℕ) → IsStocked r code → on_hand (hand_of r code) + pieces_used r code ≡ pieces_delivered r code
hand_adds r code stocked =
    let covered = stocked.covered in
    elim (was_delivered r code) as (λ b. was_delivered r code ≡ b → on_hand (cond b (Some (pieces r code)) None) + pieces_used r code ≡ pieces_delivered r code) [
      | true ↦ λ is. omega arith
      | false ↦ λ is. let none = never_came r code is in omega arith
    ] refl

-- ---- one more delivery

module _ (r : Register) (key : DeliveryKey) (delivery : Delivery) (new : get r.deliveries key ≡ None) where
  abbrev pub with_delivery : Register
  with_delivery = record r { deliveries = insert r.deliveries key delivery }

  pub delivered_after : (code : List ℕ) → pieces_delivered with_delivery code ≡ pieces_delivered r code + cond (bytes_eq delivery.part code) delivery.count 0
  delivered_after code = sum_insert delivery_cmp delivery_total r.deliveries key delivery new (pieces_brought code)

  pub was_delivered_after : (code : List ℕ) → was_delivered with_delivery code ≡ (bytes_eq delivery.part code || was_delivered r code)
  was_delivered_after code = any_insert delivery_cmp delivery_total r.deliveries key delivery new (λ (e : DeliveryKey × Delivery). bytes_eq e.1.part code)

  -- the delivery leaves the other parts as they were
  pub delivery_elsewhere : (code : List ℕ) → bytes_eq delivery.part code ≡ false → hand_of with_delivery code ≡ hand_of r code
  delivery_elsewhere code other =
      let after : pieces_delivered with_delivery code ≡ pieces_delivered r code + 0 = delivered_after code ∙ ap (λ b. pieces_delivered r code + cond b delivery.count 0) other in
      let same : pieces with_delivery code ≡ pieces r code = omega arith in
      let known : was_delivered with_delivery code ≡ was_delivered r code = was_delivered_after code ∙ ap (λ b. b || was_delivered r code) other in
      λ i. cond (known i) (Some (same i)) None

  delivered_here : pieces_delivered with_delivery delivery.part ≡ pieces_delivered r delivery.part + delivery.count
  delivered_here = delivered_after delivery.part ∙ ap (λ b. pieces_delivered r delivery.part + cond b delivery.count 0) (bytes_alike delivery.part)

  -- and brings its pieces to its own
  pub delivery_here : IsStocked r delivery.part → hand_of with_delivery delivery.part ≡ Some (on_hand (hand_of r delivery.part) + delivery.count)
  delivery_here stocked =
      let known : was_delivered with_delivery delivery.part ≡ true = was_delivered_after delivery.part ∙ ap (λ b. b || was_delivered r delivery.part) (bytes_alike delivery.part) in
      let adds = hand_adds r delivery.part stocked in
      let after = delivered_here in
      let same : pieces with_delivery delivery.part ≡ on_hand (hand_of r delivery.part) + delivery.count = omega arith in
      λ i. cond (known i) (Some (same i)) None

  brought_within : (code : List ℕ) (b : Bool) → bytes_eq delivery.part code ≡ b → on_hand (hand_of r delivery.part) + delivery.count ≤ MOST_ON_HAND → IsStocked r code
      → pieces_delivered r code + cond b delivery.count 0 ≤ pieces_used r code + MOST_ON_HAND
  brought_within code true here room stocked =
      let code_is : delivery.part ≡ code = same_bytes delivery.part code here in
      let there : on_hand (hand_of r code) + delivery.count ≤ MOST_ON_HAND = subst (λ c. on_hand (hand_of r c) + delivery.count ≤ MOST_ON_HAND) code_is room in
      let adds = hand_adds r code stocked in
      omega arith
  brought_within code false here room stocked = let bounded = stocked.bounded in omega arith

  pub delivery_stocked : on_hand (hand_of r delivery.part) + delivery.count ≤ MOST_ON_HAND → (code : List ℕ) → IsStocked r code → IsStocked with_delivery code
  delivery_stocked room code stocked =
      let after = delivered_after code in
      let within = brought_within code (bytes_eq delivery.part code) refl room stocked in
      let covered = stocked.covered in
      record { covered = omega arith; bounded = omega arith }
