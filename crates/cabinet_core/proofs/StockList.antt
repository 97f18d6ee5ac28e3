-- The stock of a register by the codes of the parts.
use Rattle.std.proofs.Common.{◌≡◌, ◌⊎◌, inl, inr, ℕ, Bool, true, false, ◌||◌, List, [], ◌∷◌, map, cond, Some, None, nat_cmp, refl, sym, ap, subst, ◌∙◌}
use Rattle.std.proofs.lemmas.{Bool.cases_Bool, Cmp.nat_list_cmp_total, Slice.Eq.bytes_eq-Decides}
use Rattle.std.specs.{Cmp.Lexicographic.slice_cmp, List.list_any, Str.bytes_eq, FinMap.get, FinMap.entries, FinMap.get-from_entries}
use Rattle.std.specs.FinMap as finite
use Rattle.cabinet_core.specs.{Part.IsPartCode, Register.Register, Register.DeliveryKey, Sound.IsDeliveryAt, Sound.IsSoundRegister, Stock.was_delivered, Stock.pieces, Stock.hand_of, Stock.stock_by_code, declared.record.Delivery.Delivery}
use Rattle.cabinet_core.proofs.{EntryLemmas.entries_stand, EntryLemmas.one_passes, KeyOrders.delivery_total, KeyOrders.codes_tie}
use Rattle.cabinet_core.proofs.StockLemmas.{same_bytes}

-- ---- what the stock has under a code

-- one delivery more, of that part or of another
one_part : (number : List ℕ → ℕ) (part code : List ℕ) (more : Bool) → (bytes_eq part code ≡ true) ⊎ (bytes_eq part code ≡ false)
    → cond (bytes_eq part code) (Some (number part)) (cond more (Some (number code)) None) ≡ cond (bytes_eq part code || more) (Some (number code)) None
one_part number part code more (inl hit) =
    ap (λ b. cond b (Some (number part)) (cond more (Some (number code)) None)) hit ∙ ap (λ c. Some (number c)) (same_bytes part code hit)
    ∙ sym (ap (λ b. cond (b || more) (Some (number code)) None) hit)
one_part number part code more (inr miss) =
    ap (λ b. cond b (Some (number part)) (cond more (Some (number code)) None)) miss ∙ sym (ap (λ b. cond (b || more) (Some (number code)) None) miss)

-- of the parts of deliveries, each with a number that its code tells
find_part : (number : List ℕ → ℕ) (es : List (DeliveryKey × Delivery)) (code : List ℕ)
    → finite.find (slice_cmp nat_cmp) code (map {B = List ℕ × ℕ} (λ (e : DeliveryKey × Delivery). (e.1.part, number e.1.part)) es) ≡ cond (list_any (λ (e : DeliveryKey × Delivery). bytes_eq e.1.part code) es) (Some (number code)) None
find_part number [] code = refl
find_part number (e ∷ es) code =
    ap (λ b. cond b (Some (number e.1.part)) (finite.find (slice_cmp nat_cmp) code (map {B = List ℕ × ℕ} (λ (d : DeliveryKey × Delivery). (d.1.part, number d.1.part)) es))) (codes_tie code e.1.part)
    ∙ ap (cond (bytes_eq e.1.part code) (Some (number e.1.part))) (find_part number es code)
    ∙ one_part number e.1.part code (list_any (λ (d : DeliveryKey × Delivery). bytes_eq d.1.part code) es) (cases_Bool (bytes_eq e.1.part code))

pub stock_has : (r : Register) (code : List ℕ) → get (stock_by_code r) code ≡ hand_of r code
stock_has r code =
    get-from_entries nat_list_cmp_total (map {B = List ℕ × ℕ} (λ (e : DeliveryKey × Delivery). (e.1.part, pieces r e.1.part)) (entries r.deliveries)) code
    ∙ find_part (pieces r) (entries r.deliveries) code

-- ---- parts that were delivered

-- only of a part that was delivered is there something on hand
hand_of_delivered : (r : Register) (code : List ℕ) (n : ℕ) → hand_of r code ≡ Some n → was_delivered r code ≡ true
hand_of_delivered r code n = go (was_delivered r code)
  where
    go : (b : Bool) → cond b (Some (pieces r code)) None ≡ Some n → b ≡ true
    go true is = refl
    go false is = absurd cc

-- and such a part has a code
pub code_on_hand : (r : Register) (code : List ℕ) (n : ℕ) → IsSoundRegister r → hand_of r code ≡ Some n → IsPartCode code
code_on_hand r code n sound on =
    let stand = entries_stand delivery_total IsDeliveryAt r.deliveries sound.deliveries in
    let found = one_passes (λ (e : DeliveryKey × Delivery). IsDeliveryAt e.0 e.1) (λ e. bytes_eq e.1.part code) (entries r.deliveries) stand (hand_of_delivered r code n on) in
    subst IsPartCode ((bytes_eq-Decides found.0.1.part code).0 found.2) found.1.within.part
