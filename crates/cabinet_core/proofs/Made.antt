-- The changes of a decision make the register with the record.
use Rattle.std.proofs.Common.{◌≡◌, ◌⊎◌, inl, inr, ◌≤◌, ℕ, true, false, List, [], ◌∷◌, cond, Option, None, Some, Result, Ok, Err, refl, sym, ap, subst, ◌∙◌, arith}
use Rattle.std.proofs.lemmas.Bool.{cases_Bool}
use Rattle.std.specs.{Prelude.IfSome, FinMap.get, FinMap.insert, Int.IsInRange, Str.bytes_eq}
use Rattle.cabinet_core.specs.Cabinet.{Records, added, close_line, record_of, with_closing, use_changes, close_changes, receive_changes}
use Rattle.cabinet_core.specs.{Changes.ChangesMake, Changes.MakesIn, Changes.Makes, Stock.hand_of, Register.Register, Register.LineKey, Register.DeliveryKey, Sound.IsOrderAt, Sound.IsSoundRegister, declared.record.Order.Order, Step.Standing, declared.record.Closing.Closing, Within.IsInspectionWithin, Within.IsClosingWithin, Within.IsOpeningWithin, Within.IsUsedLineWithin, Within.IsDeliveryWithin, declared.command.RecordCommand.RecordCommand, declared.record.UsedLine.UsedLine, declared.refusal.CabinetRefusal.CabinetRefusal}
use Rattle.cabinet_core.specs.Step.{standing_in, line_on, line_at, with_closed, with_record}
use Rattle.cabinet_core.specs.declared.{record.Opening.Opening, decide.Recorded.TheVariants.Added, record.Delivery.Delivery}
use Rattle.cabinet_core.specs.declared.command.RecordCommand.TheVariants.{Inspect, OpenOrder, UsePart, CloseOrder, Receive}
use Rattle.cabinet_core.specs.declared.decide.{CabinetChange.CabinetChange, Recorded.Recorded}
use Rattle.cabinet_core.specs.declared.decide.CabinetChange.TheVariants.{PutInspection, PutOrder}
use Rattle.cabinet_core.specs.declared.refusal.CabinetRefusal.{TheVariants.NoMemory}
use Rattle.cabinet_core.proofs.Sound.{inspection_sound, order_sound, closed_order, line_sound, usable, delivery_sound, receivable}
use Rattle.cabinet_core.proofs.StockLemmas.{same_bytes, line_here, line_elsewhere, delivery_here, delivery_elsewhere}

-- ---- what a command brings

-- the intersection that its records are put on; a delivery is of none, so any will do
abbrev pub place_or : ℕ → RecordCommand → ℕ
place_or any (Inspect id asked) = id
place_or any (OpenOrder id asked) = id
place_or any (UsePart id asked) = id
place_or any (CloseOrder id number asked) = id
place_or any (Receive asked) = any

-- its record is within its limits, and an inspection of an intersection 1 to 9999
abbrev pub BringsWithin : RecordCommand → Type 0
BringsWithin (Inspect id asked) = IsInRange 1 9999 id × IsInspectionWithin asked
BringsWithin (OpenOrder id asked) = IsOpeningWithin asked
BringsWithin (UsePart id asked) = IsUsedLineWithin asked
BringsWithin (CloseOrder id number asked) = IsClosingWithin asked
BringsWithin (Receive asked) = IsDeliveryWithin asked

-- its changes where it adds
abbrev pub changes_on : (command : RecordCommand) → Standing command → List CabinetChange
changes_on (Inspect id asked) there = PutInspection asked ∷ []
changes_on (OpenOrder id asked) there = PutOrder (record_of asked) ∷ []
changes_on (UsePart id asked) (there, order, hand) = use_changes hand asked
changes_on (CloseOrder id number asked) there = close_changes there asked
changes_on (Receive asked) (there, hand) = receive_changes hand asked

-- ---- orders

opened : (r : Register) (id : ℕ) (asked : Opening) → IsSoundRegister r → IsOpeningWithin asked
    → IsSoundRegister (with_record r (OpenOrder id asked))
opened r id asked sound within =
    order_sound r (id, asked.number) (record_of asked) sound (record {
      number = refl;
      within = record {
        number = within.number;
        opened = within.day;
        clerk = within.clerk;
        text = within.text;
        closing = tt;
      };
      closed_after = tt;
    })

closed : (r : Register) (id n : ℕ) (asked : Closing) (there : Option Order) → IsSoundRegister r
    → IfSome there (IsOrderAt (id, n)) → IsClosingWithin asked → close_line there asked ≡ added
    → ChangesMake id r (close_changes there asked) (with_closed r id n asked there)
closed r id n asked None sound at within adds = absurd cc
closed r id n asked (Some order) sound at within adds =
    let done = with_closing order asked in
    record {
      records = ap (λ (k : ℕ). record r { orders = insert r.orders (id, k) done }) at.number;
      hands = λ code. refl;
      sound = order_sound r (id, n) done sound (closed_order (id, n) order asked at within adds);
    }

-- ---- parts used and deliveries

-- one part alone is told anew: what is on hand of each part then is that of the next register
hands_told : (r next : Register) (part : List ℕ) (hand : ℕ) → hand_of next part ≡ Some hand
    → ((other : List ℕ) → bytes_eq part other ≡ false → hand_of next other ≡ hand_of r other)
    → (code : List ℕ) → cond (bytes_eq part code) (Some hand) (hand_of r code) ≡ hand_of next code
hands_told r next part hand here elsewhere code = go (cases_Bool (bytes_eq part code))
  where
    go : (bytes_eq part code ≡ true) ⊎ (bytes_eq part code ≡ false)
        → cond (bytes_eq part code) (Some hand) (hand_of r code) ≡ hand_of next code
    go (inl hit) =
        ap (λ b. cond b (Some hand) (hand_of r code)) hit
        ∙ sym here
        ∙ ap (hand_of next) (same_bytes part code hit)
    go (inr miss) =
        ap (λ b. cond b (Some hand) (hand_of r code)) miss ∙ sym (elsewhere code miss)

used : (r : Register) (id : ℕ) (asked : UsedLine) → IsSoundRegister r → IsUsedLineWithin asked
    → line_at r (UsePart id asked) ≡ added
    → ChangesMake id r (use_changes (hand_of r asked.part) asked) (with_record r (UsePart id asked))
used r id asked sound within adds =
    let key : LineKey = (id, (asked.order, asked.line)) in
    let order = get r.orders (id, asked.order) in
    let is = usable (get r.lines key) order (hand_of r asked.part) asked adds in
    let some : 1 ≤ asked.count = let counted = within.count in omega arith in
    record {
      records = refl;
      hands = hands_told r (with_record r (UsePart id asked)) asked.part _
          (line_here r key asked is.new some is.enough) (line_elsewhere r key asked is.new);
      sound = line_sound r id asked sound within is;
    }

received : (r : Register) (id : ℕ) (asked : Delivery) → IsSoundRegister r → IsDeliveryWithin asked
    → line_at r (Receive asked) ≡ added
    → ChangesMake id r (receive_changes (hand_of r asked.part) asked)
    (with_record r (Receive asked))
received r id asked sound within adds =
    let key : DeliveryKey = (asked.part, asked.number) in
    let is = receivable (get r.deliveries key) (hand_of r asked.part) asked adds in
    record {
      records = refl;
      hands = hands_told r (with_record r (Receive asked)) asked.part _
          (delivery_here r key asked is.new (sound.stock asked.part))
          (delivery_elsewhere r key asked is.new);
      sound = delivery_sound r asked sound within is;
    }

-- ---- every decision

-- what a command adds makes the register with the record
adding_makes : (any : ℕ) (r : Register) (command : RecordCommand) → IsSoundRegister r
    → BringsWithin command → line_at r command ≡ added
    → ChangesMake (place_or any command) r (changes_on command (standing_in r command))
    (with_record r command)
adding_makes any r (Inspect id asked) sound within adds =
    let next_sound = inspection_sound r id asked sound within.0 within.1 in
    record { records = refl; hands = λ code. refl; sound = next_sound }
adding_makes any r (OpenOrder id asked) sound within adds =
    record { records = refl; hands = λ code. refl; sound = opened r id asked sound within }
adding_makes any r (UsePart id asked) sound within adds = used r id asked sound within adds
adding_makes any r (CloseOrder id n asked) sound within adds =
    closed r id n asked (get r.orders (id, n)) sound (sound.orders (id, n)) within adds
adding_makes any r (Receive asked) sound within adds = received r any asked sound within adds

-- a decision that records those changes makes it
made : (id : ℕ) (r : Register) (command : RecordCommand) (list : List CabinetChange)
    (result : Result Recorded CabinetRefusal)
    → (line_at r command ≡ added → ChangesMake id r list (with_record r command))
    → Records result (line_at r command) list → MakesIn id r command result
made id r command list (Ok (Added changes)) makes says =
    (says.0, subst (λ cs. ChangesMake id r cs (with_record r command)) (sym says.1) (makes says.0))
made id r command list (Err NoMemory) makes says = says
made id r command list _ makes says = says

-- the law, of a decision that says its line on what it is given
pub decision_makes : (any : ℕ) (command : RecordCommand) (there : Standing command)
    (result : Result Recorded CabinetRefusal) → BringsWithin command
    → Records result (line_on command there) (changes_on command there)
    → Makes (place_or any command) command there result
decision_makes any command there result within says = λ r sound is.
    let Says : Standing command → Type 0 =
    λ given. Records result (line_on command given) (changes_on command given) in
    made (place_or any command) r command (changes_on command (standing_in r command)) result
    (adding_makes any r command sound within) (subst Says is says)
