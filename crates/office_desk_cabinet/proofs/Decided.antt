-- What is promised of a record, from what was read under its keys.
use Rattle.std.proofs.Common.{◌≡◌, ◌≢◌, ◌≤◌, ℕ, Bool, true, false, List, [], Option, Some, None, Result, Ok, Err, is_some, inl, inr, refl, sym, ap, subst, subst₂, ◌∙◌, arith}
use Rattle.std.specs.Prelude.{if◌then◌else◌, nat_lt, Vec, ◌+◌}
use Rattle.cabinet_core.specs.Cabinet.{Line, added, same, refused, Records, on_hand, is_opened_so, is_same_inspection, is_same_line, is_same_closing, is_same_delivery, close_order_line}
use Rattle.cabinet_core.specs.{Changes.ChangesMake, Changes.Makes, Changes.MakesIn, Register.Register, Step.Standing, Step.line_on, Step.line_at, Step.with_record, declared.command.RecordCommand.RecordCommand, declared.decide.CabinetChange.CabinetChange, declared.decide.Recorded.Recorded, declared.part.TheConstants.MOST_ON_HAND, declared.record.Order.Order, declared.record.Closing.Closing, declared.refusal.CabinetRefusal.CabinetRefusal}
use Rattle.cabinet_core.specs.declared.command.RecordCommand.TheVariants.{Inspect, OpenOrder, UsePart, CloseOrder, Receive}
use Rattle.cabinet_core.proofs.Made.{changes_on, place_or}
use Rattle.office_machine.specs.{Step.cabinet_of, Step.refusal_of_record, declared.command.Command.TheVariants.Record}
use Rattle.office_tables_decisions.specs.{Changes.IsRefused, Named.RefusesBy, Named.number_of, Named.numbers_of, RecordBounds.IsOneOf, RecordBounds.most_record_writes}
use Rattle.office_tables_decisions.proofs.Decisions.{refuses_so}
use Rattle.office_tables_shelf.specs.{Change.AddNew, Change.changed_by, Content.Content, Counts.writes_in, declared.rows.RowChange.RowChange, declared.rows.Table.Table, declared.shelf.ShelfFault.ShelfFault, declared.shelf.ShelfFault.TheVariants.NoMemory, declared.shelf.ShelfFault.TheVariants.Damaged}
use Rattle.office_desk_cabinet.specs.Decides.{DecidesRecord, LeavesTiming, TakesRecord, WritesRecord, register_with, reply_taken, taken_by}
use Rattle.office_desk_cabinet.specs.{RegisterStands.RegisterStandsSound, Telling.Tells, Telling.row_changes_of, declared.deciding.Taken.Taken}
use Rattle.office_desk_cabinet.proofs.{Changed.rows_on, Changed.stand_changed, Found.ReadsKeys, Found.keys_stand}
use Rattle.cabinet_core.specs.declared.decide.Recorded.TheVariants as recorded
use Rattle.cabinet_core.specs.declared.refusal.CabinetRefusal.TheVariants as refusal
use Rattle.office_machine.specs.declared.reply.Reply.TheVariants as reply
use Rattle.office_tables_shelf.specs.declared.rows.Table.TheVariants as table

-- ---- the refusals of a record's line

-- the reply to this line is no refusal, or one of the record's table
abbrev Named : RecordCommand → Line → Type 0
Named c line = RefusesBy (numbers_of (Record c)) (reply_taken (taken_by true line))

either : (c : RecordCommand) (b : Bool) (one other : Line) → Named c one → Named c other → Named c (if b then one else other)
either c true one other first second = first
either c false one other first second = second

adding : (c : RecordCommand) → Named c added
adding c why e = absurd (let f : reply.Added ≡ reply.Refused why = e in cc)

there_already : (c : RecordCommand) → Named c same
there_already c why e = absurd (let f : reply.Same ≡ reply.Refused why = e in cc)

refusing : (c : RecordCommand) (why : CabinetRefusal) → IsOneOf (numbers_of (Record c)) (number_of (refusal_of_record why)) → Named c (refused why)
refusing c why = refuses_so (numbers_of (Record c)) (refusal_of_record why)

-- an equal record is there, or another one, which is refused
differs : (c : RecordCommand) (b : Bool) (why : CabinetRefusal) → IsOneOf (numbers_of (Record c)) (number_of (refusal_of_record why)) → Named c (if b then same else refused why)
differs c b why among = either c b same (refused why) (there_already c) (refusing c why among)

-- or it is refused for this reason, unless the test fails
refuses : (c : RecordCommand) (b : Bool) (why : CabinetRefusal) (other : Line) → IsOneOf (numbers_of (Record c)) (number_of (refusal_of_record why)) → Named c other → Named c (if b then refused why else other)
refuses c b why other among = either c b (refused why) other (refusing c why among)

close_named : (id n : ℕ) (order : Order) (closing : Option Closing) (asked : Closing) → Named (CloseOrder id n asked) (close_order_line order closing asked)
close_named id n order (Some there) asked = differs (CloseOrder id n asked) (is_same_closing there asked) refusal.CloseDiffers (inr (inr (inl refl)))
close_named id n order None asked =
    refuses (CloseOrder id n asked) (nat_lt asked.day order.opened) refusal.DayBeforeOpening added (inr (inr (inr (inl refl)))) (adding (CloseOrder id n asked))

line_named : (c : RecordCommand) (there : Standing c) → Named c (line_on c there)
line_named (Inspect id asked) None = adding (Inspect id asked)
line_named (Inspect id asked) (Some there) = differs (Inspect id asked) (is_same_inspection there asked) refusal.InspectionDiffers (inr (inl refl))
line_named (OpenOrder id asked) None = adding (OpenOrder id asked)
line_named (OpenOrder id asked) (Some there) = differs (OpenOrder id asked) (is_opened_so there asked) refusal.OrderDiffers (inr (inl refl))
line_named (UsePart id asked) (Some there, order, hand) = differs (UsePart id asked) (is_same_line there asked) refusal.LineDiffers (inr (inl refl))
line_named (UsePart id asked) (None, None, hand) = refusing (UsePart id asked) refusal.UnknownOrder (inr (inr (inl refl)))
line_named (UsePart id asked) (None, Some order, hand) =
    refuses (UsePart id asked) (is_some order.closing) refusal.OrderClosed _ (inr (inr (inr (inl refl))))
    (refuses (UsePart id asked) (nat_lt (on_hand hand) asked.count) refusal.NoStock added (inr (inr (inr (inr (inl refl))))) (adding (UsePart id asked)))
line_named (CloseOrder id n asked) None = refusing (CloseOrder id n asked) refusal.UnknownOrder (inr (inl refl))
line_named (CloseOrder id n asked) (Some order) = close_named id n order order.closing asked
line_named (Receive asked) (Some there, hand) = differs (Receive asked) (is_same_delivery there asked) refusal.DeliveryDiffers (inl refl)
line_named (Receive asked) (None, hand) =
    refuses (Receive asked) (nat_lt MOST_ON_HAND (on_hand hand + asked.count)) refusal.StockFull added (inr (inl refl)) (adding (Receive asked))

-- ---- its rows, where it adds any

-- they are no more than it may write
few : (c : RecordCommand) (there : Standing c) (t : Table) → writes_in t (rows_on c there) ≤ most_record_writes c t
few (Inspect id asked) there table.Inspection = omega arith
few (OpenOrder id asked) there table.WorkOrder = omega arith
few (CloseOrder id n asked) None t = omega arith
few (CloseOrder id n asked) (Some order) table.WorkOrder = omega arith
few (UsePart id asked) there table.UsedPart = omega arith
few (Receive asked) there table.Delivery = omega arith
few _ _ _ = omega arith

register_only : (c : RecordCommand) (there : Standing c) (tables : Content) → LeavesTiming tables (rows_on c there)
register_only (CloseOrder id n asked) None tables = record { intersection = refl; timing = refl; draft = refl }
register_only _ _ tables = record { intersection = refl; timing = refl; draft = refl }

not_added : (b : Bool) (why : CabinetRefusal) → (if b then same else refused why) ≢ added
not_added true why adds = cc
not_added false why adds = cc

-- where one is added, none stands under its key
adds_new : (tables : Content) (c : RecordCommand) (there : Standing c) → ReadsKeys tables c there → line_on c there ≡ added → AddNew tables (rows_on c there)
adds_new tables (Inspect id asked) None read adds = (read.stored, tt)
adds_new tables (Inspect id asked) (Some there) read adds = absurd (not_added _ _ adds)
adds_new tables (OpenOrder id asked) None read adds = (read.stored, tt)
adds_new tables (OpenOrder id asked) (Some there) read adds = absurd (not_added _ _ adds)
adds_new tables (UsePart id asked) (None, order, hand) read adds = (read.0.stored, (tt, tt))
adds_new tables (UsePart id asked) (Some there, order, hand) read adds = absurd (not_added _ _ adds)
adds_new tables (CloseOrder id n asked) None read adds = tt
adds_new tables (CloseOrder id n asked) (Some order) read adds = (tt, tt)
adds_new tables (Receive asked) (None, hand) read adds = (tt, (read.0.stored, tt))
adds_new tables (Receive asked) (Some there, hand) read adds = absurd (not_added _ _ adds)

-- ---- what is told

-- the rows that a line writes: only what is added writes any
abbrev rows_for : Line → List RowChange → List RowChange
rows_for added rows = rows
rows_for same rows = []
rows_for (refused why) rows = []

for_line : (P : List RowChange → Type 0) (line : Line) (rows : List RowChange) → P [] → (line ≡ added → P rows) → P (rows_for line rows)
for_line P added rows none some = some refl
for_line P _ rows none some = none

told_by : {A : Type 0} (about : Option ℕ) (line : Line) (list : List CabinetChange) (decision : Result Recorded CabinetRefusal) (told : Taken × Vec RowChange A) → Records decision line list → Tells about decision (Ok told)
    → (told.0 ≡ taken_by true line) × (told.1.items ≡ rows_for line (row_changes_of about list))
told_by about line list (Ok (recorded.Added changes)) told is tells = (tells.0 ∙ ap (taken_by true) (sym is.0), tells.1 ∙ (λ i. rows_for (sym is.0 i) (row_changes_of about (is.1 i))))
told_by about line list (Ok recorded.Same) told is tells = (tells.0 ∙ ap (taken_by true) (sym is), tells.1 ∙ (λ i. rows_for (sym is i) (row_changes_of about list)))
told_by about line list (Err refusal.NoMemory) told is tells = absurd (tells.0 refl)
told_by about line list (Err why) told is tells = (tells.1 ∙ ap (taken_by true) (sym is), tells.2 ∙ (λ i. rows_for (sym is i) (row_changes_of about list)))

-- a fault is want of memory
fault_told : (A : Type 0) (about : Option ℕ) (decision : Result Recorded CabinetRefusal) (fault : ShelfFault) → Tells {A = A} about decision (Err fault) → fault ≡ NoMemory
fault_told A about (Ok (recorded.Added changes)) fault tells = tells
fault_told A about (Ok recorded.Same) fault tells = absurd tells
fault_told A about (Err why) fault tells = tells.1

-- what is told as added makes the register with the record
makes_added : {A : Type 0} (about : Option ℕ) (id : ℕ) (r : Register) (c : RecordCommand) (line : Line) (list : List CabinetChange) (decision : Result Recorded CabinetRefusal) (told : Taken × Vec RowChange A)
    → line ≡ added → Records decision line list → Tells about decision (Ok told) → MakesIn id r c decision → ChangesMake id r list (with_record r c)
makes_added about id r c line list (Ok (recorded.Added changes)) told adds is tells makes = subst (λ cs. ChangesMake id r cs (with_record r c)) is.1 makes.1
makes_added about id r c line list (Ok recorded.Same) told adds is tells makes = absurd cc
makes_added about id r c line list (Err refusal.NoMemory) told adds is tells makes = absurd (tells.0 refl)
makes_added about id r c line list (Err why) told adds is tells makes = absurd cc

stand_by : (tables : Content) (r : Register) (c : RecordCommand) (line : Line) (rows : List RowChange) → RegisterStandsSound tables r → (line ≡ added → RegisterStandsSound (changed_by tables rows) (with_record r c))
    → RegisterStandsSound (changed_by tables (rows_for line rows)) (register_with (taken_by true line) r c)
stand_by tables r c added rows stands some = some refl
stand_by tables r c _ rows stands some = stands

refused_none : (line : Line) (rows : List RowChange) → IsRefused (reply_taken (taken_by true line)) → rows_for line rows ≡ []
refused_none added rows never = absurd never
refused_none _ rows never = refl

-- ---- every decision

pub decided : {A : Type 0} (c : RecordCommand) (is_honest : Type 0) (stored : Content) (pending : List RowChange) (there : Standing c) (decision : Result Recorded CabinetRefusal) (result : Result (Taken × Vec RowChange A) ShelfFault)
    → (is_honest → ReadsKeys (changed_by stored pending) c there) → Records decision (line_on c there) (changes_on c there) → Makes (place_or 0 c) c there decision → Tells (cabinet_of c) decision result
    → DecidesRecord is_honest stored pending c result
decided {A = A} c is_honest stored pending there decision (Err fault) read says makes tells =
    λ damaged. absurd (let e : NoMemory ≡ Damaged = sym (fault_told A (cabinet_of c) decision fault tells) ∙ damaged in cc)
decided c is_honest stored pending there decision (Ok told) read says makes tells =
    let tables = changed_by stored pending in
    let line = line_on c there in
    let rows = rows_on c there in
    let is = told_by (cabinet_of c) line (changes_on c there) decision told says tells in (
      λ honest. record {
        told = λ r stands. is.0 ∙ ap (λ (s : Standing c). taken_by true (line_on c s)) (keys_stand tables r stands c there (read honest));
        stand = λ r stands. subst₂ (λ (t : Taken) (list : List RowChange). RegisterStandsSound (changed_by tables list) (register_with t r c)) (sym is.0) (sym is.1)
            (stand_by tables r c line rows stands (λ adds.
            let made = makes_added (cabinet_of c) (place_or 0 c) r c line (changes_on c there) decision told adds says tells
            (makes r stands.sound (keys_stand tables r stands c there (read honest))) in
            record { stand = stand_changed tables r c there stands.stand made; sound = made.sound }));
        leaves = subst (LeavesTiming tables) (sym is.1)
            (for_line (LeavesTiming tables) line rows (record { intersection = refl; timing = refl; draft = refl }) (λ adds. register_only c there tables));
        news = subst (AddNew tables) (sym is.1) (for_line (AddNew tables) line rows tt (adds_new tables c there (read honest)));
        there = λ why e. refl;
      },
      record {
        writes = λ t. subst (λ (list : List RowChange). writes_in t list ≤ most_record_writes c t) (sym is.1)
            (for_line (λ list. writes_in t list ≤ most_record_writes c t) line rows (omega arith) (λ adds. few c there t));
        refused = λ refused. is.1 ∙ refused_none line rows (subst (λ (t : Taken). IsRefused (reply_taken t)) is.0 refused);
        named = subst (λ (t : Taken). RefusesBy (numbers_of (Record c)) (reply_taken t)) (sym is.0) (line_named c there);
      },
    )
