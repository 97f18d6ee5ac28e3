-- What the commands and queries of the register answer is a step of the office.
use Rattle.std.proofs.Common.{◌≡◌, ◌++◌, ◌≤◌, ℕ, Bool, true, false, List, [], ◌∷◌, map, Option, Some, None, is_some, arith, refl, ap, sym, subst, subst₂, ◌∙◌, inl, inr}
use Rattle.std.specs.{Prelude.IsSome, Option.option_map, FinMap.get}
use Rattle.cabinet_core.specs.{declared.command.RecordCommand.RecordCommand, declared.record.CabinetView.CabinetView, Orders.open_at, Register.Register, Step.after_line, Step.line_at, Step.with_record, Stock.stock_of}
use Rattle.cabinet_core.specs.Cabinet.{Line, added as added_line, same as same_line, refused as refused_line}
use Rattle.office_tables_shelf.specs.{Cells.Cell, Cells.TableRows, Change.AddNew, Change.changed_by, Content.Content, Counts.writes_in, Shelf.ReadsIntersection, Rows.intersection_columns, Rows.intersection_key, Rows.timing_key, declared.rows.IntersectionRow.IntersectionRow, declared.rows.RowChange.RowChange, declared.rows.Table.Table, RegisterStands.RegisterStandsSound}
use Rattle.office_tables_decisions.specs.{RecordBounds.IsOneOf, RecordBounds.most_record_writes, Damage.MeetsRecordDamage, declared.decided.Decided.Decided}
use Rattle.office_desk_cabinet.specs.{Registers.ShowsCabinet, declared.deciding.Taken.Taken}
use Rattle.office_desk.specs.{Named.numbers_about, Named.numbers_of, Taking.TakesNext, Taking.office_with, Taking.taken_in, Changes.IsRefused, Damage.MeetsCabinetDamage, Deciding.IsDecision, Recording.IsKnownIn, Recording.TellsAbout, Recording.TellsIntersection, StandFor.StandForSound, StandFor.row_of}
use Rattle.office_desk_cabinet.specs.Decides.{LeavesTiming, WritesRecord, register_with, reply_taken, taken_by}
use Rattle.office_machine.specs.{declared.refusal.Refusal.TheVariants.Damaged, Office.Office, Office.Intersection, declared.reply.CabinetShown.CabinetShown, declared.reply.Reply.Reply}
use Rattle.office_machine.specs.Step.{answered, cabinet_of, cabinet_shown, is_known, step_if_known, record_step, recorded_at, shown, reply_of}
use Rattle.office_desk_timing.proofs.Stands.{row_read}
use Rattle.office_desk.proofs.Writes.{record_writes}
use Rattle.cabinet_core.specs.declared.command.RecordCommand.TheVariants as register
use Rattle.office_machine.specs.declared.command.Command.TheVariants as command
use Rattle.office_machine.specs.declared.reply.Reply.TheVariants as reply

-- ---- whether the intersection is there

same_there : {X Y : Type 0} (f : X → Y) (o : Option X) → is_some (option_map f o) ≡ is_some o
same_there f None = refl
same_there f (Some x) = refl

pub known_read : (tables : Content) (id : ℕ) (row : Option IntersectionRow) → ReadsIntersection tables id row → IsKnownIn tables (Some id) (is_some row)
known_read tables id row reads office stands = ap (λ (o : Option IntersectionRow). is_some o) (row_read tables office id row stands.stand reads) ∙ same_there row_of (get office.intersections id)

-- whatever its register holds
pub same_known : (office : Office) (r : Register) (about : Option ℕ) → is_known office about ≡ is_known (record office { register = r }) about
same_known office r None = refl
same_known office r (Some id) = refl

-- what is told of an intersection that is asked for
pub about_tells : (tables : Content) (asked about : Option ℕ) (was known : Bool) → asked ≡ about → was ≡ known → TellsIntersection tables asked was → TellsIntersection tables about known
about_tells tables asked about was known same is tells = subst₂ (TellsIntersection tables) same is tells

-- ---- a command

pub register_of : (tables : Content) (office : Office) → StandForSound tables office → RegisterStandsSound tables office.register
register_of tables office stands = record { stand = stands.stand.register; sound = stands.sound.register }

-- where the register's rows alone were changed, the tables stand for the office with the next register
pub stands_after : (tables : Content) (changes : List RowChange) (office : Office) (next : Register) → StandForSound tables office → LeavesTiming tables changes → RegisterStandsSound (changed_by tables changes) next
    → StandForSound (changed_by tables changes) (record office { register = next })
stands_after tables changes office next stands leaves register = record {
  stand = record {
    intersection = leaves.intersection ∙ stands.stand.intersection;
    timing = λ id key. ap (λ (rows : TableRows). get rows (timing_key id key)) leaves.timing ∙ stands.stand.timing id key;
    timing_keys = λ cells columns at. stands.stand.timing_keys cells columns (sym (ap (λ (rows : TableRows). get rows cells) leaves.timing) ∙ at);
    draft = λ id key. let held = stands.stand.draft id key in record {
      said = held.said;
      stored = ap (λ (rows : TableRows). get rows (timing_key id key)) leaves.draft ∙ held.stored;
      stands = held.stands;
      within = held.within;
    };
    draft_keys = λ cells columns at. stands.stand.draft_keys cells columns (sym (ap (λ (rows : TableRows). get rows cells) leaves.draft) ∙ at);
    register = register.stand;
  };
  sound = record { numbers = stands.sound.numbers; intersections = stands.sound.intersections; register = register.sound };
}

-- the office answers a command of the register as it takes the record
recorded : (office : Office) (c : RecordCommand) → answered office (command.Record c) ≡ (reply_taken (taken_in office c), office_with (taken_in office c) office c)
recorded office c = go (cabinet_of c)
  where
    told_as : Taken → Reply × Office
    told_as t = (reply_taken t, office_with t office c)

    by_line : (line : Line) → ◌≡◌ {A = Reply × Office} (reply_of line, record office { register = after_line line (with_record office.register c) office.register }) (told_as (taken_by true line))
    by_line added_line = refl
    by_line same_line = refl
    by_line (refused_line why) = refl

    there : (o : Option Intersection) → step_if_known office o (record_step office c) ≡ told_as (taken_by (is_some o) (line_at office.register c))
    there None = refl
    there (Some i) = by_line (line_at office.register c)

    go : (about : Option ℕ) → recorded_at office about (record_step office c) ≡ told_as (taken_by (is_known office about) (line_at office.register c))
    go None = by_line (line_at office.register c)
    go (Some id) = there (get office.intersections id)

-- a row was read where one stands
pub row_stands : (tables : Content) (id : ℕ) (row : Option IntersectionRow) → ReadsIntersection tables id row → is_some row ≡ is_some (get tables.intersection (intersection_key id))
row_stands tables id row reads = sym (same_there intersection_columns row) ∙ sym (ap (λ (o : Option (List Cell)). is_some o) reads)

-- a row of the register that is no record, of an intersection that is there
pub meets_record : (tables : Content) (c : RecordCommand) (about : Option ℕ) → TellsAbout tables about true → MeetsRecordDamage tables c → MeetsCabinetDamage tables c about
meets_record tables c None there damage = damage
meets_record tables c (Some id) there damage = inr (sym there, damage)

-- ---- the decision

-- that the intersection is not there is told only of a command about one
pub unknown_named : (about : Option ℕ) (numbers : List ℕ) → IsSome about → IsOneOf (numbers_about about numbers) 10
unknown_named None numbers asked = absurd (let f : false ≡ true = asked in cc)
unknown_named (Some id) numbers asked = inl refl

-- no refusal of its table is that for a damaged row
not_damaged : (c : RecordCommand) → ¬ IsOneOf (numbers_of (command.Record c)) 91
not_damaged (register.Inspect id asked) among = grind arith
not_damaged (register.OpenOrder id asked) among = grind arith
not_damaged (register.UsePart id asked) among = grind arith
not_damaged (register.CloseOrder id n asked) among = grind arith
not_damaged (register.Receive asked) among = grind arith

-- a record that was taken after no other is decided
pub record_decides : (is_honest : Type 0) (tables : Content) (c : RecordCommand) (t : Taken) (pending rows : List RowChange) (decided : Decided) → pending ≡ []
    → decided.reply ≡ reply_taken t → decided.changes.items ≡ rows → (is_honest → TakesNext tables pending c t rows) → WritesRecord c t rows
    → IsDecision is_honest tables (command.Record c) decided
record_decides is_honest tables c t pending rows decided none is list takes writes =
    let now = λ (honest : is_honest). subst (λ first. TakesNext tables first c t rows) none (takes honest) in
    record {
      step = λ honest office stands.
          let took = (now honest).2 in
          let register = register_of tables office stands in
          record {
            next = office_with t office c;
            step = inr (recorded office c
                ∙ (λ k. let t_now = (took.told office.register register ∙ ap (λ known. taken_by known (line_at office.register c)) ((now honest).1.known office stands)) in
                ((ap reply_taken (sym t_now) ∙ sym is) k, office_with (sym t_now k) office c)));
            stand = subst (λ list. StandForSound (changed_by tables list) (office_with t office c)) (sym list)
                (stands_after tables rows office (register_with t office.register c) stands took.leaves (took.stand office.register register));
          };
      writes = λ honest. record_writes tables c decided.changes.items (subst (λ list. (table : Table) → writes_in table list ≤ most_record_writes c table) (sym list) writes.writes);
      news = λ honest. subst (AddNew tables) (sym list) (now honest).2.news;
      refused = λ refused. list ∙ writes.refused (subst IsRefused is refused);
      query = λ query. absurd query;
      named = λ why e. writes.named why (sym is ∙ e);
      damaged = λ e. not_damaged c (writes.named Damaged (sym is ∙ e));
    }

-- ---- queries

shown_there : (o : Option Intersection) (said : Reply) → true ≡ is_some o → shown o (λ _. said) ≡ said
shown_there None said e = absurd (let f : true ≡ false = e in cc)
shown_there (Some i) said e = refl

-- what is not there is none
pub none_there : (o : Option Intersection) → false ≡ is_some o → o ≡ None
none_there None e = refl
none_there (Some i) e = absurd (let f : false ≡ true = e in cc)

-- a query on the cabinet of an intersection shows what it says only where that is there
pub cabinet_shows : (tables : Content) (office : Office) (id : ℕ) (view : CabinetView)
    → StandForSound tables office → IsKnownIn tables (Some id) true → ((r : Register) → RegisterStandsSound tables r → ShowsCabinet r id view)
    → answered office (command.Cabinet id) ≡ (reply.Cabinet (record { id = id; view = view }), office)
cabinet_shows tables office id view stands there shows =
    let lists = shows office.register (register_of tables office stands) in
    let same : ◌≡◌ {A = CabinetShown} (cabinet_shown office.register id) (record { id = id; view = view }) =
    λ k. record { id = id; view = record { inspections = sym lists.inspections k; orders = sym lists.orders k; lines = sym lists.lines k } } in
    ap (λ (said : Reply). (said, office)) (shown_there (get office.intersections id) (reply.Cabinet (cabinet_shown office.register id)) (there office stands)
    ∙ (λ k. reply.Cabinet (same k)))

pub orders_show : (tables : Content) (office : Office) (id : ℕ) (numbers : List ℕ)
    → StandForSound tables office → IsKnownIn tables (Some id) true → ((r : Register) → RegisterStandsSound tables r → numbers ≡ open_at r id)
    → answered office (command.OpenOrders id) ≡ (reply.OpenOrders numbers, office)
orders_show tables office id numbers stands there shows =
    ap (λ (said : Reply). (said, office)) (shown_there (get office.intersections id) (reply.OpenOrders (open_at office.register id)) (there office stands)
    ∙ ap (λ (list : List ℕ). reply.OpenOrders list) (sym (shows office.register (register_of tables office stands))))

pub stock_shows : (tables : Content) (office : Office) (parts : List (List ℕ × ℕ)) → StandForSound tables office
    → ((r : Register) → RegisterStandsSound tables r → parts ≡ stock_of r) → answered office command.Stock ≡ (reply.Stock parts, office)
stock_shows tables office parts stands shows =
    λ k. (reply.Stock (sym (shows office.register (register_of tables office stands)) k), office)
