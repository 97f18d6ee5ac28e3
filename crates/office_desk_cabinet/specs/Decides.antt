-- What is promised of a record of the register that is taken on what the tables hold.
use Rattle.std.specs.Prelude.{◌≡◌, ◌≢◌, ◌≤◌, Bool, true, false, List, [], Result, Ok, Err, Vec}
use Rattle.cabinet_core.specs.Cabinet.{Line, added, same, refused}
use Rattle.cabinet_core.specs.{Register.Register, Step.line_at, Step.with_record, declared.command.RecordCommand.RecordCommand, declared.refusal.CabinetRefusal.CabinetRefusal}
use Rattle.office_machine.specs.{Step.refusal_of_record, declared.command.Command.TheVariants.Record, declared.reply.Reply.Reply}
use Rattle.office_tables_decisions.specs.{Changes.IsRefused, Damage.MeetsRecordDamage, Named.RefusesBy, Named.numbers_of, RecordBounds.most_record_writes}
use Rattle.office_tables_shelf.specs.{Change.AddNew, Change.changed_by, Content.Content, Counts.writes_in, declared.rows.RowChange.RowChange, declared.rows.Table.Table, declared.shelf.ShelfFault.ShelfFault, declared.shelf.ShelfFault.TheVariants.Damaged}
use Rattle.office_desk_cabinet.specs.{RegisterStands.RegisterStandsSound, declared.deciding.Taken.Taken, declared.deciding.Taken.TheVariants.Added, declared.deciding.Taken.TheVariants.Same, declared.deciding.Taken.TheVariants.Refused}
use Rattle.office_machine.specs.declared.refusal.Refusal.TheVariants as refusal
use Rattle.office_machine.specs.declared.reply.Reply.TheVariants as reply

-- what comes of a record, by whether its intersection is there (or it is of none) and by what the register decides of it: without the intersection it is refused
abbrev pub taken_by : (is_there : Bool) → Line → Taken
taken_by false line = Refused refusal.UnknownIntersection
taken_by true added = Added
taken_by true same = Same
taken_by true (refused why) = Refused (refusal_of_record why)

-- the register after a record, by how it was taken: only a new one changes it
abbrev pub register_with : Taken → Register → RecordCommand → Register
register_with Added r c = with_record r c
register_with Same r c = r
register_with (Refused why) r c = r

-- the reply to one record that was taken so
abbrev pub reply_taken : Taken → Reply
reply_taken Added = reply.Added
reply_taken Same = reply.Same
reply_taken (Refused why) = reply.Refused why

-- rows of the register alone are written: those of the intersections and of their timing stay
pub record LeavesTiming (tables : Content) (changes : List RowChange) : Type 0 where
  pub intersection : (changed_by tables changes).intersection ≡ tables.intersection
  pub timing : (changed_by tables changes).timing ≡ tables.timing
  pub draft : (changed_by tables changes).draft ≡ tables.draft

-- a record is taken as the machine takes it, on whichever sound register the tables stand for, and its rows bring them to the register after it and leave
-- those of the timing; where it adds a row, none stands under that row's key; and the register refuses only where the intersection is there
pub record TakesRecord (is_there : Bool) (tables : Content) (c : RecordCommand) (t : Taken) (rows : List RowChange) : Type 0 where
  pub told : (r : Register) → RegisterStandsSound tables r → t ≡ taken_by is_there (line_at r c)
  pub stand : (r : Register) → RegisterStandsSound tables r → RegisterStandsSound (changed_by tables rows) (register_with t r c)
  pub leaves : LeavesTiming tables rows
  pub news : AddNew tables rows
  pub there : (why : CabinetRefusal) → t ≡ Refused (refusal.Cabinet why) → is_there ≡ true

-- whatever the tables hold, a record writes of each table no more rows than it may, and none where it is refused; and a refusal is one of the record's table
pub record WritesRecord (c : RecordCommand) (t : Taken) (rows : List RowChange) : Type 0 where
  pub writes : (table : Table) → writes_in table rows ≤ most_record_writes c table
  pub refused : IsRefused (reply_taken t) → rows ≡ []
  pub named : RefusesBy (numbers_of (Record c)) (reply_taken t)

-- a record whose intersection is there is decided on what the tables hold once the pending rows are written, or a fault is reported: Damaged only where a
-- stored row that it reads is no record
abbrev pub DecidesRecord : {A : Type 0} → (is_honest : Type 0) → (stored : Content) → (pending : List RowChange) → RecordCommand
    → Result (Taken × Vec RowChange A) ShelfFault → Type 0
DecidesRecord is_honest stored pending c (Ok taken) =
    (is_honest → TakesRecord true (changed_by stored pending) c taken.0 taken.1.items) × WritesRecord c taken.0 taken.1.items
DecidesRecord is_honest stored pending c (Err fault) = fault ≡ Damaged → is_honest → MeetsRecordDamage stored c
