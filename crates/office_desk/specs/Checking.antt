-- Records of the register that are tried in turn, and none of them stored: what would come of each, and what the register holds where one is refused.
use Rattle.std.specs.Prelude.{◌≡◌, List, [], ◌∷◌, Option, Some, None}
use Rattle.cabinet_core.specs.{Cabinet.on_hand, Register.Register, declared.command.RecordCommand.RecordCommand, declared.refusal.CabinetRefusal.CabinetRefusal}
use Rattle.office_desk_cabinet.specs.{Registers.held_in, declared.deciding.Taken.Taken}
use Rattle.office_desk.specs.{Taking.TakesNext, Taking.office_with, Taking.taken_in, declared.checking.Checked.Checked, declared.there.There.There, StandFor.StandForSound}
use Rattle.office_machine.specs.{Office.Office, declared.refusal.Refusal.TheVariants.Cabinet as OfRegister}
use Rattle.office_tables_decisions.specs.Damage.{MeetsRecordDamage}
use Rattle.office_tables_shelf.specs.{Change.changed_by, Content.Content, Places.Place, Places.RecordAt, RegisterStands.RegisterStandsSound, declared.rows.RowChange.RowChange}
use Rattle.cabinet_core.specs.declared.command.RecordCommand.TheVariants as asks
use Rattle.cabinet_core.specs.declared.refusal.CabinetRefusal.TheVariants as refusal
use Rattle.office_desk.specs.declared.checking.Checked.TheVariants as checked
use Rattle.office_desk_cabinet.specs.declared.deciding.Taken.TheVariants as taken
use Rattle.office_desk.specs.declared.there.There.TheVariants as there
use Rattle.office_tables_shelf.specs.Places as place

-- ---- what is there

-- the place of the register whose content is told with a refused record: that of its own key, for an inspection, an opening, a used line that differs or a
-- delivery that differs; the part on hand, where stock is short or any other delivery is refused; else the order that it is of
abbrev pub place_told : RecordCommand → CabinetRefusal → Place
place_told (asks.Inspect id asked) why = place.Inspection id asked.number
place_told (asks.OpenOrder id asked) why = place.Order id asked.number
place_told (asks.UsePart id asked) refusal.LineDiffers = place.Line id asked.order asked.line
place_told (asks.UsePart id asked) refusal.NoStock = place.Part asked.part
place_told (asks.UsePart id asked) why = place.Order id asked.order
place_told (asks.CloseOrder id number asked) why = place.Order id number
place_told (asks.Receive asked) refusal.DeliveryDiffers = place.Delivery asked.part asked.number
place_told (asks.Receive asked) why = place.Part asked.part

-- how what was found at a place is told: the record, or nothing; of a part, how many pieces are on hand, 0 where the register has none
abbrev pub told_there : (at : Place) → Option (RecordAt at) → There
told_there (place.Inspection id n) None = there.Nothing
told_there (place.Inspection id n) (Some it) = there.Inspection it
told_there (place.Order id n) None = there.Nothing
told_there (place.Order id n) (Some it) = there.Order it
told_there (place.Line id order line) None = there.Nothing
told_there (place.Line id order line) (Some it) = there.UsedLine it
told_there (place.Part code) hand = there.OnHand code (on_hand hand)
told_there (place.Delivery code n) None = there.Nothing
told_there (place.Delivery code n) (Some it) = there.Delivery it

-- what is told of a register with a record that was taken so: what it holds at the place of its own refusal; else nothing, as where the intersection is not there
abbrev pub there_in : Register → RecordCommand → Taken → There
there_in r c (taken.Refused (OfRegister why)) = told_there (place_told c why) (held_in r (place_told c why))
there_in r c t = there.Nothing

-- this tells what is there, in every sound register that the tables stand for once the pending rows are written
abbrev pub TellsThere : Content → (pending : List RowChange) → RecordCommand → Taken → There → Type 0
TellsThere stored pending c t it = (r : Register) → RegisterStandsSound (changed_by stored pending) r → it ≡ there_in r c t

-- the register refuses the record, and a row that it reads is no record
abbrev pub MeetsThere : Content → RecordCommand → Taken → Type 0
MeetsThere tables c (taken.Refused (OfRegister why)) = MeetsRecordDamage tables c
MeetsThere tables c t = ⊥

-- ---- records in turn

-- what would come of a record, as it is told: a refusal comes with what is there
abbrev pub checked_as : Taken → There → Checked
checked_as taken.Added it = checked.Added
checked_as taken.Same it = checked.Same
checked_as (taken.Refused why) it = checked.Refused why it

-- what would come of records in turn, each on the office as those before it leave it; one that is refused leaves it as it was
abbrev pub checked_from : Office → List RecordCommand → List Checked
checked_from office [] = []
checked_from office (c ∷ cs) =
    let t = taken_in office c in
    checked_as t (there_in office.register c t) ∷ checked_from (office_with t office c) cs

-- the list tells what would come of each record, whichever sound office the tables stand for
abbrev pub Checks : Content → List RecordCommand → List Checked → Type 0
Checks tables records list = (office : Office) → StandForSound tables office → list ≡ checked_from office records

-- a record is taken so after the pending rows, and what is told of it is that
abbrev pub ChecksRecord : Content → (pending : List RowChange) → RecordCommand → Checked → (rows : List RowChange) → Type 0
ChecksRecord stored pending c it rows =
    (t : Taken) × (at : There) × TakesNext stored pending c t rows × TellsThere stored pending c t at × (it ≡ checked_as t at)
