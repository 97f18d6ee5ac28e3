-- How an office takes a record of the register, after those before it.
use Rattle.std.specs.Prelude.{Bool, List}
use Rattle.cabinet_core.specs.{Step.line_at, declared.command.RecordCommand.RecordCommand}
use Rattle.office_machine.specs.{Office.Office, Step.cabinet_of, Step.is_known}
use Rattle.office_tables_shelf.specs.{Change.changed_by, Content.Content, declared.rows.RowChange.RowChange}
use Rattle.office_desk_cabinet.specs.{Decides.TakesRecord, Decides.register_with, Decides.taken_by, declared.deciding.Taken.Taken}
use Rattle.office_desk.specs.Recording.{TellsIntersection}

-- how an office takes a record: as a new one, as one that is there already, or not, with the refusal
abbrev pub taken_in : Office → RecordCommand → Taken
taken_in office c = taken_by (is_known office (cabinet_of c)) (line_at office.register c)

-- the office after a record, by how it was taken
abbrev pub office_with : Taken → Office → RecordCommand → Office
office_with t office c = record office { register = register_with t office.register c }

-- a record is taken, with these rows, by whether its intersection is there and by what the tables hold once the pending rows are written
abbrev pub TakesNext : Content → (pending : List RowChange) → RecordCommand → Taken → (rows : List RowChange) → Type 0
TakesNext stored pending c t rows =
    (is_there : Bool) × TellsIntersection stored (cabinet_of c) is_there × TakesRecord is_there (changed_by stored pending) c t rows
