use Rattle.std.proofs.Common.{rules, refl}
use Rattle.office_tables_shelf.specs.CabinetRows.{part_key, part_columns}
use Rattle.office_tables_sql.proofs.change.change_row.Goals as goal

pub returns-in-PutPart : goal.returns-in-PutPart
returns-in-PutPart g c = rw c.in-PutPart.is (c.put_values.ensures (part_key c.in-PutPart.code) (part_columns c.in-PutPart.hand) refl (search rules))
