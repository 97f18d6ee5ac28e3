use Rattle.std.proofs.Common.{refl}
use Rattle.office_tables.proofs.sql_shelf.SqlShelfShelf.intersection.Goals as goal

pub find-requires-clause-key : goal.find-requires-clause-key
find-requires-clause-key g c = rw c.params-to_sql.ensures refl
