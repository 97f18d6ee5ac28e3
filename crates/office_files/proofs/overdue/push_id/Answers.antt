use Rattle.office_files.proofs.CellsLemmas.{short_column_of}
use Rattle.office_files.proofs.overdue.push_id.Goals as goal

pub returns : goal.returns
returns c = rw (c.laid_out.ensures, short_column_of, c.get-id.ensures.value) at c.write.ensures.bytes
