use Rattle.office_files.proofs.CellsLemmas.{short_column_of, tenths_column}
use Rattle.office_files.proofs.cells.push_tenths.Goals as goal

pub returns : goal.returns
returns c = rw (c.laid_out.ensures, short_column_of, tenths_column) at c.write.ensures.bytes
