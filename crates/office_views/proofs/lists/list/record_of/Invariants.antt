use Rattle.std.proofs.Common.{◌≡◌, [], take, map}
use Rattle.csv.specs.Records.{fields_of, partial_of}
use Rattle.office_views.specs.Lists.{cell_text}
use Rattle.office_views.proofs.lists.list.record_of.Given as goal

-- the record of the first cells
abbrev pub invariant-loop-cell : goal.invariant-loop-cell
invariant-loop-cell l = record {
  fields : fields_of l.row ≡ map cell_text (take l.cell-index l.cells);
  whole : partial_of l.row ≡ [];
}
