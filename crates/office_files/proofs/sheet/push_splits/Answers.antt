use Rattle.std.proofs.Common.{arith, codes}
use Rattle.office_files.specs.Sheet.{split_line}
use Rattle.office_files.proofs.CellsLemmas.{section_more}
use Rattle.office_files.proofs.sheet.push_splits.Goals as goal

pub loop-row-preserved : goal.loop-row-preserved
loop-row-preserved c =
    section_more split_line c.args.rows.now c.loop-row.row-index c.row-item.result _ (codes "Splits\n    No Phase  Time  Mode Coord\n") _ _ (omega arith) c.row-item.is c.loop-row.invariant c.in_ok-push_split.ensures
