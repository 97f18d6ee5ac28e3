use Rattle.std.proofs.Common.{arith, codes}
use Rattle.office_files.specs.Sheet.{phase_line}
use Rattle.office_files.proofs.CellsLemmas.{section_more}
use Rattle.office_files.proofs.sheet.push_phases.Goals as goal

pub loop-row-preserved : goal.loop-row-preserved
loop-row-preserved c =
    section_more phase_line c.args.rows.now c.loop-row.row-index c.row-item.result _ (codes "Phases\n    No  Ring   Min  Pass   Max   Yel   Red  Walk Clear Width Setbk Short  Lead Mates\n") _ _ (omega arith) c.row-item.is c.loop-row.invariant c.in_ok-push_phase.ensures
