use Rattle.office_desk.proofs.{Looks.gives_looks, Looks.shelf_reports, OverdueRows.first_overdue}
use Rattle.office_desk.proofs.office.Office.overdue_first.Goals as goal

pub returns : goal.returns
returns g c =
    let read = c.overdue_rows.ensures in
    rw (← c.self.view_is) (gives_looks c.overdue_rows.result _ _ _ _ read.read.kept read.read.clean_before (shelf_reports _ _ _ c.overdue_rows.result read.rows read.damaged) c.map_err.ensures.cases
    (λ tables found lists office stands. first_overdue tables office c.args.day c.args.most _ stands lists) read.read.told)
