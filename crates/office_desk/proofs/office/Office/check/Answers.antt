use Rattle.office_desk.proofs.Looks.{gives_open}
use Rattle.office_desk.proofs.office.Office.check.Goals as goal

pub returns : goal.returns
returns g c =
    let read = c.check_records.ensures in
    rw (← c.self.view_is) (gives_open c.check_records.result _ _ _ _ read.reads.kept read.reads.clean_before read.checks c.map_err.ensures.cases (λ tables checked checks. checks))
