use Rattle.office_desk_timing.proofs.ListedIntersections.{all_listed}
use Rattle.office_desk.proofs.Looks.{gives_looks}
use Rattle.office_desk.proofs.office.Office.intersections.Goals as goal

pub returns : goal.returns
returns g c =
    let read = c.list_intersections.ensures in
    rw (← c.self.view_is) (gives_looks c.list_intersections.result _ _ _ _ read.reads.kept read.reads.clean_before read.lists c.map_err.ensures.cases
    (λ tables found lists. (lists, λ office stands. all_listed tables office stands _ lists)) (read.reads.read tt))
