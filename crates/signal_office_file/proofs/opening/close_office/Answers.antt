use Rattle.std.proofs.Common.{ap, subst, ◌∙◌}
use Rattle.sqlite_store.specs.Laws.{stays_at}
use Rattle.signal_office_file.specs.Left.{ClosesOffice}
use Rattle.signal_office_file.proofs.FilesLemmas.{closes_office}
use Rattle.signal_office_file.proofs.opening.close_office.Goals as goal

pub returns : goal.returns
returns g c =
    let conn = c.into_file_conn.result in
    subst (λ conn. ClosesOffice conn c.close_file.result) (c.into_file_conn.ensures.same ∙ ap (λ shelf. shelf.conn) c.into_shelf.ensures)
    (closes_office conn c.close_file.result c.into_file_conn.ensures.current (stays_at conn.store g.met.D.Disk.seen_may_stay) c.close_file.ensures)
