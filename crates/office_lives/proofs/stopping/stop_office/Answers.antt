use Rattle.std.proofs.Common.{ap, subst, ◌∙◌}
use Rattle.std.proofs.Math.Logic.{∥∥₁_map}
use Rattle.sqlite.specs.{Files.file_state, State.HasCleanDisk}
use Rattle.office_tables.specs.SqlShelf.{IsCurrent}
use Rattle.office_lives.proofs.stopping.stop_office.Goals as goal

pub returns-clause-clean : goal.returns-clause-clean
returns-clause-clean g c clean =
    subst (λ conn. HasCleanDisk (file_state conn)) (c.into_file_conn.ensures.same ∙ ap (λ shelf. shelf.conn) c.into_shelf.ensures) (c.cut_off.ensures.clean clean)

pub returns-clause-found : goal.returns-clause-found
returns-clause-found g c clean trees those =
    ∥∥₁_map (c.cut_off.ensures.found clean trees those)
    (λ may. subst (λ conn. (file_state conn).may_leave trees) (c.into_file_conn.ensures.same ∙ ap (λ shelf. shelf.conn) c.into_shelf.ensures) may)

pub returns-clause-current : goal.returns-clause-current
returns-clause-current g c =
    subst (λ conn. IsCurrent (file_state conn)) (c.into_file_conn.ensures.same ∙ ap (λ shelf. shelf.conn) c.into_shelf.ensures) c.into_file_conn.ensures.current
