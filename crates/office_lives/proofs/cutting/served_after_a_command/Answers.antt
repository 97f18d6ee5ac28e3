use Rattle.std.proofs.Common.{refl, sym}
use Rattle.std.proofs.Math.Logic.{∥∥₁_map}
use Rattle.sqlite.specs.Files.{file_state}
use Rattle.office_tables.specs.Stored.{content_now}
use Rattle.signal_office_file.proofs.FilesLemmas.{hold_today}
use Rattle.office_lives.proofs.cutting.served_after_a_command.Goals as goal

-- what the stream found is what the stop left of the command
pub returns : goal.returns
returns g c clean =
    let two = c.in_ok-outcome.ensures.made clean in
    let again = c.in_ok-outcome.ensures.clean clean in
    let was_clean = c.stop_office-files.ensures.clean again in
    let task = c.done_with-done.ensures in
    let opened = c.in-Ok.ensures.opened (task.clean was_clean) in
    let old = content_now (file_state c.in-Ok.office.conn) in
    let may = ∥∥₁_map (c.stop_office-files.ensures.found again two.2.trees two.2.those)
    (λ m. task.stop was_clean old (λ _. refl) opened.crash two.0
    (was_clean, two.2.trees, m, sym (hold_today two.2.trees two.0 (c.stop_office-files.ensures.current.left was_clean two.2.trees m) two.2.hold))) in
    (old, two.1, opened.held, (two.0, may, (two.1, two.3, refl)), two.4)
