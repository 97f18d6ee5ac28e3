use Rattle.std.proofs.Common.{refl}
use Rattle.sqlite.specs.Files.{file_state}
use Rattle.office_tables.specs.{Calls.IsHonest, Stored.content_now}
use Rattle.signal_office_file.proofs.FilesLemmas.{closing_told, first_told, unclosed_leaves}
use Rattle.signal_office_file.proofs.work.done_in.Goals as goal

pub returns-in-Err : goal.returns-in-Err
returns-in-Err g c = ((refl, refl), c.in-Err.ensures.refused)

-- closed on a clean disk, the database was open to the end
pub returns-in-Ok-close_office : goal.returns-in-Ok-close_office
returns-in-Ok-close_office g c =
    let closed = c.in-Ok-close_office.ensures in
    let task = c.done_with-done.ensures in
    let conn = c.done_with-done.new.office.conn in
    record {
      begun = tt;
      clean = λ clean.
          let honest : IsHonest (file_state conn) = ((closed.copied clean).was_clean, (closed.copied clean).was_open) in
          c.in-Ok.ensures.clean (task.honest honest).0;
      made = λ clean.
          let honest : IsHonest (file_state conn) = ((closed.copied clean).was_clean, (closed.copied clean).was_open) in
          let opened = c.in-Ok.ensures.opened (task.honest honest).0 in
          (content_now (file_state c.in-Ok.office.conn), content_now (file_state conn), opened.held, task.does honest.0 honest, closed.kept clean);
    }

-- a stop leaves no more of the database than of the connection, and of that what it leaves of the task
pub returns-in-Err-close_office : goal.returns-in-Err-close_office
returns-in-Err-close_office g c =
    let back = c.in-Err-close_office.ensures in
    let conn = c.done_with-done.new.office.conn in (
      c.done_with-done.result,
      tt,
      first_told (λ why. why) c.done_with-done.result c.in-Err-close_office.fault c.first_fault.result
          (closing_told conn c.in-Err-close_office.fault c.in-Err-close_office.left back.0) c.first_fault.ensures,
      λ clean.
          let task = c.done_with-done.ensures in
          let left = unclosed_leaves conn c.in-Err-close_office.fault c.in-Err-close_office.left back clean in
          let old = content_now (file_state c.in-Ok.office.conn) in
          let opened = c.in-Ok.ensures.opened (task.clean left.1) in
          (old, opened.held, (left.0, back.1, λ found may. task.stop left.1 old (λ _. refl) opened.crash found (left.2 found may))),
    )
