use Rattle.std.proofs.Common.{Ok, refl}
use Rattle.sqlite.specs.Files.{file_state}
use Rattle.office_tables.specs.{Stored.content_now}
use Rattle.signal_office_file.specs.Copying.{PoursAs}
use Rattle.signal_office_file.proofs.CopyingLemmas.{poured_clean, poured_copy, poured_kept}
use Rattle.signal_office_file.proofs.FilesLemmas.{closing_told, unclosed_leaves}
use Rattle.signal_office_file.proofs.copying.copied_in.Goals as goal

pub returns-in-Err : goal.returns-in-Err
returns-in-Err g c = (refl, c.in-Err.ensures.refused)

-- closed on a clean disk, the files hold what they held, and so do the bytes of the database file
pub returns-in-Ok-close_office : goal.returns-in-Ok-close_office
returns-in-Ok-close_office g c =
    let disk = g.D.Disk in
    let files = c.in-Ok-close_office.files in
    let it = c.copy_all-done.ensures in
    let back = record files { db = c.copy_all-done.new.file } in
    let poured : PoursAs disk files (g.W.Sink.told c.args.out.now) (g.W.Sink.told c.copy_all-done.new.out) c.copy_all-done.result back =
    record { log = refl; read = it.read; copied = it.copied; fault = it.fault } in
    let tables = content_now (file_state c.in-Ok.office.conn) in
    let closed = c.in-Ok-close_office.ensures in
    record {
      begun = tt;
      clean = λ clean. c.in-Ok.ensures.clean (closed.copied (poured_clean disk files back _ _ _ poured clean)).was_clean;
      made = λ clean.
          let before = poured_clean disk files back _ _ _ poured clean in
          let kept = closed.kept before in
          let opened = c.in-Ok.ensures.opened (closed.copied before).was_clean in
          (tables, tables, opened.held, (refl, poured_copy disk files back _ _ _ poured clean tables kept), poured_kept disk files back _ _ _ poured tables kept);
    }

-- a stop leaves no more of the database than of the connection, which holds what the files held
pub returns-in-Err-close_office : goal.returns-in-Err-close_office
returns-in-Err-close_office g c =
    let back = c.in-Err-close_office.ensures in
    let conn = c.in-Ok.office.conn in (
      Ok tt,
      tt,
      closing_told conn c.in-Err-close_office.fault c.in-Err-close_office.left back.0,
      λ clean.
          let left = unclosed_leaves conn c.in-Err-close_office.fault c.in-Err-close_office.left back clean in
          let opened = c.in-Ok.ensures.opened left.1 in
          (content_now (file_state conn), opened.held, (left.0, back.1, λ found may. opened.crash found (left.2 found may))),
    )
