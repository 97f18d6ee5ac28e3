use Rattle.sqlite.specs.Files.{file_state}
use Rattle.office_tables.specs.Stored.{content_now}
use Rattle.signal_office_file.proofs.serving.serve_file.Goals as goal

pub returns-in-Ok-clause-clean : goal.returns-in-Ok-clause-clean
returns-in-Ok-clause-clean g c clean = c.in-Ok.ensures.clean (c.serve_over.ensures.clean clean)

-- what was opened is what the files held, and so is what a crash may leave of it
pub returns-in-Ok-clause-did : goal.returns-in-Ok-clause-did
returns-in-Ok-clause-did g c clean =
    let it = c.serve_over.ensures in
    let opened = c.in-Ok.ensures.opened (it.clean clean) in
    (content_now (file_state c.in-Ok.office.conn), opened.held, it.did clean _ opened)
