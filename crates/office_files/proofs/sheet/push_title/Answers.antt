use Rattle.std.proofs.Common.{append_assoc}
use Rattle.office_files.proofs.sheet.push_title.Goals as goal

pub returns : goal.returns
returns c =
    let wrote = rw (c.get-id.ensures.value, c.as_str-name.ensures.text, c.get-revision.ensures.value) at c.write.ensures.bytes in
    simp append_assoc wrote
