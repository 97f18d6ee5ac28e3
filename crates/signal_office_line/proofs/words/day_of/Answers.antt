use Rattle.std.proofs.Common.{ap, ◌∙◌}
use Rattle.office_files.proofs.RecordFieldLemmas.{given_day}
use Rattle.office_files.specs.RecordReading.{day_of}
use Rattle.signal_office_line.proofs.words.day_of.Goals as goal

pub returns : goal.returns
returns c =
    given_day c.as_bytes.result.now c.read_day.result c.read_day.ensures.spelt c.read_day.ensures.accepted
    ∙ ap day_of c.as_bytes.ensures.value
