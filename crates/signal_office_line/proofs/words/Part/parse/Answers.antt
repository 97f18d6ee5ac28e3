use Rattle.std.proofs.Common.{ℕ, Some, None, Ok, ap, ◌∙◌}
use Rattle.office_files.proofs.RecordFieldLemmas.{given_part}
use Rattle.office_files.specs.RecordReading.{part_of}
use Rattle.signal_office_line.proofs.words.Part.parse.Goals as goal

pub returns-in_err-text : goal.returns-in_err-text
returns-in_err-text c =
    c.from_residual.ensures
    ∙ given_part {E = ℕ} c.as_bytes.result.now (Ok None) c.in_err-text.ensures.accepts tt
    ∙ ap part_of c.as_bytes.ensures.value

pub returns : goal.returns
returns c =
    given_part {E = ℕ} c.as_bytes.result.now (Ok (Some c.in_ok-text.text.now)) c.in_ok-text.ensures.accepts c.in_ok-text.ensures.keeps
    ∙ ap part_of c.as_bytes.ensures.value
