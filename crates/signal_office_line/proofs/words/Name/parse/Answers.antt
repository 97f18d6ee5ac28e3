use Rattle.std.proofs.Common.{ℕ, Some, None, Ok, ap, ◌∙◌}
use Rattle.office_files.proofs.RecordFieldLemmas.{given_words}
use Rattle.office_files.specs.RecordReading.{words_of}
use Rattle.signal_office_line.proofs.words.Name.parse.Goals as goal

pub returns-in_err-text : goal.returns-in_err-text
returns-in_err-text g c =
    c.from_residual.ensures
    ∙ given_words {E = ℕ} g.row.MAX c.as_bytes.result.now (Ok None) c.in_err-text.ensures.accepts tt
    ∙ ap (words_of g.row.MAX) c.as_bytes.ensures.value

pub returns : goal.returns
returns g c =
    given_words {E = ℕ} g.row.MAX c.as_bytes.result.now (Ok (Some c.in_ok-text.text.now)) c.in_ok-text.ensures.accepts c.in_ok-text.ensures.keeps
    ∙ ap (words_of g.row.MAX) c.as_bytes.ensures.value
