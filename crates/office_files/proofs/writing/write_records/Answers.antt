use Rattle.std.proofs.Common.{◌≢◌, ◌∙◌, arith, subst}
use Rattle.std.proofs.lemmas.List.Elements.{All-more}
use Rattle.csv.specs.Writing.{writer_setup}
use Rattle.csv.specs.declared.writer.QuoteStyle.TheVariants as style
use Rattle.office_files.proofs.WritingLemmas.{csv_text_more, written_more}
use Rattle.office_files.proofs.writing.write_records.Goals as goal

pub loop-value-preserved : goal.loop-value-preserved
loop-value-preserved g c =
    let before = c.loop-value.invariant in
    let wrote = c.in-Ok.ensures in
    let quoting : (writer_setup c.loop-value.writer).style ≢ style.NonNumeric = λ e. let bad = rw before.setup at e in cc in
    let grown = wrote.bytes before.ended before.clean quoting in
    let added = rw (before.setup, c.in_ok-record.ensures.fields) at grown in
    let more = csv_text_more g.T.CsvRecord.spelling c.args.values.now c.loop-value.value-index c.value-item.result (omega arith) c.value-item.is in
    record {
      setup = wrote.setup ∙ before.setup;
      ended = wrote.ended;
      clean = wrote.clean;
      text = written_more _ _ _ _ _ before.text added more;
      within = All-more g.T.CsvRecord.IsWithin c.args.values.now c.loop-value.value-index c.value-item.result (omega arith) before.within (subst g.T.CsvRecord.IsWithin c.value-item.is c.in_ok-record.ensures.within);
    }
