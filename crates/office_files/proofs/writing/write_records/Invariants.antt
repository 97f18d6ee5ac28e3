use Rattle.std.proofs.Common.{◌≡◌, false, Some, take, map, All}
use Rattle.csv.specs.Writing.{writer_setup, fields_written, has_written, text_written}
use Rattle.office_files.specs.Csv.{csv_text, file_writer}
use Rattle.office_files.proofs.writing.write_records.Given as goal

-- the records of the first values are written
abbrev pub invariant-loop-value : goal.invariant-loop-value
invariant-loop-value g l = record {
  setup : writer_setup l.writer ≡ file_writer;
  ended : fields_written l.writer ≡ 0;
  clean : has_written l.writer ≡ false;
  text : text_written (λ v. Some v.items) l.writer ≡ Some (csv_text (map g.T.CsvRecord.spelling (take l.value-index l.values)));
  within : All g.T.CsvRecord.IsWithin (take l.value-index l.values);
}
