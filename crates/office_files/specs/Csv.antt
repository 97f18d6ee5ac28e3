-- The records of a CSV file, and the file of given records.
use Rattle.std.specs.Prelude.{ℕ, List, flat_map, true}
use Rattle.csv.specs.Reading.{records, default_config, strip_bom}
use Rattle.csv.specs.Writing.{default_writer, row_text, with_flexible}
use Rattle.csv.specs.declared.writer.WriterBuilder.{WriterBuilder}

-- the records that the crate csv reads with its default settings, except that no record is a header and records may differ in length;
-- it takes off a byte order mark first
abbrev pub csv_records : List ℕ → List (List (List ℕ))
csv_records text = records default_config (strip_bom text)

-- the default writing of the crate csv, except that records may differ in length
abbrev pub file_writer : WriterBuilder
file_writer = with_flexible default_writer true

-- the CSV file of records: one after the other, each with a line feed at its end
abbrev pub csv_text : List (List (List ℕ)) → List ℕ
csv_text records = flat_map (row_text file_writer) records
