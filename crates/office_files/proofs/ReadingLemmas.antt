-- How far a file has been read, and why its reading may stop.
use Rattle.std.proofs.Common.{◌≡◌, ◌<◌, ℕ, true, false, List, Some, Option, Result, Ok, Err, Bor, refl}
use Rattle.std.specs.Prelude.{IfErr}
use Rattle.csv.specs.Reading.{Reached, Ready, ExplainsRead, RowStep, default_config, error_kind, source_of, stops_reader, strip_bom}
use Rattle.csv.specs.declared.{error.Error.Error, error.ErrorKind.ErrorKind, reader.Reader.Reader, record.ByteRecord.ByteRecord}
use Rattle.csv.specs.declared.error.ErrorKind.TheVariants as kind
use Rattle.csv.specs.declared.iter.ByteRecordsIntoIter.{ByteRecordsIntoIter}
use Rattle.csv.specs.declared.parser.State.TheVariants as st
use Rattle.csv.specs.declared.reader.Trim.TheVariants as trim

-- these rows are the first of the file's, and the iterator gives the others
pub record HasRead (text : List ℕ) (rows : List (List (List ℕ))) (iterator : ByteRecordsIntoIter (Bor (List ℕ))) : Type 0 where
  pub untrimmed : iterator.rdr.trim ≡ trim.None
  pub flexible : iterator.rdr.flexible ≡ true
  pub config : iterator.rdr.config ≡ default_config
  pub ready : Ready iterator.rdr
  pub turns : 0 < iterator.left
  pub rest : List ℕ
  pub source : source_of (λ (s : Bor (List ℕ)). Some s.now) iterator.rdr ≡ Some rest
  pub reached : Reached default_config st.StartRecord (strip_bom text) rows iterator.rdr.state rest

-- where records of bytes may differ in length, only the reader underneath or memory fails
pub stops_reader-flexible : {R : Type 0} (remaining : R → Option (List ℕ)) (old new : Reader R) (why : ErrorKind) → old.flexible ≡ true → ExplainsRead remaining old new false why → stops_reader why ≡ true
stops_reader-flexible remaining old new (kind.Io e) flexible told = refl
stops_reader-flexible remaining old new kind.OutOfMemory flexible told = refl
stops_reader-flexible remaining old new (kind.UnequalLengths pos expected len) flexible told = let no = told.0 in cc
stops_reader-flexible remaining old new (kind.Utf8 pos err) flexible told = let no = told.0 in cc
stops_reader-flexible remaining old new _ flexible told = absurd told

-- a reader that gave no record was stopped
pub given_stops : {R : Type 0} (remaining : R → Option (List ℕ)) (old new : Reader R) (left : ℕ) (read : Result ByteRecord Error) → old.flexible ≡ true → RowStep remaining old new left (Some read) → IfErr read (λ e. stops_reader (error_kind e) ≡ true)
given_stops remaining old new left (Ok found) flexible step = tt
given_stops remaining old new left (Err e) flexible step = stops_reader-flexible remaining old new e.kind flexible step
