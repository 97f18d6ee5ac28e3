-- What the values that `clap` finds for the arguments of a command state.
use Rattle.std.specs.Prelude.{ℕ, Bool, false, if◌then◌else◌, List, Option, Some, None, Result, Ok, Err, option_map, ok_or, codes, unwrap_or}
use Rattle.std.specs.Option.{option_map_or}
use Rattle.std.specs.Str.{bytes_eq}
use Rattle.std.specs.Str.Parse.{digits_value, without_leading_plus}
use Rattle.clap.specs.ValueTests.{is_unsigned_in}
use Rattle.clap.specs.Walk.{Row, Text, first_of}
use Rattle.office_files.specs.RecordReading.{day_of, words_of}
use Rattle.signal_office_line.specs.declared.job.BadWord.{BadWord}
use Rattle.signal_office_line.specs.declared.job.BadWord.TheVariants as wrong
use Rattle.signal_office_line.specs.declared.shows.Between.{Between}
use Rattle.signal_office_line.specs.declared.shows.CsvFile.{CsvFile}
use Rattle.signal_office_line.specs.declared.shows.ListForm.{ListForm}
use Rattle.signal_office_line.specs.declared.shows.ListForm.TheVariants as form
use Rattle.signal_office_line.specs.declared.job.NoJob.{NoJob}
use Rattle.signal_office_line.specs.declared.job.NoJob.TheVariants.{Unstated, Bad}
use Rattle.signal_office_line.specs.declared.job.OfficeFile.{OfficeFile}

-- what the values of a command state, or why they state nothing
abbrev pub Stated : Type 0 → Type 0
Stated A = Result A NoJob

infixl 10 ◌>>=◌
-- what the next step states by a stated value; the reason why nothing is stated stays
abbrev pub ◌>>=◌ : {A B : Type 0} → Stated A → (A → Stated B) → Stated B
Ok given >>= next = next given
Err why >>= next = Err why

-- a required value: without one nothing is stated
abbrev pub needed : {A : Type 0} → Option A → Stated A
needed given = ok_or given Unstated

-- ---- numbers and flags

-- the number that a word spells, if it is one from least to most; a plus and zeros may stand before
-- its digits
abbrev pub number_of : (least most : ℕ) → Text → Option ℕ
number_of least most word = if is_unsigned_in least most word then Some (digits_value 10 (without_leading_plus word)) else None

-- the number of a word that may be left out; a word that spells no number of the range states nothing
abbrev pub choice_of : (least most : ℕ) → Option Text → Stated (Option ℕ)
choice_of least most None = Ok None
choice_of least most (Some word) = do
  number ← needed (number_of least most word)
  Ok (Some number)

-- the number from least to most that an argument's word spells, if it is given
abbrev pub choice_at : (least most : ℕ) → Text → List Row → Stated (Option ℕ)
choice_at least most id rows = choice_of least most (first_of id rows)

-- the number from least to most that the word of a required argument spells
abbrev pub number_within : (least most : ℕ) → Text → List Row → Stated ℕ
number_within least most id rows = do
  number ← choice_at least most id rows
  needed number

-- whether a flag is given
abbrev pub flag_at : Text → List Row → Bool
flag_at id rows = option_map_or (λ word. bytes_eq word (codes "true")) (first_of id rows) false

-- ---- words

-- the word of a required argument
abbrev pub word_at : Text → List Row → Stated Text
word_at id rows = needed (first_of id rows)

-- the word of a required argument as a name of at most so many bytes; any other word is refused as the given bad word
abbrev pub name_at : BadWord → (most : ℕ) → Text → List Row → Stated Text
name_at bad most id rows = do
  word ← word_at id rows
  ok_or (words_of most word) (Bad bad)

-- the value of a word that may be left out; a word without a value is refused as the given bad word
abbrev pub any_of : {A : Type 0} → BadWord → (Text → Option A) → Option Text → Stated (Option A)
any_of bad value_of None = Ok None
any_of bad value_of (Some word) = do
  value ← ok_or (value_of word) (Bad bad)
  Ok (Some value)

-- the day that the word of a required argument spells as YYYY-MM-DD; any other word is refused as a bad day
abbrev pub day_at : Text → List Row → Stated ℕ
day_at id rows = do
  day ← any_of wrong.Day day_of (first_of id rows)
  needed day

-- `--from DAY --to DAY`: two days, both required
abbrev pub between_at : List Row → Stated Between
between_at rows = do
  from ← day_at (codes "from") rows
  to ← day_at (codes "to") rows
  Ok (record { from = from; to = to })

-- two days, if the first is given
abbrev pub any_between_of : Option Text → List Row → Stated (Option Between)
any_between_of None rows = Ok None
any_between_of (Some from) rows = do
  between ← between_at rows
  Ok (Some between)

-- `[--from DAY --to DAY]`
abbrev pub any_between_at : List Row → Stated (Option Between)
any_between_at rows = any_between_of (first_of (codes "from") rows) rows

-- a list is printed as lines; with `--csv` as CSV, and with `--headings` too below the names of its fields
abbrev pub list_form_of : (csv headings : Bool) → ListForm
list_form_of csv headings = if csv then (if headings then form.HeadedCsv else form.Csv) else form.Lines

-- how a list is printed, by these two flags
abbrev pub list_form_at : List Row → ListForm
list_form_at rows = list_form_of (flag_at (codes "csv") rows) (flag_at (codes "headings") rows)

-- the CSV file of an argument, if it is given, with `--padded`: its records may be padded, and `--explain`: each bad one is explained
abbrev pub csv_at : Text → List Row → Option CsvFile
csv_at id rows = option_map (λ path. record { path = path; padded = flag_at (codes "padded") rows; explain = flag_at (codes "explain") rows }) (first_of id rows)

-- `[--db FILE [--wait SECONDS]]`: the file of an office, if one is given, and for how many seconds, 0 to 3600, a run waits while
-- another one has it open: ten if no number is given
abbrev pub any_db_of : Option Text → List Row → Stated (Option OfficeFile)
any_db_of None rows = Ok None
any_db_of (Some path) rows = do
  wait ← choice_at 0 3_600 (codes "wait") rows
  Ok (Some (record { path = path; wait = unwrap_or wait 10 }))

-- the file of an office, if `--db` gives one
abbrev pub any_db_at : List Row → Stated (Option OfficeFile)
any_db_at rows = any_db_of (first_of (codes "db") rows) rows

-- the file of an office that `--db` gives, which is required
abbrev pub db_at : List Row → Stated OfficeFile
db_at rows = do
  db ← any_db_at rows
  needed db
