-- The job that a command line states, by the command and the values that `clap` finds in it. In the usages
-- `--db FILE` stands for `--db FILE [--wait SECONDS]`.
use Rattle.std.specs.Prelude.{ℕ, Bool, false, if◌then◌else◌, List, [], ◌∷◌, Option, Some, None, Ok, Err, option_map, codes, find, unwrap_or}
use Rattle.std.specs.Option.{option_map_or}
use Rattle.std.specs.Str.{bytes_eq}
use Rattle.clap.specs.Walk.{Row, Text, first_of}
use Rattle.office_files.specs.RecordReading.{day_of, part_of}
use Rattle.signal_office_line.specs.Values.{Stated, ◌>>=◌, needed, choice_at, number_within, flag_at, word_at, name_at, any_of, any_between_at, between_at, list_form_at, day_at, csv_at, any_db_at, db_at}
use Rattle.signal_office_line.specs.declared.job.BadWord.TheVariants as wrong
use Rattle.signal_office_line.specs.declared.shows.CsvFile.{CsvFile}
use Rattle.signal_office_line.specs.declared.job.Folder.TheVariants as folder
use Rattle.signal_office_line.specs.declared.job.Job.{Job}
use Rattle.signal_office_line.specs.declared.job.Job.TheVariants as job
use Rattle.signal_office_line.specs.declared.job.NoJob.TheVariants.{Unstated}
use Rattle.signal_office_line.specs.declared.job.OfficeFile.{OfficeFile}
use Rattle.signal_office_line.specs.declared.job.Request.{Request}
use Rattle.signal_office_line.specs.declared.job.Request.TheVariants as request
use Rattle.signal_office_line.specs.declared.shows.PlanShown.TheVariants as plan
use Rattle.signal_office_line.specs.declared.shows.Shown.{Shown}
use Rattle.signal_office_line.specs.declared.shows.Shown.TheVariants as shown
use Rattle.signal_office_line.specs.declared.shows.View.{View}
use Rattle.signal_office_line.specs.declared.shows.View.TheVariants as view

-- ---- requests of the office of a file

-- what `stock` shows: the whole stock, or the named part
abbrev pub stock_or_part : Option Text → List Row → Shown
stock_or_part None rows = shown.Stock (list_form_at rows)
stock_or_part (Some part) rows = shown.Part part

-- `stock --db FILE [--csv [--headings]]`, or `stock --db FILE PART`
unfoldable pub stock_at : List Row → Stated Request
stock_at rows = do
  part ← any_of wrong.Part part_of (first_of (codes "PART") rows)
  Ok (request.Show (stock_or_part part rows))

-- `orders --db FILE [--by-age DAY] [--csv [--headings]] [ID]`
unfoldable pub orders_at : List Row → Stated Request
orders_at rows = do
  id ← choice_at 1 9_999 (codes "ID") rows
  day ← any_of wrong.Day day_of (first_of (codes "by-age") rows)
  Ok (request.Show (shown.Orders id day (list_form_at rows)))

-- `used --db FILE [--from DAY --to DAY] [--csv [--headings]] [PART]`
unfoldable pub used_at : List Row → Stated Request
used_at rows = do
  part ← any_of wrong.Part part_of (first_of (codes "PART") rows)
  between ← any_between_at rows
  Ok (request.Show (shown.Used part between (list_form_at rows)))

-- `work --db FILE --from DAY --to DAY [--csv [--headings]]`
unfoldable pub work_at : List Row → Stated Request
work_at rows = do
  between ← between_at rows
  Ok (request.Show (shown.Work between (list_form_at rows)))

-- `add --db FILE ID INTERVAL NAME`: an intersection, 1 to 9999, its days from one inspection to the
-- next, 1 to 3650, and its name of 1 to 120 bytes
unfoldable pub add_at : List Row → Stated Request
add_at rows = do
  id ← number_within 1 9_999 (codes "ID") rows
  interval ← number_within 1 3_650 (codes "INTERVAL") rows
  name ← name_at wrong.Name 120 (codes "NAME") rows
  Ok (request.Add id interval name)

-- `import --db FILE [--check] [--until DAY] [--explain] [--padded] CSV`
unfoldable pub import_at : List Row → Stated Request
import_at rows = do
  csv ← needed (csv_at (codes "CSV") rows)
  until ← any_of wrong.Day day_of (first_of (codes "until") rows)
  Ok (request.Import csv until (flag_at (codes "check") rows))

-- what is exported: the committed timing set, but with `--draft` the draft, with `--cabinet` the cabinet
abbrev pub view_of : (draft cabinet : Bool) → View
view_of draft cabinet = if draft then view.Draft else (if cabinet then view.Cabinet else view.Timing)

-- `export --db FILE [--draft | --cabinet] ID`, or `export --db FILE --all DIR`
abbrev pub export_of : (all : Option Text) → List Row → Stated Request
export_of (Some dir) rows = Ok (request.Fill dir folder.Records)
export_of None rows = do
  id ← number_within 1 9_999 (codes "ID") rows
  Ok (request.Show (shown.Export id (view_of (flag_at (codes "draft") rows) (flag_at (codes "cabinet") rows))))

-- what `export` asks for, by whether `--all` is given
unfoldable pub export_at : List Row → Stated Request
export_at rows = export_of (first_of (codes "all") rows) rows

-- `pages --db FILE [--day DAY] DIR`
unfoldable pub pages_at : List Row → Stated Request
pages_at rows = do
  dir ← word_at (codes "DIR") rows
  day ← any_of wrong.Day day_of (first_of (codes "day") rows)
  Ok (request.Fill dir (folder.Pages day))

-- `edit --db FILE --clerk NAME [--replace] [--commit] [--revision N] [--explain] [--advise] [--padded] ID CSV`, or
-- `edit --db FILE --clerk NAME --commit [--revision N] [--explain] [--advise] ID`: a revision from 0 to 999,999
unfoldable pub edit_at : List Row → Stated Request
edit_at rows = do
  id ← number_within 1 9_999 (codes "ID") rows
  clerk ← name_at wrong.Clerk 40 (codes "clerk") rows
  revision ← choice_at 0 999_999 (codes "revision") rows
  Ok (request.Edit (record {
    id = id;
    clerk = clerk;
    csv = csv_at (codes "CSV") rows;
    replace = flag_at (codes "replace") rows;
    commit = flag_at (codes "commit") rows;
    revision = revision;
    explain = flag_at (codes "explain") rows;
    advise = flag_at (codes "advise") rows;
  }))

-- what a list has under the name of a command
abbrev pub under : {A : Type 0} → Text → List (Text × A) → Option A
under name among = option_map (λ c. c.1) (find (λ c. bytes_eq name c.0) among)

-- the request to show something of the intersection in the argument ID
abbrev pub shown_at : (ℕ → Shown) → List Row → Stated Request
shown_at show rows = do
  id ← number_within 1 9_999 (codes "ID") rows
  Ok (request.Show (show id))

-- the commands that ask something of the office of a file
abbrev pub requests : List (Text × (List Row → Stated Request))
requests =
    -- `list --db FILE [--csv [--headings]]`
    (codes "list", λ rows. Ok (request.Show (shown.List (list_form_at rows))))
    -- `cabinet --db FILE ID`
    ∷ (codes "cabinet", shown_at shown.Cabinet)
    -- `abandon --db FILE --clerk NAME ID`
    ∷ (codes "abandon", λ rows. number_within 1 9_999 (codes "ID") rows >>= (λ id. name_at wrong.Clerk 40 (codes "clerk") rows >>= (λ clerk. Ok (request.Abandon id clerk))))
    ∷ (codes "stock", stock_at) ∷ (codes "orders", orders_at) ∷ (codes "used", used_at) ∷ (codes "work", work_at)
    ∷ (codes "add", add_at) ∷ (codes "import", import_at)
    ∷ (codes "export", export_at) ∷ (codes "pages", pages_at) ∷ (codes "edit", edit_at) ∷ []

-- what the named command asks of the office of a file; another name states nothing
unfoldable pub request_at : Text → List Row → Stated Request
request_at name rows = option_map_or (λ what. what rows) (under name requests) (Err Unstated)

-- the job to do a request in the office of the file that `--db` gives; a missing file is reported before a missing request
abbrev pub office_of : Stated Request → List Row → Stated Job
office_of asked rows = do
  db ← db_at rows
  it ← asked
  Ok (job.Office db it)

-- ---- jobs

-- `serve --port N [--count K] [--db FILE]`: a port, 1 to 65535, and how many connections are
-- served, 1 to 1,000,000; without K the most
unfoldable pub serve_at : List Row → Stated Job
serve_at rows = do
  port ← number_within 1 65_535 (codes "port") rows
  count ← choice_at 1 1_000_000 (codes "count") rows
  db ← any_db_at rows
  Ok (job.Serve port (unwrap_or count 1_000_000) db)

-- `sheet --db FILE ID`
abbrev pub sheet_at : List Row → Stated Job
sheet_at rows = do
  db ← db_at rows
  id ← number_within 1 9_999 (codes "ID") rows
  Ok (job.Sheet db id)

-- `overdue --db FILE [--first N] [--csv [--headings]] DAY`, N from 1 to 9999; without N all are listed
unfoldable pub overdue_at : List Row → Stated Job
overdue_at rows = do
  db ← db_at rows
  first ← choice_at 1 9_999 (codes "first") rows
  day ← day_at (codes "DAY") rows
  Ok (job.Overdue db day (unwrap_or first 9_999) (list_form_at rows))

-- `verify-file [--explain] [--advise] [--padded] CSV`
abbrev pub verify_file_at : List Row → Stated Job
verify_file_at rows = do
  csv ← needed (csv_at (codes "CSV") rows)
  Ok (job.VerifyFile csv (flag_at (codes "explain") rows) (flag_at (codes "advise") rows))

-- what an intersection's committed plan is compared with: its draft, or the plan of a file
abbrev pub comparison_of : ℕ → Option CsvFile → (csv : Bool) → Shown
comparison_of id None csv = shown.CompareDraft id csv
comparison_of id (Some other) csv = shown.CompareRunning id other csv

-- `compare [--csv] [--explain] [--padded] PLAN OTHER`, or `compare --db FILE [--csv] [--explain] [--padded] ID [OTHER]`
abbrev pub compare_of : Option OfficeFile → List Row → Stated Job
compare_of None rows = do
  plan ← needed (csv_at (codes "PLAN") rows)
  other ← needed (csv_at (codes "OTHER") rows)
  Ok (job.CompareFiles plan other (flag_at (codes "csv") rows))
compare_of (Some db) rows = do
  id ← number_within 1 9_999 (codes "PLAN") rows
  Ok (job.Office db (request.Show (comparison_of id (csv_at (codes "OTHER") rows) (flag_at (codes "csv") rows))))

-- what `compare` asks for, by whether `--db` is given
unfoldable pub compare_at : List Row → Stated Job
compare_at rows = do
  db ← any_db_at rows
  compare_of db rows

-- `diagram --db FILE ID PATTERN`, or `diagram --file CSV [--padded] PATTERN`, a pattern from 1 to 48, which with `--file` is in the
-- argument ID
abbrev pub diagram_of : Option CsvFile → List Row → Stated Job
diagram_of (Some file) rows = do
  pattern ← number_within 1 48 (codes "ID") rows
  Ok (job.ShowPlan file (plan.Diagram pattern))
diagram_of None rows = do
  db ← db_at rows
  id ← number_within 1 9_999 (codes "ID") rows
  pattern ← number_within 1 48 (codes "PATTERN") rows
  Ok (job.Office db (request.Show (shown.Diagram id pattern)))

-- what `diagram` asks for, by whether `--file` is given
unfoldable pub diagram_at : List Row → Stated Job
diagram_at rows = diagram_of (csv_at (codes "file") rows) rows

-- `page --db FILE ID`, or `page --file CSV [--padded]`
abbrev pub page_of : Option CsvFile → List Row → Stated Job
page_of (Some file) rows = Ok (job.ShowPlan file plan.Page)
page_of None rows = office_of (shown_at (λ id. shown.Page id false) rows) rows

-- what `page` asks for, by whether `--file` is given
unfoldable pub page_at : List Row → Stated Job
page_at rows = page_of (csv_at (codes "file") rows) rows

-- the commands that may do without the office of a file, or that take its file as a whole
abbrev pub jobs : List (Text × (List Row → Stated Job))
jobs =
    -- `batch [--db FILE]`
    (codes "batch", λ rows. any_db_at rows >>= (λ db. Ok (job.Batch db)))
    -- `migrate --db FILE`
    ∷ (codes "migrate", λ rows. db_at rows >>= (λ db. Ok (job.Migrate db)))
    -- `backup --db FILE [--force] TO`
    ∷ (codes "backup", λ rows. db_at rows >>= (λ db. word_at (codes "TO") rows >>= (λ to. Ok (job.Backup db to (flag_at (codes "force") rows)))))
    ∷ (codes "verify-file", verify_file_at) ∷ (codes "sheet", sheet_at) ∷ (codes "overdue", overdue_at)
    ∷ (codes "serve", serve_at) ∷ (codes "compare", compare_at) ∷ (codes "diagram", diagram_at) ∷ (codes "page", page_at) ∷ []

-- the job that the named command states by its values, or why they state none; a name that is not among `jobs` is one of `requests`, or
-- states nothing
abbrev pub job_at : Text → List Row → Stated Job
job_at name rows = option_map_or (λ what. what rows) (under name jobs) (office_of (request_at name rows) rows)
