-- The command that a request asks, or the first of its faults, in this order: no route, another
-- method, a field of the path from the left, no JSON object, a key of the body by name, a bad row.
use Rattle.std.specs.Prelude.{ℕ, List, Result, Ok, Err, bytes_eq, if◌then◌else◌}
use Rattle.office_machine.specs.declared.command.Command.{Command}
use Rattle.office_machine.specs.declared.command.Command.TheVariants as command
use Rattle.office_http_requests.specs.declared.command.Asked.{Asked}
use Rattle.office_http_requests.specs.declared.fault.AskFault.{AskFault}
use Rattle.office_http_requests.specs.declared.fault.AskFault.TheVariants.{Method}
use Rattle.office_http_requests.specs.declared.field.Field.TheVariants.{Clerk, Name}
use Rattle.office_http_requests.specs.declared.form.Form.TheVariants.{Json, Csv}
use Rattle.office_http_requests.specs.declared.route.Endpoint.{Endpoint}
use Rattle.office_http_requests.specs.declared.route.Endpoint.TheVariants.{AddIntersection, State, Timing, TimingCsv, Draft, Begin, Edit, EditCsv, Verify, Check, Commit, Reopen, Abandon, Record, Import, Cabinet, CabinetCsv, OpenOrders, Stock, Overdue}
use Rattle.office_http_requests.specs.FaultsInOrder.{◌>>=◌, or_no_route}
use Rattle.office_http_requests.specs.Bodies.{body_of, id_in, interval_in, words_in}
use Rattle.office_http_requests.specs.Paths.{day_at, id_at}
use Rattle.office_http_requests.specs.CsvBodies.{csv_changes_in, csv_records_in}
use Rattle.office_http_requests.specs.Recording.{record_asked}
use Rattle.office_http_requests.specs.Routes.{endpoint_of, method_of}
use Rattle.office_http_requests.specs.Rows.{changes_in}

-- a command whose answer is JSON
abbrev pub asked_in_json : Command → Asked
asked_in_json command = record { command = command; form = Json }

-- a command whose answer is CSV, if its reply has that form
abbrev pub asked_in_csv : Command → Asked
asked_in_csv command = record { command = command; form = Csv }

-- the command AddIntersection of a body, or the first fault: that of the body, then its keys by name
unfoldable pub added_intersection : List ℕ → Result Asked AskFault
added_intersection bytes = do
  body ← body_of bytes
  id ← id_in body
  interval ← interval_in body
  name ← words_in 120 body Name
  Ok (asked_in_json (command.AddIntersection id interval name))

-- the intersection of a path and the clerk of a body, or the first fault: the path, then the body
unfoldable pub id_and_clerk_in : List ℕ → List ℕ → Result (ℕ × List ℕ) AskFault
id_and_clerk_in path bytes = do
  id ← id_at path
  body ← body_of bytes
  clerk ← words_in 40 body Clerk
  Ok (id, clerk)

-- the command Edit with its rows in JSON, or the first fault: the path, then the body, then its keys by
-- name, then the rows
unfoldable pub edited_in : List ℕ → List ℕ → Result Asked AskFault
edited_in path bytes = do
  id ← id_at path
  body ← body_of bytes
  clerk ← words_in 40 body Clerk
  changes ← changes_in body
  Ok (asked_in_json (command.Edit id clerk changes))

-- the command Edit with its rows as CSV, or the first fault: the path, then the body, then its keys by
-- name, then the records of the CSV text
unfoldable pub edited_by_csv : List ℕ → List ℕ → Result Asked AskFault
edited_by_csv path bytes = do
  id ← id_at path
  body ← body_of bytes
  clerk ← words_in 40 body Clerk
  changes ← csv_changes_in body
  Ok (asked_in_json (command.Edit id clerk changes))

-- the command Import of a body, or the first fault: the body, then its CSV text; its path has no fields
unfoldable pub imported_in : List ℕ → Result Asked AskFault
imported_in bytes = do
  body ← body_of bytes
  records ← csv_records_in body
  Ok (asked_in_json (command.Import records))

-- what a request to an endpoint asks, by its path and the bytes of its body, or the first fault
unfoldable pub asked_at : Endpoint → List ℕ → List ℕ → Result Asked AskFault
asked_at AddIntersection path bytes = added_intersection bytes
asked_at State path bytes = do
  id ← id_at path
  Ok (asked_in_json (command.State id))
asked_at Timing path bytes = do
  id ← id_at path
  Ok (asked_in_json (command.Timing id))
asked_at TimingCsv path bytes = do
  id ← id_at path
  Ok (asked_in_csv (command.Timing id))
asked_at Draft path bytes = do
  id ← id_at path
  Ok (asked_in_json (command.Draft id))
asked_at Begin path bytes = do
  found ← id_and_clerk_in path bytes
  Ok (asked_in_json (command.Begin found.0 found.1))
asked_at Edit path bytes = edited_in path bytes
asked_at EditCsv path bytes = edited_by_csv path bytes
asked_at Verify path bytes = do
  found ← id_and_clerk_in path bytes
  Ok (asked_in_json (command.Verify found.0 found.1))
asked_at Check path bytes = do
  found ← id_and_clerk_in path bytes
  Ok (asked_in_json (command.Check found.0 found.1))
asked_at Commit path bytes = do
  found ← id_and_clerk_in path bytes
  Ok (asked_in_json (command.Commit found.0 found.1))
asked_at Reopen path bytes = do
  found ← id_and_clerk_in path bytes
  Ok (asked_in_json (command.Reopen found.0 found.1))
asked_at Abandon path bytes = do
  found ← id_and_clerk_in path bytes
  Ok (asked_in_json (command.Abandon found.0 found.1))
asked_at (Record kind) path bytes = do
  record_command ← record_asked kind path bytes
  Ok (asked_in_json (command.Record record_command))
asked_at Import path bytes = imported_in bytes
asked_at Cabinet path bytes = do
  id ← id_at path
  Ok (asked_in_json (command.Cabinet id))
asked_at CabinetCsv path bytes = do
  id ← id_at path
  Ok (asked_in_csv (command.Cabinet id))
asked_at OpenOrders path bytes = do
  id ← id_at path
  Ok (asked_in_json (command.OpenOrders id))
asked_at Stock path bytes = Ok (asked_in_json command.Stock)
asked_at Overdue path bytes = do
  day ← day_at path
  Ok (asked_in_json (command.Overdue day))

-- what a request asks, by its method, its path and the bytes of its body, or the first fault: its route,
-- then the method, then the fields
unfoldable pub command_at : List ℕ → List ℕ → List ℕ → Result Asked AskFault
command_at method path bytes = do
  endpoint ← or_no_route (endpoint_of path)
  if bytes_eq method (method_of endpoint) then asked_at endpoint path bytes else Err Method
