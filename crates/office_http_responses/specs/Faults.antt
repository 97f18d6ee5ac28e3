-- The answers to requests that ask nothing of the office: faults of the framing, and of what is asked.
use Rattle.std.specs.Prelude.{◌≡◌, ℕ, ◌≤◌, List, [], ◌∷◌, codes, ◌==◌, if◌then◌else◌, unwrap_or}
use Rattle.serde_json.specs.Data.{Data}
use Rattle.office_machine.specs.Refusal.{RefusalLine}
use Rattle.office_http_framing.specs.declared.front.Fault.{Fault}
use Rattle.office_http_framing.specs.declared.front.Fault.TheVariants as framing
use Rattle.office_http_requests.specs.declared.fault.AskFault.{AskFault}
use Rattle.office_http_requests.specs.declared.fault.AskFault.TheVariants as ask
use Rattle.office_http_responses.specs.declared.fault.FaultKind.{FaultKind}
use Rattle.office_http_responses.specs.declared.fault.FaultKind.TheVariants as kind
use Rattle.office_http_responses.specs.declared.fault.More.{More}
use Rattle.office_http_responses.specs.declared.fault.More.TheVariants.{Nothing, Field as FieldMore, Row as RowMore}
use Rattle.office_http_responses.specs.Answers.{answer_text}
use Rattle.office_http_responses.specs.Unavailable.{unavailable_bytes}
use Rattle.office_http_requests.specs.Fields.{field_name}
use Rattle.office_http_responses.specs.Json.{count, text, keys}
use Rattle.signal_records.specs.RowFault.{fault_name, fault_field}

-- a line of the table of faults: a number, a name and an HTTP status code
abbrev pub line : ℕ → List ℕ → ℕ → RefusalLine
line number name status = record { number = number; name = name; status = status }

-- the table of faults: number, name, and status code of an HTTP answer
abbrev pub line_of : FaultKind → RefusalLine
line_of kind.Head = line 1 (codes "Head") 400
line_of kind.HeadTooLarge = line 2 (codes "HeadTooLarge") 400
line_of kind.Length = line 3 (codes "Length") 400
line_of kind.BodyTooLarge = line 4 (codes "BodyTooLarge") 413
line_of kind.Coded = line 5 (codes "Coded") 501
line_of kind.NoRoute = line 6 (codes "NoRoute") 404
line_of kind.Method = line 7 (codes "Method") 405
line_of kind.Json = line 8 (codes "Json") 400
line_of kind.Field = line 9 (codes "Field") 400
line_of kind.BadRow = line 31 (codes "BadRow") 400

-- the first of these kinds of fault that has this number, or BadRow where none has
abbrev pub first_numbered : ℕ → List FaultKind → FaultKind
first_numbered n [] = kind.BadRow
first_numbered n (k ∷ rest) = if n == (line_of k).number then k else first_numbered n rest

-- the kind of fault that has this number, or BadRow where none has
abbrev pub kind_numbered : ℕ → FaultKind
kind_numbered n = first_numbered n (
    kind.Head ∷ kind.HeadTooLarge ∷ kind.Length ∷ kind.BodyTooLarge ∷ kind.Coded
    ∷ kind.NoRoute ∷ kind.Method ∷ kind.Json ∷ kind.Field ∷ [])

-- a fault's number, with what else its answer shows: nothing for 1 to 8, a field for 9, a bad row for 31
abbrev pub IsFault : ℕ → More → Type 0
IsFault n Nothing = (1 ≤ n) × (n ≤ 8)
IsFault n (FieldMore field) = n ≡ 9
IsFault n (RowMore bad) = n ≡ 31

-- the JSON tree of a fault: its name and number, and the field or the bad row, if its answer shows one
abbrev pub fault_tree : FaultKind → More → Data
fault_tree k Nothing = keys ((codes "error", text (line_of k).name) ∷ (codes "number", count (line_of k).number) ∷ [])
fault_tree k (FieldMore field) =
    keys (
    (codes "error", text (line_of k).name)
    ∷ (codes "field", text (field_name field))
    ∷ (codes "number", count (line_of k).number)
    ∷ []
    )
fault_tree k (RowMore bad) =
    keys (
    (codes "error", text (line_of k).name)
    ∷ (codes "fault", text (fault_name bad.fault))
    ∷ (codes "field", count (unwrap_or (fault_field bad.fault) 0))
    ∷ (codes "number", count (line_of k).number)
    ∷ (codes "record", count bad.at)
    ∷ []
    )

-- the bytes of the answer to a fault
unfoldable pub fault_bytes : FaultKind → More → List ℕ
fault_bytes k more = answer_text (line_of k).status (fault_tree k more)

-- the kind of a fault of a request's framing, in the table of faults
abbrev pub framing_kind : Fault → FaultKind
framing_kind framing.Head = kind.Head
framing_kind framing.HeadTooLarge = kind.HeadTooLarge
framing_kind framing.Length = kind.Length
framing_kind framing.BodyTooLarge = kind.BodyTooLarge
framing_kind framing.Coded = kind.Coded

-- the bytes of the answer to a fault of a request's framing
abbrev pub framing_fault_text : Fault → List ℕ
framing_fault_text fault = fault_bytes (framing_kind fault) Nothing

-- the bytes of the answer to a request that is no command: its fault, or for want of memory unavailable
abbrev pub ask_fault_text : AskFault → List ℕ
ask_fault_text ask.NoRoute = fault_bytes kind.NoRoute Nothing
ask_fault_text ask.Method = fault_bytes kind.Method Nothing
ask_fault_text ask.Json = fault_bytes kind.Json Nothing
ask_fault_text (ask.Field field) = fault_bytes kind.Field (FieldMore field)
ask_fault_text (ask.BadRow bad) = fault_bytes kind.BadRow (RowMore bad)
ask_fault_text ask.NoMemory = unavailable_bytes
