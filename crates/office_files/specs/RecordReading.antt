-- The command of the register that the fields of a record spell, or the first fault, from left to right. Fields are counted from 1.
use Rattle.std.specs.Prelude.{ℕ, zero, suc, Bool, not, ◌&&◌, ◌==◌, nat_le, if◌then◌else◌, List, [], ◌∷◌, length, codes, Option, Some, None, Result, Ok, Err}
use Rattle.std.specs.List.{list_all}
use Rattle.std.specs.Option.{ok_or}
use Rattle.std.specs.Str.{bytes_eq, is_utf8}
use Rattle.signal_records.specs.declared.fault.RowFault.{RowFault}
use Rattle.signal_records.specs.declared.fault.RowFault.TheVariants as fault
use Rattle.signal_records.specs.Reading.{◌>>=◌, number_at, text_at, counted}
use Rattle.cabinet_core.specs.Day.{day_text}
use Rattle.cabinet_core.specs.Part.{is_code_byte}
use Rattle.cabinet_core.specs.declared.command.RecordCommand.{RecordCommand}
use Rattle.cabinet_core.specs.declared.command.RecordCommand.TheVariants as command

-- the day, among the first so many from 1970-01-01 on, that a text spells as `YYYY-MM-DD`
unfoldable pub day_among : ℕ → List ℕ → Option ℕ
day_among zero text = None
day_among (suc n) text = if bytes_eq text (day_text n) then Some n else day_among n text

-- the day that a text spells, as days after 1970-01-01, up to 2199-12-31
unfoldable pub day_of : List ℕ → Option ℕ
day_of text = day_among 84_006 text

-- the day that the field at a place spells, or the fault Day of that place
unfoldable pub day_at : ℕ → List (List ℕ) → Result ℕ RowFault
day_at place fields = ok_or (day_of (text_at place fields)) (fault.Day place)

-- the byte is no control character
abbrev pub is_printed : ℕ → Bool
is_printed b = nat_le 32 b && not (b == 127)

-- the text is words: UTF-8, 1 to `max` bytes, none of them a control character
abbrev pub is_words : ℕ → List ℕ → Bool
is_words max text = is_utf8 text && (nat_le 1 (length text) && (nat_le (length text) max && list_all is_printed text))

-- a text, if it is words of at most `max` bytes
unfoldable pub words_of : ℕ → List ℕ → Option (List ℕ)
words_of max text = if is_words max text then Some text else None

-- the words of at most `max` bytes in the field at a place, or the fault Text of that place
unfoldable pub words_at : ℕ → ℕ → List (List ℕ) → Result (List ℕ) RowFault
words_at max place fields = ok_or (words_of max (text_at place fields)) (fault.Text place)

-- the code of a part: 1 to 20 bytes, each a capital letter, a digit or a dash
abbrev pub is_part_code : List ℕ → Bool
is_part_code text = nat_le 1 (length text) && (nat_le (length text) 20 && list_all is_code_byte text)

-- a text, if it is the code of a part
unfoldable pub part_of : List ℕ → Option (List ℕ)
part_of text = if is_part_code text then Some text else None

-- the code of a part in the field at a place, or the fault Text of that place
unfoldable pub part_at : ℕ → List (List ℕ) → Result (List ℕ) RowFault
part_at place fields = ok_or (part_of (text_at place fields)) (fault.Text place)

-- the inspection that the six fields of a record spell, or the first fault from the left
unfoldable pub inspection_at : List (List ℕ) → Result RecordCommand RowFault
inspection_at fields = do
  id ← number_at 1 9999 2 fields
  number ← number_at 1 999_999 3 fields
  day ← day_at 4 fields
  clerk ← words_at 40 5 fields
  text ← words_at 500 6 fields
  Ok (command.Inspect id (record { number = number; day = day; clerk = clerk; text = text }))

-- the opening of an order that the six fields of a record spell, or the first fault from the left
unfoldable pub opening_at : List (List ℕ) → Result RecordCommand RowFault
opening_at fields = do
  id ← number_at 1 9999 2 fields
  number ← number_at 1 999_999 3 fields
  day ← day_at 4 fields
  clerk ← words_at 40 5 fields
  text ← words_at 500 6 fields
  Ok (command.OpenOrder id (record { number = number; day = day; clerk = clerk; text = text }))

-- the used part that the six fields of a record spell, or the first fault from the left
unfoldable pub use_at : List (List ℕ) → Result RecordCommand RowFault
use_at fields = do
  id ← number_at 1 9999 2 fields
  order ← number_at 1 999_999 3 fields
  line ← number_at 1 99 4 fields
  part ← part_at 5 fields
  count ← number_at 1 999_999_999 6 fields
  Ok (command.UsePart id (record { order = order; line = line; part = part; count = count }))

-- the closing of an order that the five fields of a record spell, or the first fault from the left
unfoldable pub close_at : List (List ℕ) → Result RecordCommand RowFault
close_at fields = do
  id ← number_at 1 9999 2 fields
  order ← number_at 1 999_999 3 fields
  day ← day_at 4 fields
  closer ← words_at 40 5 fields
  Ok (command.CloseOrder id order (record { day = day; closer = closer }))

-- the delivery that the five fields of a record spell, or the first fault from the left
unfoldable pub delivery_at : List (List ℕ) → Result RecordCommand RowFault
delivery_at fields = do
  part ← part_at 2 fields
  number ← number_at 1 999_999 3 fields
  day ← day_at 4 fields
  count ← number_at 1 999_999_999 5 fields
  Ok (command.Receive (record { part = part; number = number; day = day; count = count }))

-- the command that fields spell, or the first fault: the kind is tested first, then how many fields there are, then each field from the left
unfoldable pub record_at : List (List ℕ) → Result RecordCommand RowFault
record_at [] = Err fault.Kind
record_at (kind ∷ rest) =
    let fields = kind ∷ rest in
    if bytes_eq kind (codes "inspection") then counted (length fields == 6) (inspection_at fields)
    else if bytes_eq kind (codes "order") then counted (length fields == 6) (opening_at fields)
    else if bytes_eq kind (codes "use") then counted (length fields == 6) (use_at fields)
    else if bytes_eq kind (codes "close") then counted (length fields == 5) (close_at fields)
    else if bytes_eq kind (codes "delivery") then counted (length fields == 5) (delivery_at fields)
    else Err fault.Kind
