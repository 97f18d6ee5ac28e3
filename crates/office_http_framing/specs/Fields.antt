-- What the fields of a head say of its body and of the stream: the length rules, and `close`.
use Rattle.std.specs.Prelude.{ℕ, Bool, ◌&&◌, List, [], ◌∷◌, map, filter, length, Result, Ok, Err, if◌then◌else◌, nat_lt, nat_le, ◌==◌, codes, bytes_eq}
use Rattle.std.specs.List.{list_all, list_any, slice_split}
use Rattle.std.specs.Char.{to_ascii_lowercase, is_ascii_digit}
use Rattle.std.specs.Str.Parse.{digits_value}
use Rattle.httparse.specs.Ascii.{comma}
use Rattle.httparse.specs.Grammar.{trim_ows}
use Rattle.office_http_framing.specs.declared.front.Fault.{Fault}
use Rattle.office_http_framing.specs.declared.front.Fault.TheVariants as fault
use Rattle.office_http_framing.specs.Limits.{body_limit}

-- a field of a head: its name, and its value without the white space around that
abbrev pub Field : Type 0
Field = List ℕ × List ℕ

-- the texts are equal but for the case of ASCII letters
unfoldable pub eq_ignore_case : List ℕ → List ℕ → Bool
eq_ignore_case a b = bytes_eq (map to_ascii_lowercase a) (map to_ascii_lowercase b)

-- the field has the name, in any case of letters
abbrev pub is_named : List ℕ → Field → Bool
is_named name field = eq_ignore_case field.0 name

-- the value of each field with the name, in order
abbrev pub values_named : List ℕ → List Field → List (List ℕ)
values_named name fields = map (λ field. field.1) (filter (is_named name) fields)

-- the value is one or more digits and nothing else
abbrev pub is_digits : List ℕ → Bool
is_digits value = nat_lt 0 (length value) && list_all is_ascii_digit value

-- the length in bytes that one value gives: digits alone, leading zeros allowed, else the fault
-- Length; above the limit the fault is BodyTooLarge
abbrev pub length_of : List ℕ → Result ℕ Fault
length_of value =
    let n = digits_value 10 value in
    if is_digits value then (if nat_le n body_limit then Ok n else Err fault.BodyTooLarge)
    else Err fault.Length

-- the length in bytes that the values of all Content-Length fields give: 0 without one; two are
-- refused, equal ones too
abbrev pub length_among : List (List ℕ) → Result ℕ Fault
length_among [] = Ok 0
length_among (value ∷ []) = length_of value
length_among (value ∷ second ∷ more) = Err fault.Length

-- the length of the body in bytes, or the fault of the fields: a Transfer-Encoding is tested first
unfoldable pub body_length : List Field → Result ℕ Fault
body_length fields =
    if list_any (is_named (codes "transfer-encoding")) fields then Err fault.Coded
    else length_among (values_named (codes "content-length") fields)

-- the elements of a value that is a list, without the white space around each
abbrev pub elements : List ℕ → List (List ℕ)
elements value = map trim_ows (slice_split (λ b. b == comma) value)

-- `close` is an element of the value
unfoldable pub lists_close : List ℕ → Bool
lists_close value = list_any (λ element. eq_ignore_case element (codes "close")) (elements value)

-- the field is a Connection field, and `close` is one of its elements
abbrev pub is_close : Field → Bool
is_close field = is_named (codes "connection") field && lists_close field.1

-- `close` is an element of a Connection field
unfoldable pub closes : List Field → Bool
closes fields = list_any is_close fields
