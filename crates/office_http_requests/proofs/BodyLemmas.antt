-- The object that a body is, from what a reader of JSON says of it.
use Rattle.std.proofs.Common.{◌≡◌, List, ℕ, Bool, true, false, Some, None, Ok, Err, is_some, refl, cond}
use Rattle.std.proofs.{lemmas.Str.is_utf8-from_IsUtf8, lemmas.Str.IsUtf8-from_is_utf8}
use Rattle.std.specs.{Option.option_and_then, Str.IsUtf8, Str.is_utf8}
use Rattle.serde_json.specs.{Data.Data, Data.object, Find.as_object, Read.read}
use Rattle.office_http_requests.specs.{Bodies.object_in, Bodies.body_of, FaultsInOrder.or_fault, declared.fault.AskFault.TheVariants.Json}

object_in-object : (d : Data) → is_some (as_object d) ≡ true → object_in d ≡ Some d
object_in-object (object ms) h = refl
object_in-object _ h = cc

object_in-other : (d : Data) → is_some (as_object d) ≡ false → object_in d ≡ None
object_in-other (object ms) h = cc
object_in-other _ h = refl

-- a text of an object
pub body_of-object : (bytes : List ℕ) (d : Data) → IsUtf8 bytes → read bytes ≡ Some d → is_some (as_object d) ≡ true → body_of bytes ≡ Ok d
unfolding body_of
body_of-object bytes d text reads is_object = rw (is_utf8-from_IsUtf8 bytes text, reads, object_in-object d is_object)

-- a text of another value
pub body_of-other : (bytes : List ℕ) (d : Data) → IsUtf8 bytes → read bytes ≡ Some d → is_some (as_object d) ≡ false → body_of bytes ≡ Err Json
unfolding body_of
body_of-other bytes d text reads is_other = rw (is_utf8-from_IsUtf8 bytes text, reads, object_in-other d is_other)

-- bytes that are no text, or no JSON
pub body_of-unread : (bytes : List ℕ) → (IsUtf8 bytes → read bytes ≡ None) → body_of bytes ≡ Err Json
unfolding body_of
body_of-unread bytes unread = by_test (is_utf8 bytes) (λ t. unread (IsUtf8-from_is_utf8 bytes t))
  where
    by_test : (b : Bool) → (b ≡ true → read bytes ≡ None) → or_fault Json (option_and_then object_in (cond b (read bytes) None)) ≡ Err Json
    by_test true h = rw (h refl)
    by_test false h = refl
