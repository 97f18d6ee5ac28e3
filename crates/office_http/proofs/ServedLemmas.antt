-- What was served from tables that were just opened.
use Rattle.std.proofs.Common.{◌≡◌, ℕ, List, subst}
use Rattle.office_tables_shelf.specs.Content.{Content}
use Rattle.office_machine.specs.Office.{Office}
use Rattle.office_http.specs.{Laws.Serves, Protocol.office_protocol}
use Rattle.office_http_framing.specs.{Front.PlainRequest, Stops.Storage}
use Rattle.office_http_framing.proofs.StopLemmas.{ran-wider}

-- the rows were counted from here, and a crash could leave no more than this
pub from_opened : {Shelf : Type 0} (storage : Storage Shelf Office Content)
    (may more : Content → Type 0) (held : Content) (counts first : storage.Counts) → counts ≡ first
    → ((left : Content) → may left → more left)
    → (before : Office) (last : Shelf) (kept : Content) (after : Office)
    (requests : List PlainRequest) (answers : List (List ℕ))
    → Serves storage may (record { state = before; kept = held; written = counts }) last kept after requests answers
    → Serves storage more (record { state = before; kept = held; written = first }) last kept after requests answers
from_opened storage may more held counts first none wider before last kept after requests answers it =
    subst (λ (count : storage.Counts). Serves storage more (record { state = before; kept = held; written = count })
    last kept after requests answers) none (record {
      ran = ran-wider office_protocol storage may more (record { state = before; kept = held; written = counts }) last kept
          after requests answers wider it.ran;
      laws = it.laws;
    })
