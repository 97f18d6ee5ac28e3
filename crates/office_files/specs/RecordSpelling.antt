-- The one spelling of a command of the register: a list of fields, each a list of bytes.
use Rattle.std.specs.Prelude.{ℕ, List, [], ◌∷◌, codes}
use Rattle.std.specs.Fmt.{decimal}
use Rattle.cabinet_core.specs.Day.{day_text}
use Rattle.cabinet_core.specs.declared.record.Inspection.{Inspection}
use Rattle.cabinet_core.specs.declared.record.Opening.{Opening}
use Rattle.cabinet_core.specs.declared.record.UsedLine.{UsedLine}
use Rattle.cabinet_core.specs.declared.record.Closing.{Closing}
use Rattle.cabinet_core.specs.declared.record.Delivery.{Delivery}
use Rattle.cabinet_core.specs.declared.command.RecordCommand.{RecordCommand}
use Rattle.cabinet_core.specs.declared.command.RecordCommand.TheVariants as command

-- the fields of an inspection
abbrev pub inspection_fields : ℕ → Inspection → List (List ℕ)
inspection_fields id r = codes "inspection" ∷ decimal id ∷ decimal r.number ∷ day_text r.day ∷ r.clerk ∷ r.text ∷ []

-- the fields of the opening of an order
abbrev pub opening_fields : ℕ → Opening → List (List ℕ)
opening_fields id r = codes "order" ∷ decimal id ∷ decimal r.number ∷ day_text r.day ∷ r.clerk ∷ r.text ∷ []

-- the fields of a part that is used for an order
abbrev pub use_fields : ℕ → UsedLine → List (List ℕ)
use_fields id r = codes "use" ∷ decimal id ∷ decimal r.order ∷ decimal r.line ∷ r.part ∷ decimal r.count ∷ []

-- the fields of the closing of an order
abbrev pub close_fields : ℕ → ℕ → Closing → List (List ℕ)
close_fields id order r = codes "close" ∷ decimal id ∷ decimal order ∷ day_text r.day ∷ r.closer ∷ []

-- the fields of a delivery
abbrev pub delivery_fields : Delivery → List (List ℕ)
delivery_fields r = codes "delivery" ∷ r.part ∷ decimal r.number ∷ day_text r.day ∷ decimal r.count ∷ []

-- the fields of a command of the register: its kind, and the fields of that kind
abbrev pub record_spelling : RecordCommand → List (List ℕ)
record_spelling (command.Inspect id r) = inspection_fields id r
record_spelling (command.OpenOrder id r) = opening_fields id r
record_spelling (command.UsePart id r) = use_fields id r
record_spelling (command.CloseOrder id order r) = close_fields id order r
record_spelling (command.Receive r) = delivery_fields r
