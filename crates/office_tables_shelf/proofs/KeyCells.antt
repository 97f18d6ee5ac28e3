-- The cells of the keys of intersections and of the register have the order of the keys.
use Rattle.std.proofs.Common.{◌≡◌, ℕ, ◌∙◌}
use Rattle.std.specs.{Ordering.nat_cmp, Ordering.ordering_then, declared.cmp.Ordering.TheVariants.Equal}
use Rattle.cabinet_core.specs.Register.{RecordKey, LineKey, DeliveryKey, record_cmp, line_cmp, delivery_cmp}
use Rattle.office_tables_shelf.specs.{Cells.cells_cmp, Rows.intersection_key, RegisterStands.inspection_cells, RegisterStands.line_cells, RegisterStands.delivery_cells}
use Rattle.office_tables_shelf.proofs.{CabinetLemmas.text_order, TreeLemmas.number_order, TreeLemmas.then_last}

pub intersection_order : (a b : ℕ) → cells_cmp (intersection_key a) (intersection_key b) ≡ nat_cmp a b
intersection_order a b = (λ i. ordering_then (number_order a b i) Equal) ∙ then_last (nat_cmp a b)

-- of inspections, and of orders, whose keys are the same
pub record_order : (a b : RecordKey) → cells_cmp (inspection_cells a) (inspection_cells b) ≡ record_cmp a b
record_order a b = λ i. ordering_then (number_order a.0 b.0 i) ((then_last _ ∙ number_order a.1 b.1) i)

pub line_order : (a b : LineKey) → cells_cmp (line_cells a) (line_cells b) ≡ line_cmp a b
line_order a b = λ i. ordering_then (number_order a.0 b.0 i) (ordering_then (number_order a.1.0 b.1.0 i) ((then_last _ ∙ number_order a.1.1 b.1.1) i))

pub delivery_order : (a b : DeliveryKey) → cells_cmp (delivery_cells a) (delivery_cells b) ≡ delivery_cmp a b
delivery_order a b = λ i. ordering_then (text_order a.0 b.0 i) ((then_last _ ∙ number_order a.1 b.1) i)
