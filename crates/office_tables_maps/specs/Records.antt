-- How the records of each table are kept in memory.
use Rattle.std.specs.Prelude.{ℕ, pos, List, ◌∷◌}
use Rattle.std.specs.{Int.IsInRange, FinMap.slice_cmp-IsAntisymmetric, Ordering.ordering_then, declared.cmp.Ordering.Ordering}
use Rattle.std.proofs.lemmas.Map.Lookups.{exact_pairs, exact_unsigned}
use Rattle.cabinet_core.specs.{Part.IsPartCode, Within.IsInspectionWithin, Within.IsOrderWithin, Within.IsUsedLineWithin, Within.IsDeliveryWithin, declared.record.Delivery.Delivery, declared.record.Inspection.Inspection, declared.record.Order.Order, declared.record.UsedLine.UsedLine}
use Rattle.signal_records.specs.{ChangedRows.changed_key, Row.key_of, Within.IsChangeWithin, Within.IsRowWithin, Within.current_limits, declared.key.Key.Key, declared.record.Change.Change, declared.record.Row.Row}
use Rattle.office_tables_shelf.specs.{CabinetReads.IsHand, CabinetRows.delivery_columns, CabinetRows.inspection_columns, CabinetRows.order_columns, CabinetRows.part_columns, CabinetRows.part_key, CabinetRows.used_columns, Cells.Cell, Cells.number, RegisterStands.delivery_cells, Rows.IsIntersectionRow, Rows.draft_columns, Rows.intersection_columns, Rows.intersection_key, Rows.timing_columns, declared.rows.IntersectionRow.IntersectionRow}
use Rattle.office_tables_shelf.proofs.{CabinetLemmas.part_cmp, CabinetLemmas.part_order, CabinetLemmas.text_order, TreeLemmas.ranged_cmp}
use Rattle.office_tables_maps.specs.Keys.{AreKeyLaws, Keys, beside, last_order, number_exact, ranged_order}
use Rattle.office_tables_maps.specs.Stored.{AreLaws, Places, Stored}

-- places of records of intersections, each under the number and a key that the record names
abbrev pub under_intersection : {K : Type 0} → Keys K → Places (ℕ × K)
under_intersection keys = record {
  cells = λ k. number (pos k.0) ∷ keys.cells k.1;
  is_place = λ k. IsInRange 1 9999 k.0 × keys.is_key k.1;
}

-- they are ordered by their cells, and equal keys are one place
pub under_laws : {K : Type 0} {R : K → K → Ordering} {keys : Keys K} → AreKeyLaws R keys
    → AreLaws (beside R) (under_intersection keys)
under_laws {R = R} laws = record {
  ordered = λ a b i. ordering_then (ranged_order a.0 b.0 i) (laws.ordered a.1 b.1 i);
  exact = exact_pairs ranged_cmp R number_exact laws.exact;
}

-- records that name the key of their place
abbrev pub by_own_key : {K X : Type 0} → (X → K) → (X → List Cell) → (X → Type 0) → Stored (ℕ × K) X
by_own_key key columns is_within = record { own = λ k x. (k.0, key x); columns = columns; is_within = is_within }

-- committed rows
abbrev pub timing_stored : Stored (ℕ × Key) Row
timing_stored = by_own_key key_of timing_columns (IsRowWithin current_limits)

-- draft rows, as the changes that they keep
abbrev pub draft_stored : Stored (ℕ × Key) Change
draft_stored = by_own_key changed_key draft_columns (IsChangeWithin current_limits)

-- inspections, by their numbers
abbrev pub inspection_stored : Stored (ℕ × ℕ) Inspection
inspection_stored = by_own_key (λ x. x.number) inspection_columns IsInspectionWithin

-- orders, by their numbers
abbrev pub order_stored : Stored (ℕ × ℕ) Order
order_stored = by_own_key (λ x. x.number) order_columns IsOrderWithin

-- used parts, by order and line
abbrev pub used_stored : Stored (ℕ × (ℕ × ℕ)) UsedLine
used_stored = by_own_key (λ x. (x.order, x.line)) used_columns IsUsedLineWithin

-- the places of intersections: their numbers
abbrev pub number_places : Places ℕ
number_places = record { cells = intersection_key; is_place = IsInRange 1 9999 }

-- they are ordered by their cells, and equal keys are one place
pub number_laws : AreLaws ranged_cmp number_places
number_laws = record { ordered = last_order; exact = number_exact }

-- intersections
abbrev pub intersection_stored : Stored ℕ IntersectionRow
intersection_stored = record { own = λ id _. id; columns = intersection_columns; is_within = IsIntersectionRow }

-- the places of parts: their codes
abbrev pub codes : Places (List ℕ)
codes = record { cells = part_key; is_place = IsPartCode }

-- they are ordered by their cells, and equal keys are one place
pub code_laws : AreLaws part_cmp codes
code_laws = record { ordered = part_order; exact = slice_cmp-IsAntisymmetric exact_unsigned }

-- how many of each part are on hand
abbrev pub hand_stored : Stored (List ℕ) ℕ
hand_stored = record { own = λ code _. code; columns = part_columns; is_within = IsHand }

-- the places of deliveries: their parts and their numbers
abbrev pub delivery_places : Places (List ℕ × ℕ)
delivery_places = record { cells = delivery_cells; is_place = λ _. Unit {0} }

-- they are ordered by their cells, and equal keys are one place
pub delivery_laws : AreLaws (λ a b. ordering_then (part_cmp a.0 b.0) (ranged_cmp a.1 b.1)) delivery_places
delivery_laws = record {
  ordered = λ a b i. ordering_then (text_order a.0 b.0 i) (last_order a.1 b.1 i);
  exact = exact_pairs part_cmp ranged_cmp (slice_cmp-IsAntisymmetric exact_unsigned) number_exact;
}

-- deliveries, each of which names all of its place
abbrev pub delivery_stored : Stored (List ℕ × ℕ) Delivery
delivery_stored = record {
  own = λ _ delivery. (delivery.part, delivery.number);
  columns = delivery_columns;
  is_within = IsDeliveryWithin;
}
