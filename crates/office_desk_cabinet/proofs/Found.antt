-- What tables that stand for a register have under its keys, and that what is read there is the register's.
use Rattle.std.proofs.Common.{◌≡◌, ℕ, true, false, cond, List, Option, None, Some, IfSome, option_map, refl, ap, ◌∙◌, arith}
use Rattle.std.proofs.lemmas.{Cmp.nat_list_cmp_total, Option.IfSome_then}
use Rattle.std.specs.FinMap.{get}
use Rattle.cabinet_core.specs.{Register.Register, Sound.IsSoundRegister, Step.Standing, Step.standing_in, declared.command.RecordCommand.RecordCommand}
use Rattle.cabinet_core.specs.Stock.{hand_of, pieces, stock_by_code, was_delivered}
use Rattle.cabinet_core.specs.declared.command.RecordCommand.TheVariants.{Inspect, OpenOrder, UsePart, CloseOrder, Receive}
use Rattle.cabinet_core.proofs.{KeyOrders.record_total, KeyOrders.line_total, KeyOrders.delivery_total, StockList.stock_has}
use Rattle.office_tables_shelf.specs.{CabinetReads.IsHand, Cells.TableRows, Content.Content}
use Rattle.office_tables_shelf.specs.CabinetRows.{inspection_key, inspection_columns, order_key, order_columns, used_key, used_columns, delivery_key, delivery_columns, part_key, part_columns}
use Rattle.office_tables_shelf.proofs.{CabinetLemmas.part_order, KeyCells.record_order, KeyCells.line_order, KeyCells.delivery_order, StoredMaps.get_stored}
use Rattle.office_desk_cabinet.specs.RegisterStands.{inspection_cells, order_cells, line_cells, delivery_cells, RegisterStands, RegisterStandsSound}
use Rattle.office_tables_shelf.specs.Places.{Place, Inspection, Order, Line, Part, Delivery, RecordAt, WithinAt, ReadsAt, key_cells, own_key, columns_at}
use Rattle.office_desk_cabinet.specs.Registers.{held_in}
use Rattle.office_desk_cabinet.proofs.Places.{cells_at, reads_tell}

-- ---- what the tables have

held_at : (tables : Content) (r : Register) → RegisterStands tables r → (place : Place)
    → cells_at tables place ≡ option_map (columns_at place) (held_in r place)
held_at tables r stand (Inspection id n) = ap (λ (rows : TableRows). get rows (inspection_key id n)) stand.inspection
    ∙ get_stored record_total inspection_cells inspection_columns record_order r.inspections (id, n)
held_at tables r stand (Order id n) = ap (λ (rows : TableRows). get rows (order_key id n)) stand.work_order
    ∙ get_stored record_total order_cells order_columns record_order r.orders (id, n)
held_at tables r stand (Line id order line) = ap (λ (rows : TableRows). get rows (used_key id order line)) stand.used_part
    ∙ get_stored line_total line_cells used_columns line_order r.lines (id, (order, line))
held_at tables r stand (Part code) = ap (λ (rows : TableRows). get rows (part_key code)) stand.part
    ∙ get_stored nat_list_cmp_total part_key part_columns part_order (stock_by_code r) code
    ∙ ap (option_map part_columns) (stock_has r code)
held_at tables r stand (Delivery code n) = ap (λ (rows : TableRows). get rows (delivery_key code n)) stand.delivery
    ∙ get_stored delivery_total delivery_cells delivery_columns delivery_order r.deliveries (code, n)

-- what is on hand of a part in a sound register is within its limits
pub hand_within : (r : Register) (code : List ℕ) → IsSoundRegister r → IfSome (hand_of r code) IsHand
hand_within r code sound =
    let stocked = sound.stock code in
    let within : IsHand (pieces r code) = let bounded = stocked.bounded in (omega arith, omega arith) in
    elim (was_delivered r code) as (λ b. IfSome (cond b (Some (pieces r code)) None) IsHand) [ true ↦ within | false ↦ tt ]

-- what a sound register has at a place names its key, and is within its limits
pub sound_at : (r : Register) → IsSoundRegister r → (place : Place)
    → IfSome (held_in r place) (λ x. (own_key place x ≡ key_cells place) × WithinAt place x)
sound_at r sound (Inspection id n) = IfSome_then (get r.inspections (id, n)) (sound.inspections (id, n))
    (λ x at. (ap (inspection_key id) at.number, at.within))
sound_at r sound (Order id n) = IfSome_then (get r.orders (id, n)) (sound.orders (id, n))
    (λ x at. (ap (order_key id) at.number, at.within))
sound_at r sound (Line id order line) = IfSome_then (get r.lines (id, (order, line))) (sound.lines (id, (order, line)))
    (λ x at. ((λ i. used_key id (at.of i) (at.number i)), at.within))
sound_at r sound (Part code) = IfSome_then (hand_of r code) (hand_within r code sound) (λ hand is. (refl, is))
sound_at r sound (Delivery code n) = IfSome_then (get r.deliveries (code, n)) (sound.deliveries (code, n))
    (λ x at. ((λ i. delivery_key (at.part i) (at.number i)), at.within))

-- ---- what is read

-- this is what the tables have under the command's keys
abbrev pub ReadsKeys : Content → (command : RecordCommand) → Standing command → Type 0
ReadsKeys tables (Inspect id asked) there = ReadsAt tables (Inspection id asked.number) there
ReadsKeys tables (OpenOrder id asked) there = ReadsAt tables (Order id asked.number) there
ReadsKeys tables (UsePart id asked) (there, order, hand) =
    ReadsAt tables (Line id asked.order asked.line) there
    × ReadsAt tables (Order id asked.order) order × ReadsAt tables (Part asked.part) hand
ReadsKeys tables (CloseOrder id number asked) there = ReadsAt tables (Order id number) there
ReadsKeys tables (Receive asked) (there, hand) =
    ReadsAt tables (Delivery asked.part asked.number) there × ReadsAt tables (Part asked.part) hand

module _ (tables : Content) (r : Register) (stands : RegisterStandsSound tables r) where
  pub register_reads : (place : Place) → ReadsAt tables place (held_in r place)
  register_reads place = record {
    stored = held_at tables r stands.stand place;
    keyed = IfSome_then (held_in r place) (sound_at r stands.sound place) (λ x at. at.0);
  }

  -- what is read at a place is the register's
  pub stands_at : (place : Place) (there : Option (RecordAt place)) → ReadsAt tables place there
      → there ≡ held_in r place
  stands_at place there reads =
      reads_tell tables place there (held_in r place) reads (register_reads place)

  -- and so is what is read under a command's keys
  pub keys_stand : (command : RecordCommand) (there : Standing command)
      → ReadsKeys tables command there → there ≡ standing_in r command
  keys_stand (Inspect id asked) there reads = stands_at (Inspection id asked.number) there reads
  keys_stand (OpenOrder id asked) there reads = stands_at (Order id asked.number) there reads
  keys_stand (UsePart id asked) (there, order, hand) reads =
      let line = stands_at (Line id asked.order asked.line) there reads.0 in
      let of = stands_at (Order id asked.order) order reads.1 in
      let on = stands_at (Part asked.part) hand reads.2 in
      λ i. (line i, of i, on i)
  keys_stand (CloseOrder id number asked) there reads = stands_at (Order id number) there reads
  keys_stand (Receive asked) (there, hand) reads =
      let came = stands_at (Delivery asked.part asked.number) there reads.0 in
      let on = stands_at (Part asked.part) hand reads.1 in
      λ i. (came i, on i)
