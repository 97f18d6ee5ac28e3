-- In tables that stand for a sound register every row is a record.
use Rattle.std.proofs.Common.{◌≡◌, ℕ, true, [], ◌∷◌, Option, Some, pos, sym, ap, subst, ◌∙◌, ⊎_elim}
use Rattle.std.proofs.lemmas.{Cmp.nat_list_cmp_total, Option.IfSome_then}
use Rattle.std.specs.{FinMap.get, Option.IfSome}
use Rattle.cabinet_core.specs.{Sound.IsInspectionAt, Sound.IsOrderAt, Sound.IsLineAt, Stock.hand_of, Stock.stock_by_code, Register.Register, declared.record.Order.Order as OrderRecord, declared.command.RecordCommand.RecordCommand, declared.record.Inspection.Inspection as InspectionRecord, declared.record.UsedLine.UsedLine}
use Rattle.cabinet_core.proofs.{KeyOrders.record_total, KeyOrders.line_total, StockList.code_on_hand, StockList.stock_has}
use Rattle.office_tables_shelf.proofs.{CabinetLemmas.part_order, KeyCells.record_order, KeyCells.line_order, StoredMaps.stored_found}
use Rattle.office_tables_shelf.specs.CabinetReads.{HasAnyDamagedInspection, HasDamagedInspection, HasDamagedOrder, HasDamagedUsed, HasDamagedPart, IsHand}
use Rattle.office_tables_shelf.specs.CabinetRows.{inspection_key, inspection_columns, order_key, order_columns, used_key, used_columns, part_key, part_columns}
use Rattle.office_tables_shelf.specs.{Cells.TableRows, Cells.number, Content.Content, Shelf.is_of}
use Rattle.office_tables_decisions.proofs.RowsTell.{of_tells}
use Rattle.office_desk_cabinet.specs.RegisterStands.{inspection_cells, order_cells, line_cells, RegisterStandsSound}
use Rattle.cabinet_core.specs.declared.command.RecordCommand.TheVariants.{Inspect, OpenOrder, UsePart, CloseOrder, Receive}
use Rattle.office_tables_decisions.specs.Damage.{MeetsRecordDamage}
use Rattle.office_tables_shelf.specs.Places.{DamagedAt, Place, Inspection, Order, Line, Part, Delivery}
use Rattle.office_desk_cabinet.specs.Registers.{held_in}
use Rattle.office_desk_cabinet.proofs.{Places.whole_at, Found.hand_within, Found.register_reads, Found.sound_at}

-- ---- rows of an intersection

pub no_damaged_inspection : (tables : Content) (r : Register) (id : ℕ) → RegisterStandsSound tables r → HasDamagedInspection tables id → ⊥
no_damaged_inspection tables r id stands damaged =
    let found = stored_found record_total inspection_cells inspection_columns record_order r.inspections damaged.key damaged.columns (sym (ap (λ (rows : TableRows). get rows damaged.key) stands.stand.inspection) ∙ damaged.stored) in
    let at = subst (λ (o : Option InspectionRecord). IfSome o (IsInspectionAt found.0)) found.4 (stands.sound.inspections found.0) in
    let of = of_tells id found.0.0 (number (pos found.0.1) ∷ []) (subst (λ cells. is_of id cells ≡ true) found.2 damaged.of) in
    damaged.no_row found.1 at.within (found.2 ∙ (λ i. inspection_key (sym of i) (sym at.number i))) found.3

-- nor among all inspections
pub no_damaged_inspections : (tables : Content) (r : Register) → RegisterStandsSound tables r → HasAnyDamagedInspection tables → ⊥
no_damaged_inspections tables r stands damaged =
    let found = stored_found record_total inspection_cells inspection_columns record_order r.inspections damaged.key damaged.columns (sym (ap (λ (rows : TableRows). get rows damaged.key) stands.stand.inspection) ∙ damaged.stored) in
    let at = subst (λ (o : Option InspectionRecord). IfSome o (IsInspectionAt found.0)) found.4 (stands.sound.inspections found.0) in
    damaged.no_row (found.0.0, found.1) (at.of, at.within) (found.2 ∙ (λ i. inspection_key found.0.0 (sym at.number i))) found.3

pub no_damaged_order : (tables : Content) (r : Register) (id : ℕ) → RegisterStandsSound tables r → HasDamagedOrder tables id → ⊥
no_damaged_order tables r id stands damaged =
    let found = stored_found record_total order_cells order_columns record_order r.orders damaged.key damaged.columns (sym (ap (λ (rows : TableRows). get rows damaged.key) stands.stand.work_order) ∙ damaged.stored) in
    let at = subst (λ (o : Option OrderRecord). IfSome o (IsOrderAt found.0)) found.4 (stands.sound.orders found.0) in
    let of = of_tells id found.0.0 (number (pos found.0.1) ∷ []) (subst (λ cells. is_of id cells ≡ true) found.2 damaged.of) in
    damaged.no_row found.1 at.within (found.2 ∙ (λ i. order_key (sym of i) (sym at.number i))) found.3

pub no_damaged_used : (tables : Content) (r : Register) (id : ℕ) → RegisterStandsSound tables r → HasDamagedUsed tables id → ⊥
no_damaged_used tables r id stands damaged =
    let found = stored_found line_total line_cells used_columns line_order r.lines damaged.key damaged.columns (sym (ap (λ (rows : TableRows). get rows damaged.key) stands.stand.used_part) ∙ damaged.stored) in
    let at = subst (λ (o : Option UsedLine). IfSome o (IsLineAt r found.0)) found.4 (stands.sound.lines found.0) in
    let of = of_tells id found.0.0 (number (pos found.0.1.0) ∷ number (pos found.0.1.1) ∷ []) (subst (λ cells. is_of id cells ≡ true) found.2 damaged.of) in
    damaged.no_row found.1 at.within (found.2 ∙ (λ i. used_key (sym of i) (sym at.of i) (sym at.number i))) found.3

-- ---- what is on hand

pub no_damaged_part : (tables : Content) (r : Register) → RegisterStandsSound tables r → HasDamagedPart tables → ⊥
no_damaged_part tables r stands damaged =
    let found = stored_found nat_list_cmp_total part_key part_columns part_order (stock_by_code r) damaged.key damaged.columns (sym (ap (λ (rows : TableRows). get rows damaged.key) stands.stand.part) ∙ damaged.stored) in
    let on : hand_of r found.0 ≡ Some found.1 = sym (stock_has r found.0) ∙ found.4 in
    damaged.no_row (found.0, found.1) (code_on_hand r found.0 found.1 stands.sound on, subst (λ (o : Option ℕ). IfSome o IsHand) on (hand_within r found.0 stands.sound)) found.2 found.3

-- ---- rows under their own keys

module _ (tables : Content) (r : Register) (stands : RegisterStandsSound tables r) where
  no_damaged_at : (place : Place) → DamagedAt tables place → ⊥
  no_damaged_at place = whole_at tables place (held_in r place)
      (register_reads tables r stands place)
      (IfSome_then (held_in r place) (sound_at r stands.sound place) (λ x at. at.1))

  -- no row that a command reads keeps it from being answered
  pub undamaged_record : (command : RecordCommand) → MeetsRecordDamage tables command → ⊥
  undamaged_record (Inspect id asked) damage = no_damaged_at (Inspection id asked.number) damage
  undamaged_record (OpenOrder id asked) damage = no_damaged_at (Order id asked.number) damage
  undamaged_record (UsePart id asked) damage =
      ⊎_elim (no_damaged_at (Line id asked.order asked.line))
      (⊎_elim (no_damaged_at (Order id asked.order)) (no_damaged_at (Part asked.part))) damage
  undamaged_record (CloseOrder id n asked) damage = no_damaged_at (Order id n) damage
  undamaged_record (Receive asked) damage =
      ⊎_elim (no_damaged_at (Delivery asked.part asked.number)) (no_damaged_at (Part asked.part))
      damage
