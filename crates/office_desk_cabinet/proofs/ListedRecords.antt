-- A list that was read from tables that stand for a sound register is that of the register.
use Rattle.std.proofs.Common.{◌≡◌, ℕ, pos, inl, inr, ◌==◌, List, [], ◌∷◌, map, filter, Ordering, refl, sym, ap, ◌∙◌, map-id}
use Rattle.std.proofs.lemmas.{Bool.cases_Bool, Cmp.nat_list_cmp_total}
use Rattle.std.specs.{Cmp.IsTotalOrder, FinMap.FinMap, FinMap.entries, FinMap.get, FinMap.Entries.where_key, Prelude.IfSome}
use Rattle.cabinet_core.specs.{Register.Register, Register.records_at, Sound.IsInspectionAt, Sound.IsOrderAt, Sound.IsLineAt, Orders.is_open, Stock.stock_by_code, Stock.stock_of, declared.record.Inspection.Inspection, declared.record.Order.Order, declared.record.UsedLine.UsedLine}
use Rattle.cabinet_core.proofs.{EntryLemmas.entries_stand, EntryLemmas.kept, KeyOrders.record_total, KeyOrders.line_total}
use Rattle.office_tables_shelf.specs.CabinetReads.{ListsInspections, ListsOrders, ListsUsed, ListsParts}
use Rattle.office_tables_shelf.specs.CabinetRows.{inspection_key, inspection_columns, order_key, order_columns, used_key, used_columns, part_key, part_columns}
use Rattle.office_tables_shelf.specs.Cells.{Cell, TableRows, number, cells_cmp, tree_rows}
use Rattle.office_tables_shelf.specs.{Content.Content, OpenOrders.ReadsOpen, Shelf.is_of, Shelf.rows_of, Places.Inspection as at_inspection, Places.Order as at_order, Places.Line as at_line}
use Rattle.office_tables_shelf.proofs.{CabinetLemmas.of_number, CabinetLemmas.part_order, KeyCells.record_order, KeyCells.line_order, StoredMaps.stored_entries}
use Rattle.office_tables_decisions.proofs.RowsTell.{told_by_rows, rows_tell}
use Rattle.office_desk_cabinet.specs.RegisterStands.{inspection_cells, order_cells, line_cells, RegisterStands, RegisterStandsSound}
use Rattle.office_desk_cabinet.proofs.Places.{tell_at}

-- ---- the records of an intersection

module _ {K X : Type 0} {R : ℕ × K → ℕ × K → Ordering} (total : IsTotalOrder R) (key : ℕ × K → List Cell) (columns : X → List Cell) (order : (a b : ℕ × K) → cells_cmp (key a) (key b) ≡ R a b)
    (begins : (id : ℕ) (k : ℕ × K) → is_of id (key k) ≡ (k.0 == id)) where
  abbrev shown : (ℕ × K) × X → List Cell × List Cell
  shown e = (key e.0, columns e.1)

  where_shown : (id : ℕ) (es : List ((ℕ × K) × X)) → where_key cells_cmp (is_of id) (map shown es) ≡ map shown (where_key R (λ k. k.0 == id) es)
  where_shown id [] = refl
  where_shown id (e ∷ es) = elim (cases_Bool (e.0.0 == id)) [
    | inl hit ↦ rw (begins id e.0, hit) (ap (λ rows. shown e ∷ rows) (where_shown id es))
    | inr miss ↦ rw (begins id e.0, miss) (where_shown id es)
  ]

  -- the list of the rows of an intersection is that of its records, if a key and columns tell a record
  listed_records : (At : ℕ × K → X → Type 0) (id : ℕ) (own : X → List Cell)
      → ((x : X) (e : (ℕ × K) × X) → At e.0 e.1 → own x ≡ key e.0 → columns x ≡ columns e.1 → x ≡ e.1)
      → (rows : TableRows) (records : FinMap R X) → rows ≡ tree_rows key columns (entries records) → ((k : ℕ × K) → IfSome (get records k) (At k))
      → (xs : List X) → map (λ x. (own x, columns x)) xs ≡ rows_of id rows → xs ≡ records_at {R = R} id records
  listed_records At id own tells rows records same stand xs lists =
      told_by_rows {Row = List Cell × List Cell} (λ x. (own x, columns x)) shown (λ e. e.1) (λ e. At e.0 e.1)
      (λ x e at is. tells x e at (ap (λ (p : List Cell × List Cell). p.0) is) (ap (λ (p : List Cell × List Cell). p.1) is))
      xs (where_key R (λ k. k.0 == id) (entries records))
      (kept (λ e. At e.0 e.1) (λ e. e.0.0 == id) (entries records) (entries_stand total At records stand))
      (lists ∙ ap (λ (r : TableRows). where_key cells_cmp (is_of id) (entries r)) same ∙ ap (where_key cells_cmp (is_of id)) (stored_entries total key columns order records) ∙ where_shown id (entries records))

-- the inspections that were read are those of the register
pub inspections_listed : (tables : Content) (r : Register) (id : ℕ) (found : List Inspection) → RegisterStandsSound tables r → ListsInspections tables id found → found ≡ records_at id r.inspections
inspections_listed tables r id found stands lists =
    listed_records record_total inspection_cells inspection_columns record_order (λ of k. of_number of k.0 (number (pos k.1) ∷ [])) IsInspectionAt id (λ x. inspection_key id x.number)
    (λ x e at keys same. let alike : x.number ≡ e.0.1 = cc in tell_at (at_inspection id 0) x e.1 (ap (inspection_key id) (alike ∙ sym at.number)) same)
    tables.inspection r.inspections stands.stand.inspection stands.sound.inspections found lists

pub orders_listed : (tables : Content) (r : Register) (id : ℕ) (found : List Order) → RegisterStandsSound tables r → ListsOrders tables id found → found ≡ records_at id r.orders
orders_listed tables r id found stands lists =
    listed_records record_total order_cells order_columns record_order (λ of k. of_number of k.0 (number (pos k.1) ∷ [])) IsOrderAt id (λ x. order_key id x.number)
    (λ x e at keys same. let alike : x.number ≡ e.0.1 = cc in tell_at (at_order id 0) x e.1 (ap (order_key id) (alike ∙ sym at.number)) same)
    tables.work_order r.orders stands.stand.work_order stands.sound.orders found lists

-- and the open ones of them
pub open_read : (tables : Content) (r : Register) (id : ℕ) (found : List Order)
    → RegisterStandsSound tables r → ReadsOpen tables id found
    → found ≡ filter is_open (records_at id r.orders)
open_read tables r id found stands reads =
    reads.open_ones
    ∙ ap (filter is_open) (orders_listed tables r id reads.orders stands reads.lists)

pub lines_listed : (tables : Content) (r : Register) (id : ℕ) (found : List UsedLine) → RegisterStandsSound tables r → ListsUsed tables id found → found ≡ records_at id r.lines
lines_listed tables r id found stands lists =
    listed_records line_total line_cells used_columns line_order (λ of k. of_number of k.0 (number (pos k.1.0) ∷ number (pos k.1.1) ∷ [])) (IsLineAt r) id (λ x. used_key id x.order x.line)
    (λ x e at keys same. let order : x.order ≡ e.0.1.0 = cc in let line : x.line ≡ e.0.1.1 = cc in tell_at (at_line id 0 0) x e.1 (λ i. used_key id ((order ∙ sym at.of) i) ((line ∙ sym at.number) i)) same)
    tables.used_part r.lines stands.stand.used_part stands.sound.lines found lists

-- ---- the stock

-- the rows of the table are the stock
pub parts_are_stock : (tables : Content) (r : Register) (list : List (List ℕ × ℕ)) → RegisterStands tables r → ListsParts tables list → list ≡ stock_of r
parts_are_stock tables r list stand lists =
    rows_tell row row (λ p. p) tells list (stock_of r)
    (lists ∙ ap (λ (rows : TableRows). entries rows) stand.part ∙ stored_entries nat_list_cmp_total part_key part_columns part_order (stock_by_code r))
    ∙ map-id (stock_of r)
  where
    row : List ℕ × ℕ → List Cell × List Cell
    row part = (part_key part.0, part_columns part.1)

    tells : (x e : List ℕ × ℕ) → row x ≡ row e → x ≡ e
    tells x e same =
        let keys : part_key x.0 ≡ part_key e.0 = ap (λ (p : List Cell × List Cell). p.0) same in
        let columns : part_columns x.1 ≡ part_columns e.1 = ap (λ (p : List Cell × List Cell). p.1) same in
        let code : x.0 ≡ e.0 = cc in
        let hand : x.1 ≡ e.1 = cc in
        λ i. (code i, hand i)
