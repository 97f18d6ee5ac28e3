-- What is read at a place of the register: one record, or none, where no damaged one stands.
use Rattle.std.proofs.Common.{◌≡◌, Option, None, Some, IfSome, option_map, List, refl, sym, ap, ◌∙◌}
use Rattle.std.specs.FinMap.{get}
use Rattle.cabinet_core.specs.declared.record.Closing.{Closing}
use Rattle.office_tables_shelf.specs.{CabinetRows.closed_cell, CabinetRows.closer_cell, Cells.Cell, Content.Content, Content.rows_at}
use Rattle.office_tables_shelf.specs.Places.{Place, Inspection, Order, Line, Part, Delivery, RecordAt, WithinAt, ReadsAt, DamagedAt, table_at, key_cells, own_key, columns_at}

-- the cells that stand at a place
abbrev pub cells_at : Content → Place → Option (List Cell)
cells_at tables place = get (rows_at tables (table_at place)) (key_cells place)

closings_tell : (a b : Option Closing) → closed_cell a ≡ closed_cell b → closer_cell a ≡ closer_cell b → a ≡ b
closings_tell None None closed closer = refl
closings_tell (Some a) (Some b) closed closer =
    let day : a.day ≡ b.day = cc in
    let by : a.closer ≡ b.closer = cc in
    ap Some (λ i. record { day = day i; closer = by i })
closings_tell _ _ closed closer = absurd cc

-- a record is told by its key and its other cells
pub tell_at : (place : Place) (a b : RecordAt place) → own_key place a ≡ own_key place b
    → columns_at place a ≡ columns_at place b → a ≡ b
tell_at (Inspection id n) a b keys same =
    let number : a.number ≡ b.number = cc in
    let day : a.day ≡ b.day = cc in
    let clerk : a.clerk ≡ b.clerk = cc in
    let text : a.text ≡ b.text = cc in
    λ i. record { number = number i; day = day i; clerk = clerk i; text = text i }
tell_at (Order id n) a b keys same =
    let number : a.number ≡ b.number = cc in
    let opened : a.opened ≡ b.opened = cc in
    let clerk : a.clerk ≡ b.clerk = cc in
    let text : a.text ≡ b.text = cc in
    let closed : closed_cell a.closing ≡ closed_cell b.closing = cc in
    let closer : closer_cell a.closing ≡ closer_cell b.closing = cc in
    let closing = closings_tell a.closing b.closing closed closer in
    λ i. record { number = number i; opened = opened i; clerk = clerk i; text = text i; closing = closing i }
tell_at (Line id order line) a b keys same =
    let of : a.order ≡ b.order = cc in
    let number : a.line ≡ b.line = cc in
    let part : a.part ≡ b.part = cc in
    let count : a.count ≡ b.count = cc in
    λ i. record { order = of i; line = number i; part = part i; count = count i }
tell_at (Part code) a b keys same = cc
tell_at (Delivery code n) a b keys same =
    let part : a.part ≡ b.part = cc in
    let number : a.number ≡ b.number = cc in
    let day : a.day ≡ b.day = cc in
    let count : a.count ≡ b.count = cc in
    λ i. record { part = part i; number = number i; day = day i; count = count i }

-- so what is read at a place is one record, or none
pub reads_tell : (tables : Content) (place : Place) (a b : Option (RecordAt place))
    → ReadsAt tables place a → ReadsAt tables place b → a ≡ b
reads_tell tables place a b at here = go a b at here (sym at.stored ∙ here.stored)
  where
    go : (a b : Option (RecordAt place)) → ReadsAt tables place a → ReadsAt tables place b
        → option_map (columns_at place) a ≡ option_map (columns_at place) b → a ≡ b
    go None None at here same = refl
    go (Some x) (Some y) at here same = ap Some (tell_at place x y (at.keyed ∙ sym here.keyed)
        (let cells : columns_at place x ≡ columns_at place y = cc in cells))
    go _ _ at here same = absurd cc

-- a record that was read, or none, is no damaged one
pub whole_at : (tables : Content) (place : Place) (there : Option (RecordAt place))
    → ReadsAt tables place there → IfSome there (WithinAt place) → ¬ DamagedAt tables place
whole_at tables place None reads within damaged =
    let never : Some damaged.columns ≡ None = sym damaged.stored ∙ reads.stored in cc
whole_at tables place (Some x) reads within damaged =
    let both : Some damaged.columns ≡ Some (columns_at place x) =
    sym damaged.stored ∙ reads.stored in
    damaged.no_row x within (sym reads.keyed)
    (let same : damaged.columns ≡ columns_at place x = cc in same)
