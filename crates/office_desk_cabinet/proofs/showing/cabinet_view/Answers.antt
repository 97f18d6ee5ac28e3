use Rattle.std.proofs.Common.{◌∙◌, Err, ap, inr, subst}
use Rattle.office_tables_shelf.specs.{CabinetReads.HasDamagedUsed, CabinetReads.ListsOrders, CabinetReads.ListsUsed, declared.shelf.ShelfFault.ShelfFault}
use Rattle.office_tables_decisions.proofs.ReadLemmas.{handed_reports}
use Rattle.office_desk_cabinet.proofs.{InOrder.inspections_in_order, InOrder.lines_in_order, InOrder.orders_in_order, ListedRecords.inspections_listed, ListedRecords.orders_listed, ListedRecords.lines_listed}
use Rattle.office_desk_cabinet.proofs.showing.cabinet_view.Goals as goal

pub returns-clause-shows : goal.returns-clause-shows
returns-clause-shows g c = λ honest.
    let tables = g.S.Shelf.content c.args.shelf.now in
    let id = c.args.id in
    let second = c.used_lines.ensures.read.kept.honest_before honest in
    let first = c.orders.ensures.read.kept.honest_before second in
    let same_first = c.inspections.ensures.read.kept.same_content first in
    let same_second = c.orders.ensures.read.kept.same_content second ∙ same_first in
    let inspections = c.in_ok-inspections.inspections.items in
    let orders = c.in_ok-orders.orders.items in
    let lines = c.in_ok-lines.lines.items in
    let has_inspections = c.in_ok-inspections.ensures.lists.rows first in
    let inspections_within = c.in_ok-inspections.ensures.lists.within first in
    let has_orders = subst (λ t. ListsOrders t id orders) same_first (c.in_ok-orders.ensures.lists.rows second) in
    let orders_within = c.in_ok-orders.ensures.lists.within second in
    let has_lines = subst (λ t. ListsUsed t id lines) same_second (c.in_ok-lines.ensures.lists.rows honest) in
    let lines_within = c.in_ok-lines.ensures.lists.within honest in
    λ r stands. record {
      inspections = c.new.ensures.same (inspections_in_order tables id inspections has_inspections inspections_within)
          ∙ inspections_listed tables r id inspections stands has_inspections;
      orders = c.new-2.ensures.same (orders_in_order tables id orders has_orders orders_within)
          ∙ orders_listed tables r id orders stands has_orders;
      lines = c.new-3.ensures.same (lines_in_order tables id lines has_lines lines_within)
          ∙ lines_listed tables r id lines stands has_lines;
    }

pub returns-in_err-lines-clause-shows : goal.returns-in_err-lines-clause-shows
returns-in_err-lines-clause-shows g c = handed_reports _ _ _ _ _ c.from_residual-in_err-lines.ensures.1 (λ damaged honest.
    let second = c.used_lines.ensures.read.kept.honest_before honest in
    let same_first = c.inspections.ensures.read.kept.same_content (c.orders.ensures.read.kept.honest_before second) in
    inr (inr (subst (λ t. HasDamagedUsed t c.args.id) (c.orders.ensures.read.kept.same_content second ∙ same_first)
    (c.in_err-lines.ensures.lists.damaged (ap (λ (fault : ShelfFault). Err fault) damaged) honest))))
