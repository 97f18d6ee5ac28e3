use Rattle.std.proofs.Common.{arith, subst, sym}
use Rattle.cabinet_core.specs.declared.command.RecordCommand.TheVariants.{CloseOrder, Inspect, OpenOrder}
use Rattle.office_tables_shelf.specs.Places.{Inspection, Order, ReadsAt}
use Rattle.office_desk_cabinet.proofs.Decided.{decided}
use Rattle.office_desk_cabinet.proofs.deciding.decide_record.Goals as goal

pub returns-in_ok-found-in-Inspect-clause-decides : goal.returns-in_ok-found-in-Inspect-clause-decides
returns-in_ok-found-in-Inspect-clause-decides g c =
    let stored = g.S.Shelf.content c.args.shelf.now in
    let id = c.in-Inspect.id in
    let asked = c.in-Inspect.inspection in
    let says = c.inspect-decision.ensures in
    let of = c.get-number.ensures in
    rw c.in-Inspect.is (decided (Inspect id asked) _ stored c.args.pending.now c.inspection-there.result c.inspect-decision.result _
    (λ honest. subst (ReadsAt _ (Inspection id asked.number)) (sym (c.inspection-there.ensures id asked.number)) (c.in_ok-found-in-Inspect.ensures.row honest))
    says.line (says.makes id (omega arith, omega arith)) c.report_record.ensures)

pub returns-in_ok-found-in-OpenOrder-clause-decides : goal.returns-in_ok-found-in-OpenOrder-clause-decides
returns-in_ok-found-in-OpenOrder-clause-decides g c =
    let stored = g.S.Shelf.content c.args.shelf.now in
    let id = c.in-OpenOrder.id in
    let asked = c.in-OpenOrder.opening in
    let says = c.open_order-decision.ensures in
    rw c.in-OpenOrder.is (decided (OpenOrder id asked) _ stored c.args.pending.now c.order-there.result c.open_order-decision.result _
    (λ honest. subst (ReadsAt _ (Order id asked.number)) (sym (c.order-there.ensures id asked.number)) (c.in_ok-found-in-OpenOrder.ensures.row honest))
    says.line (says.makes id) c.report_record-in-OpenOrder.ensures)

pub returns-in_ok-found-in-CloseOrder-clause-decides : goal.returns-in_ok-found-in-CloseOrder-clause-decides
returns-in_ok-found-in-CloseOrder-clause-decides g c =
    let stored = g.S.Shelf.content c.args.shelf.now in
    let id = c.in-CloseOrder.id in
    let n = c.in-CloseOrder.order in
    let says = c.close_order-decision.ensures in
    rw c.in-CloseOrder.is (decided (CloseOrder id n c.in-CloseOrder.closing) _ stored c.args.pending.now c.order-there-in-CloseOrder.result c.close_order-decision.result _
    (λ honest. subst (ReadsAt _ (Order id n)) (sym (c.order-there-in-CloseOrder.ensures id n)) (c.in_ok-found-in-CloseOrder.ensures.row honest))
    says.line (says.makes id n) c.report_record-in-CloseOrder.ensures)
