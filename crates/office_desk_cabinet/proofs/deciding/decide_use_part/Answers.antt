use Rattle.std.proofs.Common.{subst, sym, ◌∙◌}
use Rattle.cabinet_core.specs.declared.command.RecordCommand.TheVariants.{UsePart}
use Rattle.office_tables_shelf.specs.{Change.changed_by, Places.Line, Places.Order, Places.Part, Places.ReadsAt}
use Rattle.office_desk_cabinet.proofs.Decided.{decided}
use Rattle.office_desk_cabinet.proofs.deciding.decide_use_part.Goals as goal

pub returns-clause-decides : goal.returns-clause-decides
returns-clause-decides g c =
    let stored = g.S.Shelf.content c.args.shelf.now in
    let id = c.args.id in
    let asked = c.args.line.now in
    let there = c.line-there.result in
    let order = c.order-order.result in
    let pending = c.args.pending.now in
    let says = c.use_part-decision.ensures in
    decided (UsePart id asked) _ stored pending (there, order, c.hand-hand.result) c.use_part-decision.result _ (λ honest.
    let at_line = c.record_at-3.ensures.reads.kept.honest_before honest in
    let at_hand = c.record_at-2.ensures.reads.kept.honest_before at_line in
    let first = c.record_at.ensures.reads.kept.same_content at_hand in
    let second = c.record_at-2.ensures.reads.kept.same_content at_line ∙ first in
    let line = subst (λ t. ReadsAt (changed_by t pending) (Line id asked.order asked.line) there) first
    (subst (ReadsAt _ (Line id asked.order asked.line)) (sym (c.line-there.ensures id asked.order asked.line)) (c.in_ok-record_at.ensures.row at_line)) in
    let of = subst (λ t. ReadsAt (changed_by t pending) (Order id asked.order) order) second
    (subst (ReadsAt _ (Order id asked.order)) (sym (c.order-order.ensures id asked.order)) (c.in_ok-record_at-2.ensures.row honest)) in
    (line, of, subst (ReadsAt _ (Part asked.part)) (sym (c.hand-hand.ensures asked.part)) (c.in_ok-found.ensures.row at_hand)))
    says.line (says.makes id) c.report_record.ensures
