use Rattle.std.proofs.Common.{subst, sym, ◌∙◌}
use Rattle.cabinet_core.specs.declared.command.RecordCommand.TheVariants.{Receive}
use Rattle.office_tables_shelf.specs.{Change.changed_by, Places.Delivery, Places.Part, Places.ReadsAt}
use Rattle.office_desk_cabinet.proofs.Decided.{decided}
use Rattle.office_desk_cabinet.proofs.deciding.decide_receive.Goals as goal

pub returns-clause-decides : goal.returns-clause-decides
returns-clause-decides g c =
    let stored = g.S.Shelf.content c.args.shelf.now in
    let asked = c.args.delivery.now in
    let there = c.delivery-there.result in
    let pending = c.args.pending.now in
    let says = c.receive-decision.ensures in
    decided (Receive asked) _ stored pending (there, c.hand-hand.result) c.receive-decision.result _ (λ honest.
    let at_hand = c.record_at-2.ensures.reads.kept.honest_before honest in
    let first = c.record_at.ensures.reads.kept.same_content at_hand in
    let came = subst (λ t. ReadsAt (changed_by t pending) (Delivery asked.part asked.number) there) first
    (subst (ReadsAt _ (Delivery asked.part asked.number)) (sym (c.delivery-there.ensures asked.part asked.number)) (c.in_ok-record_at.ensures.row honest)) in
    (came, subst (ReadsAt _ (Part asked.part)) (sym (c.hand-hand.ensures asked.part)) (c.in_ok-found.ensures.row at_hand)))
    says.line (says.makes 0) c.report_record.ensures
