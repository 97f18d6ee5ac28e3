use Rattle.std.proofs.Common.{◌∙◌, Bool, Ok, [], ap, false, refl, true}
use Rattle.office_machine.specs.declared.refusal.Refusal.TheVariants.{UnknownIntersection}
use Rattle.office_tables_decisions.proofs.Decisions.{handed_decides}
use Rattle.office_desk_cabinet.specs.declared.deciding.Taken.TheVariants.{Refused}
use Rattle.office_desk.proofs.{Recorded.about_tells, Recorded.record_decides, Taking.known_damage, Taking.known_takes, Taking.takes_unknown, Taking.writes_unknown}
use Rattle.office_desk.proofs.recording.decide_record_command.Goals as goal

pub returns-then-not-branch-clause-decides : goal.returns-then-not-branch-clause-decides
returns-then-not-branch-clause-decides g c =
    let asked = c.args.command.now in
    let gone = c.if-not-branch.true in
    record_decides _ _ asked (Refused UnknownIntersection) [] [] _ refl c.from_refusal.ensures.reply c.from_refusal.ensures.no_changes
    (λ honest. (false, about_tells _ _ _ _ _ c.cabinet_of.ensures gone (c.in_ok-is_known.ensures.tells honest), takes_unknown _ asked))
    (writes_unknown asked (rw c.cabinet_of.ensures at (c.is_known.ensures.asked (c.in_ok-is_known.was ∙ ap (λ (b : Bool). Ok b) gone))))

pub returns-clause-decides : goal.returns-clause-decides
returns-clause-decides g c =
    record_decides _ (g.S.Shelf.content c.args.shelf.now) c.args.command.now c.in_ok-taken.taken c.new-pending.result c.in_ok-taken.changes.items _ c.new-pending.ensures
    c.reply_to-reply.ensures refl (λ honest.
    let first = c.decide_record.ensures.reads.kept.honest_before honest in
    known_takes _ (g.S.Shelf.content c.args.shelf.now) _ c.new-pending.result _ (λ honest. c.is_known.ensures.reads.kept.same_content first)
    (λ honest. about_tells _ _ _ _ _ c.cabinet_of.ensures c.if-not-branch.false (c.in_ok-is_known.ensures.tells first)) _ _ c.in_ok-taken.ensures.decides.0 honest)
    c.in_ok-taken.ensures.decides.1

pub returns-in_err-taken-clause-decides : goal.returns-in_err-taken-clause-decides
returns-in_err-taken-clause-decides g c = handed_decides _ _ _ _ _ c.from_residual-in_err-taken.ensures.1 (λ damaged honest.
    let first = c.decide_record.ensures.reads.kept.honest_before honest in
    known_damage _ (g.S.Shelf.content c.args.shelf.now) _ c.new-pending.result _ (λ honest. c.is_known.ensures.reads.kept.same_content first)
    (λ honest. about_tells _ _ _ _ _ c.cabinet_of.ensures c.if-not-branch.false (c.in_ok-is_known.ensures.tells first)) (c.in_err-taken.ensures.decides damaged) honest)
