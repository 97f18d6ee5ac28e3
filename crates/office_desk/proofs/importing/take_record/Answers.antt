use Rattle.std.proofs.Common.{◌≡◌, ◌∙◌, Bool, Ok, Err, ap, false, subst, sym, true, true≢false}
use Rattle.office_machine.specs.Step.{cabinet_of}
use Rattle.office_tables_decisions.proofs.ReadLemmas.{handed_reports, handed_told, told_on}
use Rattle.office_desk_cabinet.specs.Decides.{WritesRecord}
use Rattle.office_desk.specs.{Recording.TellsIntersection, Taking.TakesNext}
use Rattle.office_desk.proofs.{Recorded.about_tells, Taking.known_damage, Taking.known_takes, Taking.takes_unknown, Taking.writes_unknown}
use Rattle.office_desk.proofs.importing.take_record.Goals as goal

-- ---- the intersection is not there

pub returns-then-not-branch-clause-takes : goal.returns-then-not-branch-clause-takes
returns-then-not-branch-clause-takes g c = λ honest.
    subst (TakesNext (g.S.Shelf.content c.args.shelf.now) c.args.pending.now _ _) (sym c.new.ensures.items)
    (false, about_tells _ _ _ _ _ c.cabinet_of.ensures c.if-not-branch.true (c.in_ok-is_found.ensures.tells honest), takes_unknown _ c.args.command.now)

pub returns-then-not-branch-clause-within : goal.returns-then-not-branch-clause-within
returns-then-not-branch-clause-within g c =
    subst (WritesRecord _ _) (sym c.new.ensures.items) (writes_unknown c.args.command.now
    (rw c.cabinet_of.ensures at (c.is_found.ensures.asked (c.in_ok-is_found.was ∙ ap (λ (b : Bool). Ok b) c.if-not-branch.true))))

pub returns-then-not-branch-clause-reads : goal.returns-then-not-branch-clause-reads
returns-then-not-branch-clause-reads g c =
    told_on _ _ _ (Ok c.in_ok-is_found.field-0) _ _ _ c.in_ok-is_found.ensures.reads
    (λ is. let same : c.in_ok-is_found.field-0 ≡ true = cc in true≢false (sym same ∙ c.if-not-branch.true)) (λ told. tt)

pub returns-in_err-is_found-clause-reads : goal.returns-in_err-is_found-clause-reads
returns-in_err-is_found-clause-reads g c =
    told_on _ _ _ _ c.from_residual.result _ _ c.is_found.ensures.reads (λ is. let never : Err c.in_err-is_found.field-0.0 ≡ Ok true = sym c.in_err-is_found.was ∙ is in cc)
    (handed_told _ _ c.in_err-is_found.field-0.0 c.in_err-is_found.was c.from_residual.ensures.1)

-- ---- it is there

pub returns-clause-takes : goal.returns-clause-takes
returns-clause-takes g c = λ honest.
    let first = c.decide_record.ensures.reads.kept.honest_before honest in
    known_takes _ (g.S.Shelf.content c.args.shelf.now) _ c.args.pending.now _ (λ honest. c.is_found.ensures.reads.kept.same_content first)
    (λ honest. about_tells _ _ _ _ _ c.cabinet_of.ensures c.if-not-branch.false (c.in_ok-is_found.ensures.tells first)) _ _ c.in_ok-taken.ensures.decides.0 honest

pub returns-clause-within : goal.returns-clause-within
returns-clause-within g c = c.in_ok-taken.ensures.decides.1

pub returns-clause-found : goal.returns-clause-found
returns-clause-found g c = λ honest. c.in_ok-is_found.ensures.found (c.decide_record.ensures.reads.kept.honest_before honest)

pub returns-in_err-taken-clause-takes : goal.returns-in_err-taken-clause-takes
returns-in_err-taken-clause-takes g c = handed_reports _ _ _ _ _ c.from_residual-in_err-taken.ensures.1 (λ damaged honest.
    let first = c.decide_record.ensures.reads.kept.honest_before honest in
    known_damage _ (g.S.Shelf.content c.args.shelf.now) _ c.args.pending.now _ (λ honest. c.is_found.ensures.reads.kept.same_content first)
    (λ honest. about_tells _ _ _ _ _ c.cabinet_of.ensures c.if-not-branch.false (c.in_ok-is_found.ensures.tells first)) (c.in_err-taken.ensures.decides damaged) honest)
