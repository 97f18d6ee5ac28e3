use Rattle.std.proofs.Common.{subst}
use Rattle.office_tables_decisions.proofs.ReadLemmas.{handed_reports}
use Rattle.office_desk.proofs.Taking.{damage_met}
use Rattle.office_desk.specs.Checking.{MeetsThere, TellsThere}
use Rattle.office_desk.proofs.checking.check_record.Goals as goal

pub returns-clause-checks : goal.returns-clause-checks
returns-clause-checks g c = λ honest.
    let first = c.what_is_there.ensures.reads.kept.honest_before honest in
    let t = c.in_ok-taken.taken in
    let told = subst (λ tables. TellsThere tables c.args.pending.now c.args.command.now t c.in_ok-there.there)
    (c.take_record.ensures.reads.kept.same_content first) (c.in_ok-there.ensures.there honest) in
    (t, c.in_ok-there.there, c.in_ok-taken.ensures.takes first, told, c.checked_as.ensures)

pub returns-in_err-there-clause-checks : goal.returns-in_err-there-clause-checks
returns-in_err-there-clause-checks g c = handed_reports _ _ _ _ _ c.from_residual-in_err-there.ensures.1 (λ damaged honest.
    let first = c.what_is_there.ensures.reads.kept.honest_before honest in
    damage_met _ c.args.pending.now c.args.command.now c.in_ok-taken.taken _ (c.in_ok-taken.ensures.takes first)
    (subst (λ tables. MeetsThere tables c.args.command.now c.in_ok-taken.taken) (c.take_record.ensures.reads.kept.same_content first) (c.in_err-there.ensures.there damaged honest)))
