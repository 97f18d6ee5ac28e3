-- The numbers are small enough to be signed ones.
use Rattle.std.proofs.Common.{◌≡◌, ◌+◌, ◌*◌, pos, arith, w8, w16, to_z}
use Rattle.std.proofs.Math.Facts.{to_z_pos}
use Rattle.jiff_core.specs.Calendar.{IsDate}
use Rattle.cabinet_core.proofs.DayLemmas.{IsDate-unsigned, IfNone_from}
use Rattle.cabinet_core.proofs.day.date_of.Goals as goal

pub returns-clause-none : goal.returns-clause-none
returns-clause-none c =
    IfNone_from c.ok.result _ (λ none civil.
    let year : to_z w16 (c.from.result * 100 + c.from-2.result) ≡ pos (c.args.century * 100 + c.args.year) =
    rw (c.from.ensures, c.from-2.ensures) (to_z_pos w16 (omega arith)) in
    let month : to_z w8 c.args.month ≡ pos c.args.month = to_z_pos w8 (omega arith) in
    let day : to_z w8 c.args.day ≡ pos c.args.day = to_z_pos w8 (omega arith) in
    let can : IsDate (to_z w16 (c.from.result * 100 + c.from-2.result)) (to_z w8 c.args.month) (to_z w8 c.args.day) =
    rw (year, month, day) (IsDate-unsigned _ _ _ civil) in
    let ok = c.new.ensures.succeeds.1 can in
    grind (arith, ok, none, c.ok.ensures.variant))
