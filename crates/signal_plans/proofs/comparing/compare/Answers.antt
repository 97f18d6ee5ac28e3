use Rattle.signal_plans.proofs.DifferenceSets.{rows_of, in_order, given_told, given_makes}
use Rattle.signal_plans.proofs.comparing.compare.Goals as goal

pub differences_of-requires-clause-first : goal.differences_of-requires-clause-first
differences_of-requires-clause-first c = in_order c.args.first.now c.deref.result.now
    (rows_of c.deref.ensures.value c.in_ok-before.ensures.rows c.in_ok-before.ensures.keyed)

pub differences_of-requires-clause-second : goal.differences_of-requires-clause-second
differences_of-requires-clause-second c = in_order c.args.second.now c.deref-2.result.now
    (rows_of c.deref-2.ensures.value c.in_ok-after.ensures.rows c.in_ok-after.ensures.keyed)

pub returns-clause-told : goal.returns-clause-told
returns-clause-told c =
    given_told (λ found. found.items) c.args.first.now c.args.second.now _ _
    (rows_of c.deref.ensures.value c.in_ok-before.ensures.rows c.in_ok-before.ensures.keyed)
    (rows_of c.deref-2.ensures.value c.in_ok-after.ensures.rows c.in_ok-after.ensures.keyed)
    c.differences_of.result c.differences_of.ensures

pub returns-clause-makes : goal.returns-clause-makes
returns-clause-makes c =
    given_makes (λ found. found.items) c.args.first.now c.args.second.now _ _
    (rows_of c.deref.ensures.value c.in_ok-before.ensures.rows c.in_ok-before.ensures.keyed)
    (rows_of c.deref-2.ensures.value c.in_ok-after.ensures.rows c.in_ok-after.ensures.keyed)
    c.differences_of.result c.differences_of.ensures
