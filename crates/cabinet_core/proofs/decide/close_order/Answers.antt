use Rattle.std.proofs.Common.{Ok, rules}
use Rattle.cabinet_core.specs.{declared.command.RecordCommand.TheVariants.CloseOrder, declared.decide.Recorded.TheVariants.Added}
use Rattle.cabinet_core.proofs.Made.{decision_makes}
use Rattle.cabinet_core.proofs.decide.close_order.Goals as goal

pub returns-clause-makes : goal.returns-clause-makes
returns-clause-makes c = λ id number.
    decision_makes id (CloseOrder id number c.args.asked.now) c.args.order.now
    (Ok (Added c.in_ok-vec.field-0)) c.closing_is_within.ensures (search rules)
