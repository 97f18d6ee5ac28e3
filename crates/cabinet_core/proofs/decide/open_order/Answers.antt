use Rattle.std.proofs.Common.{Ok, rules}
use Rattle.cabinet_core.specs.{declared.command.RecordCommand.TheVariants.OpenOrder, declared.decide.Recorded.TheVariants.Added}
use Rattle.cabinet_core.proofs.Made.{decision_makes}
use Rattle.cabinet_core.proofs.decide.open_order.Goals as goal

pub returns-in_ok-vec-in-None-clause-makes : goal.returns-in_ok-vec-in-None-clause-makes
returns-in_ok-vec-in-None-clause-makes c = λ id.
    decision_makes id (OpenOrder id c.args.asked.now) c.args.there.now
    (Ok (Added c.in_ok-vec-in-None.field-0)) c.opening_is_within.ensures (search rules)
