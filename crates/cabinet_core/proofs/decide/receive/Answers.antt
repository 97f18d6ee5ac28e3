use Rattle.std.proofs.Common.{Ok, rules}
use Rattle.cabinet_core.specs.{declared.command.RecordCommand.TheVariants.Receive, declared.decide.Recorded.TheVariants.Added}
use Rattle.cabinet_core.proofs.Made.{decision_makes}
use Rattle.cabinet_core.proofs.decide.receive.Goals as goal

pub returns-clause-makes : goal.returns-clause-makes
returns-clause-makes c = λ id.
    decision_makes id (Receive c.args.asked.now) (c.args.there.now, c.args.hand)
    (Ok (Added c.in_ok-vec.field-0)) c.delivery_is_within.ensures (search rules)
