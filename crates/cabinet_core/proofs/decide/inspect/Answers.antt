use Rattle.std.proofs.Common.{Ok, rules}
use Rattle.cabinet_core.specs.{declared.command.RecordCommand.TheVariants.Inspect, declared.decide.Recorded.TheVariants.Added}
use Rattle.cabinet_core.proofs.Made.{decision_makes}
use Rattle.cabinet_core.proofs.decide.inspect.Goals as goal

pub returns-in_ok-vec-in-None-clause-makes : goal.returns-in_ok-vec-in-None-clause-makes
returns-in_ok-vec-in-None-clause-makes c = λ id of.
    decision_makes id (Inspect id c.args.asked.now) c.args.there.now
    (Ok (Added c.in_ok-vec-in-None.field-0)) (of, c.inspection_is_within.ensures)
    (search rules)
