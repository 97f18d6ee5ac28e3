use Rattle.std.proofs.Common.{inr, Some, subst, sym}
use Rattle.signal_office_commands.proofs.FaultLemmas.{handed}
use Rattle.signal_office_commands.proofs.days.check_days.Goals as goal
use Rattle.signal_office_commands.specs.Days.{AreInTime}

pub returns-in_err-records : goal.returns-in_err-records
returns-in_err-records c =
    subst (λ until. AreInTime until c.args.csv.now c.from_residual.result) (sym c.in-Some.is)
    (handed c.from_residual.result c.in_err-records.field-0.0 (AreInTime (Some c.in-Some.until) c.args.csv.now) c.from_residual.ensures.1 (inr c.in_err-records.ensures.fault))
