use Rattle.std.proofs.Common.{inr}
use Rattle.signal_office_file.proofs.opening.database_in.Goals as goal

pub returns-in-Ok-clause-opened : goal.returns-in-Ok-clause-opened
returns-in-Ok-clause-opened g c = λ clean. (c.in-Ok.ensures.found clean, c.in-Ok.ensures.opened clean)

pub returns-in-Err-clause-unopened : goal.returns-in-Err-clause-unopened
returns-in-Err-clause-unopened g c =
    inr (record { error = c.in-Err.error; told_is = c.fault_of_database.ensures; cause = c.in-Err.ensures.cause; unharmed = c.in-Err.ensures.unharmed })
