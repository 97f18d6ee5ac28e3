use Rattle.std.proofs.Common.{subst, arith}
use Rattle.signal_office_file.specs.Left.{TellsError}
use Rattle.signal_office_file.proofs.opening.close_file.Goals as goal

pub returns-in-Err : goal.returns-in-Err
returns-in-Err g c =
    let it = c.in-Err.ensures in
    let quiet = it.err.0.quiet in
    record {
      cause = it.kind.0;
      told_is = subst (λ error. TellsError error c.fault_of_database.result) it.kind.1 c.fault_of_database.ensures;
      clean = λ clean. omega (arith, clean, quiet.clean);
      crash = λ trees left. quiet.outcomes trees left;
      sound = λ clean. it.err.0.sound clean;
    }
