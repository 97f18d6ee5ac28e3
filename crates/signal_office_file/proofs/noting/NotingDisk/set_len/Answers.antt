use Rattle.std.proofs.Common.{subst, sym}
use Rattle.std.specs.Result.{IsErr}
use Rattle.signal_office_file.proofs.noting.NotingDisk.set_len.Goals as goal

pub returns-clause-frozen : goal.returns-clause-frozen
returns-clause-frozen g c = λ frozen.
    let it = c.set_len-answer.ensures.frozen frozen in (
      subst (λ r. IsErr r) (sym c.say_refusal.ensures) it.0,
      record { frozen = it.1.frozen; same = it.1.same; clean = it.1.clean; no_more = it.1.no_more; no_fewer = it.1.no_fewer },
    )
