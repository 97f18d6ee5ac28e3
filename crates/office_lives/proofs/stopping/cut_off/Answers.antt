use Rattle.std.proofs.Common.{arith}
use Rattle.std.proofs.Math.Logic.{∥∥₁_map}
use Rattle.office_lives.proofs.stopping.cut_off.Goals as goal

pub returns-clause-clean : goal.returns-clause-clean
returns-clause-clean g c clean =
    let none = c.crash_files.ensures.clean clean in
    omega (arith, none, c.into_store.ensures.quiet.clean)

pub returns-clause-found : goal.returns-clause-found
returns-clause-found g c clean trees those =
    let it = c.into_store.ensures in
    let none = c.crash_files.ensures.clean clean in
    ∥∥₁_map (c.crash_files.ensures.found clean (it.numbered none) (it.sound none) trees those) (λ may. it.quiet.outcomes trees may)
