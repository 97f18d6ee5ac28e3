use Rattle.std.proofs.Common.{subst}
use Rattle.signal_office_file.specs.Migrating.{IsClosedMigrated}
use Rattle.office_lives.proofs.LifeLemmas.{done_migrated}
use Rattle.office_lives.proofs.lives.brought_today.Goals as goal

pub returns-in-Closed-Ok-default : goal.returns-in-Closed-Ok-default
returns-in-Closed-Ok-default g c =
    let it = c.in-Closed-Ok-default in
    done_migrated g.D.Disk c.args.files it.field-0-0 it.files (subst (λ told. IsClosedMigrated g.D.Disk c.args.files told it.files) it.field-0-is it.ensures.ends)
