use Rattle.std.proofs.Common.{◌≡◌, Some, Ok, Err, subst, arith}
use Rattle.std.proofs.Math.Logic.{∥∥₁_map}
use Rattle.sqlite.specs.Files.{image_of}
use Rattle.office_tables.specs.Content.{Content}
use Rattle.signal_office_file.specs.Files.{HoldIn}
use Rattle.signal_office_file.specs.Left.{IsCleanFile, LeavesDatabases, MayLeaveOf, database_of}
use Rattle.office_lives.specs.Life.{IsNumbered}
use Rattle.office_lives.proofs.LifeLemmas.{database_is}
use Rattle.office_lives.proofs.stopping.abandon_files.Goals as goal

pub returns-in-Ok-clause-clean : goal.returns-in-Ok-clause-clean
returns-in-Ok-clause-clean g c clean =
    subst IsCleanFile (database_is g.D.Disk c.args.left (Ok c.in-Ok.conn) (subst (λ back. Some back ≡ database_of c.args.left) c.in-Ok.is c.in_ok-back.ensures))
    (omega (arith, c.cut_off.ensures.clean clean))

-- a connection is numbered, and a stop leaves no more of its files than of it
pub returns-in-Ok-clause-found : goal.returns-in-Ok-clause-found
returns-in-Ok-clause-found g c clean =
    subst (λ file. LeavesDatabases file → IsNumbered file → (tables : Content) → HoldIn (image_of g.D.Disk c.cut_off.result) tables → ∥ MayLeaveOf file tables ∥₁)
    (database_is g.D.Disk c.args.left (Ok c.in-Ok.conn) (subst (λ back. Some back ≡ database_of c.args.left) c.in-Ok.is c.in_ok-back.ensures))
    (λ databases numbered tables holds. ∥∥₁_map (c.cut_off.ensures.found clean holds.trees holds.those) (λ may. (holds.trees, may, holds.hold)))

pub returns-in-Err-clause-found : goal.returns-in-Err-clause-found
returns-in-Err-clause-found g c clean =
    subst (λ file. LeavesDatabases file → IsNumbered file → (tables : Content) → HoldIn (image_of g.D.Disk c.crash_files.result) tables → ∥ MayLeaveOf file tables ∥₁)
    (database_is g.D.Disk c.args.left (Err c.in-Err.store) (subst (λ back. Some back ≡ database_of c.args.left) c.in-Err.is c.in_ok-back.ensures))
    (λ databases numbered tables holds.
    ∥∥₁_map (c.crash_files.ensures.found clean numbered databases holds.trees holds.those) (λ may. (holds.trees, may, holds.hold)))
