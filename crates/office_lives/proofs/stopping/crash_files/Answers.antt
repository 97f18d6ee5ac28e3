use Rattle.std.proofs.Common.{Bool, true, false, IsTrue, refl, sym, subst, ◌∙◌}
use Rattle.std.specs.Prelude.{◌&&◌}
use Rattle.std.proofs.Math.Logic.{∥∥₁_map}
use Rattle.std.proofs.lemmas.Bool.{and_parts}
use Rattle.sqlite.proofs.Theorems.{opens_again}
use Rattle.sqlite.specs.{Files.image_of, WalFiles.outcomes, WalReads.AreClean}
use Rattle.sqlite_pool.proofs.StateLemmas.{clean_is, may_leave_is}
use Rattle.sqlite_store.specs.FileStore.{recovers}
use Rattle.sqlite_trees.proofs.Doubt.{no_doubt}
use Rattle.office_lives.proofs.stopping.crash_files.Goals as goal

both : (a b : Bool) → IsTrue a → IsTrue b → IsTrue (a && b)
both true true p q = refl
both true false p q = absurd (cc)
both false b p q = absurd (cc)

pub returns-clause-clean : goal.returns-clause-clean
returns-clause-clean g c clean =
    let parts = and_parts _ _ clean in
    let before = both _ _ (c.crash.ensures.clean parts.0) (c.crash-2.ensures.clean parts.1) in
    no_doubt _ (clean_is c.args.store.pool ∙ subst (λ p. AreClean g.D.Disk p.0 p.1) c.close-log.ensures before)

-- what a stop leaves of the files is a database that the store allows
pub returns-clause-found : goal.returns-clause-found
returns-clause-found g c clean numbered sound trees those =
    let parts = and_parts _ _ clean in
    let before = both _ _ (c.crash.ensures.clean parts.0) (c.crash-2.ensures.clean parts.1) in
    let store = c.args.store in
    let sure = subst (λ p. AreClean g.D.Disk p.0 p.1) c.close-log.ensures before in
    let image = image_of g.D.Disk (record { log = c.crash.new.self; db = c.crash-2.new.self }) in
    let left = subst (λ p. outcomes g.D.Disk p.0 p.1 image) c.close-log.ensures (c.crash.ensures.left, c.crash-2.ensures.left) in
    ∥∥₁_map (opens_again store numbered sound image (may_leave_is store.pool image sure left))
    (λ db. subst (recovers store) (sym (those.holds db.0 db.2)) db.1)
