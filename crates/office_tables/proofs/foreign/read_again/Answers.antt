use Rattle.std.proofs.Common.{◌≡◌, arith, subst, subst₂, rules}
use Rattle.sqlite.specs.{Effect.Database, Held.state, View.IsClean}
use Rattle.sqlite_catalog.specs.Listing.{AreListed}
use Rattle.sqlite_trees.specs.Objects.{catalog_tree}
use Rattle.office_tables.specs.Opening.{FindsIn, IsTaken}
use Rattle.office_tables.proofs.{ForeignLemmas.finds, OpenLemmas.still_found, OpenLemmas.still_taken, foreign.read_again.Given.Over, foreign.read_again.Goals.In-Ok-look}
use Rattle.office_tables.proofs.foreign.read_again.Goals as goal

taken : (g : Over) (c : In-Ok-look g) → IsTaken g.S.Store c.args.conn c.look.new.store
taken g c = still_taken g.S.Store c.args.conn _ _ c.in_ok-store.ensures.taken c.look.ensures.quiet c.in-Ok-look.ensures.same

pub returns-in-Err-clause-again : goal.returns-in-Err-clause-again
returns-in-Err-clause-again g c =
    still_found g.S.Store c.args.conn _ _ c.in_ok-store.ensures.taken c.look.ensures.quiet (g.met.S.Store.settled c.args.conn.store) (g.met.S.Store.stays c.look.new.store)

pub returns-clause-again : goal.returns-clause-again
returns-clause-again g c = c.in_ok-conn.ensures.again c.args.conn (taken g (goal.at.returns-clause-again g c).In-Ok-look)

pub returns-clause-finds : goal.returns-clause-finds
returns-clause-finds g c clean =
    let s = state g.S.Store c.args.conn in
    let it = c.in_ok-store.ensures.taken in
    let late : IsClean (g.S.Store.view c.look.new.store) = omega (arith, clean, c.in_ok-conn.ensures.clean) in
    let early : IsClean (g.S.Store.view c.in_ok-store.store) = omega (arith, late, c.look.ensures.quiet.clean) in
    let opened = it.was_open early in
    let listed = subst (λ (d : Database). AreListed (d.trees catalog_tree) s.now.schema) (c.requires (omega (arith, early, it.clean), opened)) (c.schema.ensures.live opened).0.lists.listed in
    let same : c.as_slice.result.now ≡ s.now.schema.tables = search rules in
    finds s.committed.trees s.now.schema listed _ (subst₂ (λ tables trees. FindsIn tables trees c.in-Ok-look.found) same (it.trees early) (c.in-Ok-look.ensures.finds late))
