use Rattle.std.proofs.Common.{rules, ◌≡◌, None, Some}
use Rattle.std.specs.{BTreeMap.is_at, Map.lookup}
use Rattle.office_tables_maps.specs.Stored.{StandsUnder}
use Rattle.office_tables_maps.proofs.{TreeRows.standing_at, TreeRows.stored_at}
use Rattle.office_tables_maps.proofs.kept.find.Goals as goal

pub returns-in_ok-copy-in-Some-clause-stored : goal.returns-in_ok-copy-in-Some-clause-stored
returns-in_ok-copy-in-Some-clause-stored g c =
    stored_at g.T.Place.Ord.cmp g.T.Place.TreePlace.places.cells g.T.Kept.stored.columns
    g.met.T.Place.TreePlace.laws.ordered c.args.rows.now.entries c.args.place.now
    (Some c.in_ok-copy-in-Some.field-0) (search rules)

pub returns-in_ok-copy-in-Some-clause-keyed : goal.returns-in_ok-copy-in-Some-clause-keyed
returns-in_ok-copy-in-Some-clause-keyed g c = λ placed.
    let stands = StandsUnder g.T.Place.TreePlace.places g.T.Kept.stored in
    let found : lookup (is_at (g.T.Place.Ord.cmp c.args.place.now)) c.args.rows.now.entries
    ≡ Some c.in_ok-copy-in-Some.field-0 = search rules in
    (rw found at (standing_at g.T.Place.Ord.cmp g.met.T.Place.TreePlace.laws.exact stands
    c.args.rows.now.entries c.args.place.now placed)).0

pub returns-in-None-clause-stored : goal.returns-in-None-clause-stored
returns-in-None-clause-stored g c =
    stored_at g.T.Place.Ord.cmp g.T.Place.TreePlace.places.cells g.T.Kept.stored.columns
    g.met.T.Place.TreePlace.laws.ordered c.args.rows.now.entries c.args.place.now None (search rules)
