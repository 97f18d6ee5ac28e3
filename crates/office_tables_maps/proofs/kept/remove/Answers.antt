use Rattle.std.proofs.Common.{ap}
use Rattle.std.specs.Ordering.{is_eq}
use Rattle.office_tables_shelf.proofs.TreeLemmas.{remove_tree}
use Rattle.office_tables_maps.specs.Stored.{StandsUnder}
use Rattle.office_tables_maps.proofs.{TreeRows.standing_removed}
use Rattle.office_tables_maps.proofs.kept.remove.Goals as goal

pub returns : goal.returns
returns g c =
    let places = g.T.Place.TreePlace.places in
    let laws = g.met.T.Place.TreePlace.laws in
    let es = c.args.rows.now.entries in
    record {
      rows = remove_tree g.T.Place.Ord.cmp places.cells g.T.Kept.stored.columns
          (λ a b. ap is_eq (laws.ordered a b)) es c.remove.new.self.entries c.args.place.now
          c.remove.ensures.updates.0;
      placed = λ placed. rw c.remove.ensures.entries (standing_removed g.T.Place.Ord.cmp laws.exact
          (StandsUnder places g.T.Kept.stored) _ es placed);
    }
