use Rattle.std.proofs.Common.{ap, sym, ◌∙◌}
use Rattle.std.specs.{FinMap.insert, Ordering.is_eq}
use Rattle.office_tables_shelf.proofs.TreeLemmas.{insert_tree}
use Rattle.office_tables_maps.specs.Stored.{StandsUnder, stored_rows}
use Rattle.office_tables_maps.proofs.{TreeRows.standing_put}
use Rattle.office_tables_maps.proofs.kept.put.Goals as goal

pub returns : goal.returns
returns g c =
    let places = g.T.Place.TreePlace.places in
    let laws = g.met.T.Place.TreePlace.laws in
    let kind = g.T.Kept.stored in
    let es = c.args.rows.now.entries in
    record {
      rows = insert_tree g.T.Place.Ord.cmp places.cells kind.columns (λ a b. ap is_eq (laws.ordered a b))
          es c.insert.new.self.entries c.args.place c.in_ok-copy.copy c.in_ok-insert.ensures.updates.0
          ∙ (λ i. insert (stored_rows places kind es) (places.cells (sym c.requires.own i))
          (kind.columns (c.in_ok-copy.ensures.same i)));
      placed = λ placed. rw c.in_ok-insert.ensures.entries
          (standing_put g.T.Place.Ord.cmp laws.exact (StandsUnder places kind) es c.args.place
          c.in_ok-copy.copy (
            rw c.in_ok-copy.ensures.same c.requires.own,
            (c.requires.limits, c.in_ok-copy.ensures.within),
          ) placed);
    }
