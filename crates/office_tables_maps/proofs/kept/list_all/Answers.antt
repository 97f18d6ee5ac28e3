use Rattle.std.proofs.Common.{map, refl, sym, ap, subst, ◌∙◌}
use Rattle.std.specs.List.{AllByRecursion}
use Rattle.office_tables_maps.proofs.{TreeRows.tree_entries, TreeRows.within_each, UnderLemmas.walked}
use Rattle.office_tables_maps.proofs.kept.list_all.Goals as goal

pub returns : goal.returns
returns g c =
    let places = g.T.Place.TreePlace.places in
    let kind = g.T.Kept.stored in
    let es = c.args.rows.now.entries in
    let items = walked (λ rest. rest) c.loop-place.list.items _ es refl c.in-None.ensures.steps.0
    c.loop-place.invariant in
    record {
      rows = ap (map (λ e. (places.cells e.0, kind.columns e.1))) items
          ∙ sym (tree_entries g.T.Place.Ord.cmp places.cells kind.columns
          g.met.T.Place.TreePlace.laws.ordered es c.into_iter-place-iterator.ensures.into_iter_gives.5);
      within = λ placed.
          subst (AllByRecursion (λ e. places.is_place e.0 × kind.is_within e.1)) (sym items)
          (within_each places kind es placed);
    }
