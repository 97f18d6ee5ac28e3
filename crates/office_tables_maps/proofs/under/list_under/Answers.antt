use Rattle.std.proofs.Common.{map, refl, ap, ◌∙◌}
use Rattle.office_tables_maps.specs.{Records.under_intersection, Stored.ArePlaced}
use Rattle.office_tables_maps.proofs.{UnderLemmas.all_under, UnderLemmas.between, UnderLemmas.forward, UnderLemmas.walked}
use Rattle.office_tables_maps.proofs.under.list_under.Goals as goal

pub range-kept-items-requires : goal.range-kept-items-requires
range-kept-items-requires g c = rw c.all_of.ensures (forward g.met.K.Ends.laws g.T.Kept.stored c.args.inter)

pub returns : goal.returns
returns g c =
    let es = c.args.rows.now.entries in
    let laws = g.met.K.Ends.laws in
    let kind = g.T.Kept.stored in
    let items = walked (map (λ e. e.1)) c.loop-kept.list.items _ c.into_iter-kept-iterator.result refl
    c.in-None.ensures.steps.0 c.loop-kept.invariant
    ∙ ap (map (λ e. e.1)) (c.into_iter-kept-iterator.ensures.into_iter_gives
    ∙ rw c.all_of.ensures at c.range-kept-items.ensures.between tt) in
    let same = λ (placed : ArePlaced (under_intersection g.K.Ends.keys) kind es).
    items ∙ ap (map (λ e. e.1)) (between laws kind c.args.inter es placed) in
    let found = λ (placed : ArePlaced (under_intersection g.K.Ends.keys) kind es).
    all_under laws kind c.requires c.args.inter es c.range-kept-items.ensures.ordered placed in
    record {
      rows = λ placed. rw (same placed) (found placed).0;
      within = λ placed. rw (same placed) (found placed).1;
    }
