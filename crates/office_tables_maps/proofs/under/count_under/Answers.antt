use Rattle.std.proofs.Common.{length, refl, ap, sym, ◌∙◌}
use Rattle.std.proofs.lemmas.{Iterator.Consumers.count_from_yields_List, Iterator.Consumers.YieldsList-from_rest, List.length-map}
use Rattle.office_tables_maps.proofs.UnderLemmas.{all_under, between, forward}
use Rattle.office_tables_maps.proofs.under.count_under.Goals as goal

pub range-requires : goal.range-requires
range-requires g c = rw c.all_of.ensures (forward g.met.K.Ends.laws g.T.Kept.stored c.args.inter)

pub returns : goal.returns
returns g c = λ placed.
    let es = c.args.rows.now.entries in
    let laws = g.met.K.Ends.laws in
    let kind = g.T.Kept.stored in
    count_from_yields_List c.range.result c.count.result c.count.ensures.ran
    (YieldsList-from_rest c.range.result refl)
    ∙ ap length ((rw c.all_of.ensures at c.range.ensures.between tt)
    ∙ between laws kind c.args.inter es placed) ∙ sym (length-map _ (λ e. e.1)) ∙ sym (length-map _ _)
    ∙ ap length (all_under laws kind c.requires c.args.inter es c.range.ensures.ordered placed).0
