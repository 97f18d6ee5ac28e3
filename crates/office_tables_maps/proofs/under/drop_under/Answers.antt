use Rattle.std.proofs.Common.{rules, ℕ, Bool, ◌==◌, not, sym, ap, subst, ◌∙◌}
use Rattle.std.proofs.lemmas.{List.Elements.All-filter, List.Elements.All-from_recursion, List.Elements.recursion_from_All, Map.Made.filter_same_pairs}
use Rattle.office_tables_maps.specs.{Records.under_intersection, Stored.ArePlaced, Stored.StandsUnder, Stored.stored_rows}
use Rattle.office_tables_maps.proofs.{UnderLemmas.other_rows}
use Rattle.office_tables_maps.proofs.under.drop_under.Goals as goal

pub returns : goal.returns
returns g c =
    let places = under_intersection g.K.Ends.keys in
    let kind = g.T.Kept.stored in
    let es = c.args.rows.now.entries in
    let other : (ℕ × g.row.K.Denot) × g.row.T.Denot → Bool = λ e. not (e.0.0 == c.args.inter) in
    let kept = filter_same_pairs _ other _ (λ k v b w f t. search rules) es _ c.retain.ensures.filtered in
    record {
      rows = ap (stored_rows places kind) kept ∙ other_rows g.met.K.Ends.laws kind c.args.inter es;
      placed = λ placed. subst (ArePlaced places kind) (sym kept) (recursion_from_All _ _
          (All-filter other (λ e. StandsUnder places kind e.0 e.1) es (All-from_recursion _ es placed)));
    }
