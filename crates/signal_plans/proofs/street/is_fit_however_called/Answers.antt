use Rattle.std.proofs.Common.{◌≡◌, true, sym, ◌∙◌, eqb-true}
use Rattle.signal_plans.proofs.LawsHoweverCalled.{laws_however_called}
use Rattle.signal_plans.proofs.Members.{no_items}
use Rattle.signal_plans.proofs.street.is_fit_however_called.Goals as goal

pub returns-clause-laws : goal.returns-clause-laws
returns-clause-laws c none =
    let fit : c.in_ok-is_fit.is_fit ≡ true = c.if-not-is_fit.false in
    let found = c.in_ok-found.found in
    let unwarned = no_items found.items found.len found.ok.0 (eqb-true found.len 0 (sym c.is_empty.ensures ∙ none)) in
    (c.in_ok-is_fit.ensures.laws fit, laws_however_called c.args.set.now (c.in_ok-is_fit.ensures.told.0 fit) (sym c.in_ok-found.ensures ∙ unwarned))
