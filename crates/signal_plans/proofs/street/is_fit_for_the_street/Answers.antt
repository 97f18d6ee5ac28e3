use Rattle.std.proofs.Common.{sym, ◌∙◌, eqb-true}
use Rattle.signal_plans.proofs.Laws.{street_laws}
use Rattle.signal_plans.proofs.Members.{no_items}
use Rattle.signal_plans.proofs.street.is_fit_for_the_street.Goals as goal

pub returns-clause-laws : goal.returns-clause-laws
returns-clause-laws c fit =
    let breaks = c.in_ok-breaks.breaks in
    street_laws c.args.set.now (sym c.in_ok-breaks.ensures ∙ no_items breaks.items breaks.len breaks.ok.0 (eqb-true breaks.len 0 (sym c.is_empty.ensures ∙ fit)))
