use Rattle.std.proofs.Common.{sym, ◌∙◌, rules, tests}
use Rattle.std.specs.Prelude.{◌==◌}
use Rattle.std.proofs.lemmas.Iterator.{YieldsList-from_slice, Search.position_from_yields_List}
use Rattle.office_http_framing.proofs.FieldLemmas.{before_first-found, before_first-none}
use Rattle.office_http_framing.proofs.front.path_of.Goals as goal

pub returns-in-Some : goal.returns-in-Some
returns-in-Some c =
    let target = c.args.target.now in
    let found = position_from_yields_List (λ b. b == 63) _ _ c.position.result c.position.ensures.ran (YieldsList-from_slice target c.iter.ensures.rest) (λ x b q k. search (rules, tests)) in
    before_first-found (λ b. b == 63) target c.in-Some.end (sym c.in-Some.is ∙ found)

pub returns-in-None : goal.returns-in-None
returns-in-None c =
    let target = c.args.target.now in
    let found = position_from_yields_List (λ b. b == 63) _ _ c.position.result c.position.ensures.ran (YieldsList-from_slice target c.iter.ensures.rest) (λ x b q k. search (rules, tests)) in
    before_first-none (λ b. b == 63) target (sym c.in-None.is ∙ found)
