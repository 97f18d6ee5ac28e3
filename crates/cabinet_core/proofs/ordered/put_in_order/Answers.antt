use Rattle.std.proofs.{Common.rules, lemmas.List.Sorted.IsNonDecreasingBy-from_sort_by_key}
use Rattle.cabinet_core.proofs.ordered.put_in_order.Goals as goal

pub returns-clause-in_order : goal.returns-clause-in_order
returns-clause-in_order g c = IsNonDecreasingBy-from_sort_by_key g.T.Placed.place _
    c.sort_unstable_by_key.ensures.sorted (λ a r q k. search rules)
