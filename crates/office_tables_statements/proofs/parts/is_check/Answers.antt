use Rattle.std.proofs.Common.{arith, rules}
use Rattle.office_tables_statements.proofs.CheckLemmas.{one_compared}
use Rattle.office_tables_statements.proofs.parts.is_check.Goals as goal

pub returns-then-nodes-lt2 : goal.returns-then-nodes-lt2
returns-then-nodes-lt2 c =
    let it = one_compared c.args.nodes.now c.args.want.now c.args.roots.now 0 (omega (arith, c.in-len1.len_at_least)) (omega (arith, c.in-len1.len_below)) in
    (λ none. search rules, λ is. absurd (omega (arith, (it.0 is).0, c.if-nodes-lt2.true)))

pub returns : goal.returns
returns c =
    let it = one_compared c.args.nodes.now c.args.want.now c.args.roots.now _ (omega (arith, c.in-len1.len_at_least)) (omega (arith, c.in-len1.len_below)) in
    (λ true. it.1 (omega (arith, c.if-nodes-lt2.false), c.is_comparison.ensures.0 true), λ is. c.is_comparison.ensures.1 (it.0 is).1)
