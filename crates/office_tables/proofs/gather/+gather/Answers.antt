use Rattle.std.proofs.Common.{◌≡◌, ◌∷◌, ◌++◌, sym, ap, ◌∙◌, arith, rules}
use Rattle.std.proofs.lemmas.Result.{IfOk-weaker}
use Rattle.sqlite.specs.{Tree.Trees, View.IsClean, View.View}
use Rattle.office_tables.specs.Moved.{moved_from, rows_named}
use Rattle.office_tables.proofs.MovedLemmas.{moved_more}
use Rattle.office_tables.proofs.gather.+gather.Goals as goal

pub returns-clause-rows : goal.returns-clause-rows
returns-clause-rows g t c clean =
    let early : IsClean (g.S.Store.view c.read_named.new.store) = omega (arith, clean, c.gather.ensures.quiet.clean) in
    let named = rows_named c.args.tables.now (g.S.Store.view c.args.store.now).trees in
    let trees = ap (λ (v : View). v.trees) (c.in_ok-rows.ensures.same early) in
    let homes : c.args.homes.now ≡ c.in-Some.table.now ∷ c.in-Some.homes.now = search rules in
    IfOk-weaker c.gather.result _ _ (λ _ is.
    moved_more c.in-Some.table.now c.in-Some.homes.now named c.args.moved.now.items c.append.new.moved.items c.gather.new.moved.items c.in_ok-rows.rows.items
    (c.in_ok-rows.ensures.rows early ∙ ap named c.name_of.ensures) c.in_ok-append.ensures
    (is ∙ ap (λ (t : Trees). c.append.new.moved.items ++ moved_from c.in-Some.homes.now (rows_named c.args.tables.now t)) trees)
    ∙ ap (λ hs. c.args.moved.now.items ++ moved_from hs named) (sym homes)) (c.gather.ensures.rows clean)
