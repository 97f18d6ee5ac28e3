use Rattle.std.proofs.Common.{◌≡◌, ◌++◌, [], ◌∷◌, inr, map, append-nil, append_assoc, sym, ap, subst, ◌∙◌, rules}
use Rattle.std.specs.Vec.Iter.{into_iter_items}
use Rattle.sqlite_rules.specs.Lists.{Has}
use Rattle.office_tables_shelf.proofs.ListLemmas.{all_more}
use Rattle.office_tables_statements.specs.Tables.{row_shown, stored_for}
use Rattle.office_tables.specs.Rewritten.{IsFormer, KeptRow, former_columns, kept_key, puts, spelled_table}
use Rattle.office_tables.proofs.MigrateLemmas.{puts_more, shift}
use Rattle.office_tables.proofs.rewritten.put_rows.Goals as goal

pub loop-row-init : goal.loop-row-init
loop-row-init c =
    let same : into_iter_items c.into_iter-row-iterator.result ≡ c.args.rows.items = search rules in
    ([], ap (map (row_shown (spelled_table c.args.table))) same, tt, sym (append-nil _), λ row there. subst (λ rows. Has rows row) same there)

pub loop-row-preserved : goal.loop-row-preserved
loop-row-preserved c =
    let t = c.args.table in
    let was = c.loop-row.invariant in
    let k : KeptRow = (c.in_ok-id.id, c.in_ok-id.change) in
    let it = c.in_ok-id.ensures in
    let step = c.in-Some.ensures.steps.0 in (
      was.0 ++ k ∷ [],
      shift (stored_for kept_key former_columns) (row_shown (spelled_table t)) was.0 k c.in-Some.row _ it.shown
          ∙ ap (λ rows. map (stored_for kept_key former_columns) was.0 ++ map (row_shown (spelled_table t)) rows) (sym step) ∙ was.1,
      all_more (IsFormer t) was.0 k was.2 it.former,
      c.in_ok-put_again.ensures ∙ ap (λ cs. cs ++ puts t (k ∷ [])) was.3 ∙ append_assoc c.args.changes.now.items _ _ ∙ ap (λ cs. c.args.changes.now.items ++ cs) (sym (puts_more t was.0 k)),
      λ row there. was.4 row (subst (λ rows. Has rows row) (sym step) (inr there)),
    )
