use Rattle.std.proofs.Common.{◌≡◌, ◌+◌, ◌∷◌, ◌||◌, drop, sym, ap, ◌∙◌}
use Rattle.std.proofs.lemmas.List.{drop_more}
use Rattle.std.specs.{BTreeSet.contains}
use Rattle.signal_records.specs.{Key.key_cmp}
use Rattle.draft_core.specs.{DraftRows.row_at, Drafting.is_said}
use Rattle.draft_core.proofs.Drafts.{named_first}
use Rattle.draft_core.proofs.drafting.named_keys.Goals as goal

pub loop-change-preserved : goal.loop-change-preserved
loop-change-preserved c = λ key.
    let all = c.args.changes.now in
    let index = c.loop-change.change-index in
    let change = c.change-item.result in
    let left : drop index all ≡ change ∷ drop (index + 1) all =
    drop_more all index change c.loop-change-test.true
    ∙ ap (λ one. one ∷ drop (index + 1) all) (sym c.change-item.is) in
    named_first _ _ change (drop (index + 1) all) (rw c.changed_key.ensures at c.in_ok-insert.ensures.updates.0) key
    ∙ ap (λ left. is_said (row_at left key) || contains key_cmp c.loop-change.keys key) (sym left)
    ∙ c.loop-change.invariant key
