use Rattle.std.proofs.Common.{◌≡◌, ◌+◌, ◌∷◌, [], List, drop, false, true, sym, ap, ◌∙◌}
use Rattle.std.proofs.lemmas.List.{append-nil, drop_all, drop_more}
use Rattle.signal_records.specs.{declared.record.Change.Change}
use Rattle.draft_core.specs.{DraftRows.row_at, Drafting.is_said}
use Rattle.draft_core.proofs.Drafts.{nothing_drafted, turn_gone, turn_kept, turn_passed}
use Rattle.draft_core.proofs.drafting.draft_changes.Goals.{then-not-says_committed+in_ok-is_new+in_ok-drafted_row+in_ok-push, else-not-says_committed+then-remove+in_ok-push-2, else-not-says_committed+else-remove}
use Rattle.draft_core.proofs.drafting.draft_changes.Goals as goal

pub loop-change-init : goal.loop-change-init
loop-change-init c = rw c.new-written.ensures.items (record {
  now = row_at c.args.timing.now.delta;
  named = λ key. c.in_ok-drafted.ensures key
      ∙ ap (λ (list : List Change). is_said (row_at list key)) c.as_slice.ensures.list;
  goes = λ rest drafts. drafts;
})

pub loop-change-preserved : goal.loop-change-preserved
loop-change-preserved c =
    let all = c.args.changes.now in
    let index = c.loop-change.change-index in
    let change = c.change-item.result in
    let written = c.loop-change.written.items in
    let left : drop index all ≡ change ∷ drop (index + 1) all =
    drop_more all index change c.loop-change-test.true
    ∙ ap (λ one. one ∷ drop (index + 1) all) (sym c.change-item.is) in
    let so_far = rw left at c.loop-change.invariant in
    elim c.if-not-says_committed.branch [
      | then-not-says_committed+in_ok-is_new+in_ok-drafted_row+in_ok-push w ↦
          rw (w.drafted-is, w.written-is, w.in_ok-push.ensures.items, w.in_ok-drafted_row.ensures)
          (turn_kept _ _ all _ change _ _ written so_far
          (λ says. absurd (let f : false ≡ true = sym w.if-not-says_committed.true
          ∙ c.says_committed.ensures.1 says in cc)) w.in_ok-is_new.is_new
          (rw c.changed_key-key.ensures at w.in_ok-is_new.ensures.added)
          (rw c.changed_key-key.ensures at w.in_ok-is_new.ensures.updates.0))
      | else-not-says_committed+then-remove+in_ok-push-2 w ↦
          rw (w.drafted-is, w.written-is, w.in_ok-push-2.ensures.items, c.changed_key-key.ensures)
          (turn_gone _ _ all _ change _ _ written so_far
          (c.says_committed.ensures.0 w.if-not-says_committed.false)
          (rw c.changed_key-key.ensures at w.remove.ensures.updates.0))
      | else-not-says_committed+else-remove w ↦
          rw (w.drafted-is, w.written-is) (turn_passed _ _ all _ change _ _ written so_far
          (c.says_committed.ensures.0 w.if-not-says_committed.false)
          (rw c.changed_key-key.ensures at (sym w.remove.ensures.test ∙ w.if-remove.false))
          (rw w.if-remove.false at w.remove.ensures.unchanged))
    ]

pub returns : goal.returns
returns c =
    let on = rw (drop_all c.loop-change.change-index c.args.changes.now c.loop-change-test.false)
    at c.loop-change.invariant in
    rw (c.new.ensures, ← append-nil c.loop-change.written.items)
    (on.goes [] (nothing_drafted c.args.timing.now.committed on.now))
