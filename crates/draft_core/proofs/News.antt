-- That the rows which a commit adds are new, and what else is said of the rows that it writes.
use Rattle.std.proofs.Common.{◌≡◌, ℕ, cond, List, [], ◌∷◌, map, length, Option, Result, Ok, Err, IfOk, arith, refl, ap, sym, subst, ◌∙◌}
use Rattle.std.proofs.lemmas.List.Elements.{All-contains, All-from_recursion}
use Rattle.std.specs.{Cmp.eq_by_cmp_equiv, FinMap.get, List.Contains, List.Sorted.IsStrictlySortedBy, Ordering.is_eq, declared.cmp.Ordering.TheVariants.Less}
use Rattle.signal_records.specs.{Key.key_cmp, KeyOrder.key_total, TimingSet.Rows, declared.key.Key.Key, declared.record.Row.Row, declared.record.Change.Change, ChangedRows.changed_key, declared.state.Holding.Holding, declared.state.Verdict.Verdict, declared.state.DbState.TheVariants.Normal}
use Rattle.draft_core.specs.{declared.step.Step.Step, declared.timing.Move.Move, declared.timing.Reach.Reach, Moves.move_to, declared.timing.Timing.Timing, DraftRows.Said, DraftRows.silent, DraftRows.said_by, DraftRows.overlaid_row, DraftRows.row_at, News.AddsOnlyNew, News.AreInOrder, News.AreNew, News.AreNewAt, News.IsNewAt, Steps.StepWrites, Steps.reach_of, Drafting.settled_by, Drafting.commit_rows, declared.step.Step.TheVariants.Commit, declared.refusal.DraftRefusal.DraftRefusal, Revising.RevisionWrites}
use Rattle.draft_core.proofs.Overlaid.{contains_later}
use Rattle.draft_core.proofs.Written.{Settles, commit_rows_settles, settled_commits, settled_either}
use Rattle.draft_core.specs.declared.timing.Reach.TheVariants as reach

-- ---- each row that is added is new

settling_new : (set : Rows) (changes : List Change) → AreInOrder changes → (key : Key)
    (row : Option Row) (said : Said) → (Contains (map changed_key changes) key → row ≡ get set key)
    → AreNewAt (map (settled_by set) changes) key row said
unfolding IsStrictlySortedBy
settling_new set [] order key row said start = tt
settling_new set (change ∷ changes) order key row said start =
    let above = λ (has : Contains (map changed_key changes) key).
    All-contains (λ k. key_cmp (changed_key change) k ≡ Less) _ key (All-from_recursion _ _ order.0) has in (
      settled_either (λ c one. c ≡ change → IsNewAt one key row said) set change (λ is. tt)
          (λ put none is mine. start (0, omega arith, ap changed_key (sym is) ∙ sym mine)
          ∙ ap (get set) mine ∙ none) refl,
      settling_new set changes order.1 key _ _ (λ has. settled_commits set change key row
          ∙ ap (λ b. overlaid_row row (cond b (said_by change) silent))
          ((eq_by_cmp_equiv key_total).symm key (changed_key change) ∙ ap is_eq (above has))
          ∙ start (contains_later (changed_key change) key (map changed_key changes) has)),
    )

commit_rows_new : (set : Rows) (delta changes : List Change) → AreInOrder changes
    → (key : Key) (said : Said) → AreNewAt (commit_rows set delta changes) key (get set key) said
commit_rows_new set [] changes order key said =
    settling_new set changes order key (get set key) said (λ named. refl)
commit_rows_new set (row ∷ delta) changes order key said =
    (tt, settling_new set changes order key (get set key) silent (λ named. refl))

-- ---- a move without rows

pub idle_writes : {step : Step} {timing : Timing} {move : Move} {revision : ℕ} {holder : Holding}
    {verdict : Verdict} → move ≡ move_to revision holder verdict [] → StepWrites step timing move
idle_writes {step} {timing} is = record {
  news = rw is (go (reach_of step));
  drafts = rw is (λ within. tt);
  committed = rw is (omega arith);
  drafted = rw is (omega arith);
}
  where
    go : (r : Reach) → AddsOnlyNew r timing []
    go reach.Plan = λ order key. tt
    go _ = tt

-- ---- what a commit writes

module _ (timing : Timing) (settled : List Change) where
  abbrev pub WritesSettled : Move → Type 0
  WritesSettled move = move.changes ≡ commit_rows timing.committed timing.delta settled

  written : (move : Move) → WritesSettled move → Settles timing.delta settled move.changes
  written move made = rw made (commit_rows_settles timing.committed timing.delta settled)

  news : (move : Move) → WritesSettled move → AreInOrder settled
      → AreNew timing.committed timing.delta move.changes
  news move made order key = rw made
      (commit_rows_new timing.committed timing.delta settled order key (row_at timing.delta key))

  -- as the step commit, of the draft rows
  pub step_settles : settled ≡ timing.delta → (result : Result Move DraftRefusal)
      → IfOk result WritesSettled → IfOk result (StepWrites Commit timing)
  step_settles same (Err why) made = tt
  step_settles same (Ok move) made = let all = written move made in record {
    news = λ order. news move made (subst AreInOrder (sym same) order);
    drafts = rw all.drafts (λ within. tt);
    committed = omega (arith, all.timing, ap length same);
    drafted = omega (arith, all.draft);
  }

  -- and as a revision
  pub revision_settles : (edits : List Change) (result : Result Move DraftRefusal)
      → IfOk result (λ move. move.state ≡ Normal) → IfOk result WritesSettled
      → IfOk result (RevisionWrites timing edits settled)
  revision_settles edits (Err why) normal made = tt
  revision_settles edits (Ok move) normal made = let all = written move made in record {
    news = λ old order. news move made order;
    drafts = rw all.drafts (λ within. tt);
    rows = rw normal (all.timing, all.draft);
  }
