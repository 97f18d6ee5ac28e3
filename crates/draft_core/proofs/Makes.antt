-- That a move makes the next timing side.
use Rattle.std.proofs.Common.{◌≡◌, ℕ, List, [], Some, None, refl, ap, sym, subst₂, ◌∙◌}
use Rattle.signal_records.specs.{declared.state.DbState.TheVariants.Transaction as InTransaction, declared.state.Stage.TheVariants.Transaction, declared.key.Key.Key, declared.record.Change.Change, TimingSet.Rows, TimingSet.after_changes, declared.state.Stage.Stage, declared.state.Verdict.Verdict, declared.state.Holding.Holding, declared.state.Holding.TheVariants.Dropped, declared.state.Holding.TheVariants.Kept, declared.state.Verdict.TheVariants.NotDone as NotJudged}
use Rattle.std.specs.{Option.option_map, FinMap.get}
use Rattle.draft_core.specs.{declared.timing.Timing.Timing, declared.timing.Reach.Reach, declared.timing.Move.Move, declared.timing.TimingChange.TimingChange, Transaction.TimingSide, Transaction.Draft, Transaction.holder_of, Transaction.in_stage, Transaction.verdict_of, Transaction.with_draft, DraftRows.RowsByKey, DraftRows.Stands, DraftRows.row_at, DraftRows.overlaid_row, Moves.Makes, Moves.move_to, Moves.next_holder, Moves.state_after, Revising.base_from, Revising.base_of, Drafting.commit_rows, Drafting.DraftsChanges}
use Rattle.draft_core.proofs.{Drafts.nothing_drafted, Overlaid.base_row, Overlaid.get-after_changes, Written.commit_rows_settles}
use Rattle.draft_core.specs.declared.timing.Reach.TheVariants as reach

module _ {reach : Reach} {timing : Timing} {rows : RowsByKey} {side : TimingSide}
    (stands : Stands reach timing rows side) where
  -- a draft is begun or kept, and changes are made to it
  pub draft_makes : (next : Draft) (clerk : List ℕ) (base : Rows) (changes : List Change)
      (written : List TimingChange) (holding : Holding) (verdict : Verdict) (move : Move)
      → base_of side ≡ base → next.set ≡ after_changes base changes
      → state_after holding ≡ in_stage next.stage → verdict ≡ verdict_of (Some next)
      → next_holder holding clerk (option_map holder_of side.draft) ≡ Some (holder_of next)
      → DraftsChanges side.committed rows changes written
      → move ≡ move_to timing.revision holding verdict written
      → Makes rows side clerk move (with_draft side next)
  draft_makes next clerk base changes written holding verdict move from set opens judged holds drafts is =
      rw is (record {
        same_revision = stands.same_revision;
        same_state = opens;
        same_verdict = judged;
        same_holder = holds;
        committed = λ key. sym (drafts.stays key (get side.committed key));
        draft = λ key. ap (λ (s : Rows). get s key) set ∙ get-after_changes changes base key
            ∙ ap (λ o. overlaid_row o (row_at changes key))
            (ap (λ (s : Rows). get s key) (sym from) ∙ base_row stands key)
            ∙ (drafts.makes key).makes;
        only_changes = λ only key. (drafts.makes key).only (only key);
      })

  -- the draft that is held stays, and its stage alone is new
  pub stays_makes : (draft : Draft) (stage : Stage) (clerk : List ℕ) (verdict : Verdict)
      (move : Move) → side.draft ≡ Some draft
      → verdict ≡ verdict_of (Some (record draft { stage = stage }))
      → move ≡ move_to timing.revision (Kept stage) verdict []
      → Makes rows side clerk move (with_draft side (record draft { stage = stage }))
  stays_makes draft stage clerk verdict move held judged is =
      draft_makes (record draft { stage = stage }) clerk draft.set [] [] (Kept stage) verdict move
      (ap (base_from side.committed) held) refl refl judged
      (ap (λ d. next_holder (Kept stage) clerk (option_map holder_of d)) held)
      (nothing_drafted side.committed rows) is

  -- the draft rows are dropped, where they were read, and changes make another committed set
  pub settled_makes : ((key : Key) → row_at timing.delta key ≡ rows key) → (settled : List Change)
      (set : Rows) (written : List TimingChange) (clerk : List ℕ) (move : Move) (revision : ℕ)
      → move ≡ move_to revision Dropped NotJudged written
      → written ≡ commit_rows timing.committed timing.delta settled
      → after_changes side.committed settled ≡ set
      → Makes rows side clerk move (record { revision = revision; committed = set; draft = None })
  settled_makes read settled set written clerk move revision is made same =
      let wrote = commit_rows_settles timing.committed timing.delta settled in
      let none_left = λ (key : Key). wrote.left key (rows key) (λ e. sym (read key) ∙ e) in
      rw (is, made) (record {
        same_revision = refl;
        same_state = refl;
        same_verdict = refl;
        same_holder = refl;
        committed = λ key. ap (λ (s : Rows). get s key) (sym same)
            ∙ get-after_changes settled side.committed key ∙ sym (wrote.makes key (get side.committed key));
        draft = none_left;
        only_changes = λ only key same. none_left key;
      })

-- an edit, which reads the whole plan, of a draft that is held or begun
pub edit_makes : {timing : Timing} {rows : RowsByKey} {side : TimingSide}
    (stands : Stands reach.Plan timing rows side) (base : Rows) (owner : List ℕ)
    (holding : Holding) (clerk : List ℕ) (move : Move) (changes : List Change) (written : List TimingChange)
    → base_of side ≡ base → state_after holding ≡ InTransaction
    → next_holder holding clerk (option_map holder_of side.draft)
    ≡ Some (record { stage = Transaction; owner = owner })
    → DraftsChanges timing.committed (row_at timing.delta) changes written
    → move ≡ move_to timing.revision holding NotJudged written
    → Makes rows side clerk move (with_draft side
    (record { stage = Transaction; owner = owner; set = after_changes base changes }))
edit_makes stands base owner holding clerk move changes written from opens holds drafts is =
    draft_makes stands (record { stage = Transaction; owner = owner; set = after_changes base changes })
    clerk base changes written holding NotJudged move from refl opens refl holds
    (subst₂ (λ set said. DraftsChanges set said changes written) stands.read.1
    (λ k key. stands.read.0 key k) drafts) is
