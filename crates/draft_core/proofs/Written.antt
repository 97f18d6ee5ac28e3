-- What the changes that commit and abandon write make of the rows, and how many they are.
use Rattle.std.proofs.Common.{◌≡◌, ◌+◌, List, [], ◌∷◌, map, length, Option, None, Some, refl, ap, ◌∙◌, arith}
use Rattle.std.specs.{FinMap.get, List.AllByRecursion}
use Rattle.signal_records.specs.{Row.key_of, TimingSet.Rows, declared.key.Key.Key, declared.record.Row.Row, declared.record.Change.Change, declared.record.Change.TheVariants.Put, declared.record.Change.TheVariants.Remove}
use Rattle.draft_core.specs.DraftRows.{Said, silent, row_at, overlaid_row, said_at}
use Rattle.draft_core.specs.Moves.{committed_after, committed_by, draft_writes, drafted_in, row_after, said_after, timing_writes}
use Rattle.draft_core.specs.{News.AddsNone, Drafting.commit_rows, Drafting.put_over, Drafting.settled_by, declared.timing.TimingChange.TimingChange, declared.timing.TimingChange.TheVariants.CommittedNew, declared.timing.TimingChange.TheVariants.Committed}
use Rattle.draft_core.proofs.Overlaid.{overlaid_row-overlaid_row}

-- a change as one of the committed set is the change itself, or adds the row that it puts, where none is committed
pub settled_either : (P : Change → TimingChange → Type 0) (set : Rows) (change : Change)
    → P change (Committed change)
    → ((row : Row) → get set (key_of row) ≡ None → P (Put row) (CommittedNew row))
    → P change (settled_by set change)
settled_either P set (Remove key) kept added = kept
settled_either P set (Put row) kept added =
    elim (get set (key_of row)) as (λ o. get set (key_of row) ≡ o → P (Put row) (put_over o row)) [
      | None ↦ λ none. added row none
      | Some stands ↦ λ there. kept
    ] refl

pub settled_commits : (set : Rows) (change : Change) (key : Key) (row : Option Row)
    → committed_by (settled_by set change) key row ≡ overlaid_row row (said_at change key)
settled_commits set change key row =
    settled_either (λ c one. committed_by one key row ≡ overlaid_row row (said_at c key)) set change
    refl (λ row none. refl)

settled_writes : (set : Rows) (change : Change) (rest : List TimingChange)
    → ((key : Key) (said : Said) → said_after (settled_by set change) key said ≡ said)
    × (drafted_in (settled_by set change ∷ rest) ≡ drafted_in rest)
    × (timing_writes (settled_by set change ∷ rest) ≡ timing_writes rest + 1)
    × (draft_writes (settled_by set change ∷ rest) ≡ draft_writes rest)
settled_writes set change rest = (λ key said. grind arith, grind arith, grind arith, grind arith)

-- draft rows are dropped and changes made in the committed set; no draft row is left, where none stands but those
pub record Settles (dropped changes : List Change) (written : List TimingChange) : Type 0 where
  pub makes : (key : Key) (row : Option Row)
      → committed_after written key row ≡ overlaid_row row (row_at changes key)
  pub left : (key : Key) (said : Said) → (row_at dropped key ≡ silent → said ≡ silent)
      → row_after written key said ≡ silent
  pub drafts : drafted_in written ≡ []
  pub timing : timing_writes written ≡ length changes
  pub draft : draft_writes written ≡ length dropped

settles : (set : Rows) (changes : List Change) → Settles [] changes (map (settled_by set) changes)
settles set [] = record {
  makes = λ key row. refl;
  left = λ key said none. none refl;
  drafts = refl;
  timing = refl;
  draft = refl;
}
settles set (change ∷ changes) =
    let rest = settles set changes in
    let one = settled_writes set change (map (settled_by set) changes) in record {
      makes = λ key row. rest.makes key _
          ∙ ap (λ r. overlaid_row r (row_at changes key)) (settled_commits set change key row)
          ∙ overlaid_row-overlaid_row row (row_at changes key) (said_at change key);
      left = λ key said none. rest.left key _ (λ e. one.0 key said ∙ none e);
      drafts = one.1 ∙ rest.drafts;
      timing = omega (arith, one.2, rest.timing);
      draft = omega (arith, one.3, rest.draft);
    }

pub commit_rows_settles : (set : Rows) (delta changes : List Change)
    → Settles delta changes (commit_rows set delta changes)
commit_rows_settles set [] changes = settles set changes
commit_rows_settles set (row ∷ delta) changes =
    let rest = settles set changes in record {
      makes = rest.makes;
      left = λ key said none. rest.left key silent (λ e. refl);
      drafts = rest.drafts;
      timing = omega (arith, rest.timing);
      draft = omega (arith, rest.draft);
    }

-- without changes no row is added
pub dropping_adds : (set : Rows) (delta : List Change) → AllByRecursion AddsNone (commit_rows set delta [])
dropping_adds set [] = tt
dropping_adds set (row ∷ delta) = (tt, tt)
