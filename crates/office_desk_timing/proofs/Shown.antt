-- What the queries answer, on the rows that were read, is a step of the office.
use Rattle.std.proofs.Common.{◌≡◌, ℕ, List, [], Option, Some, None, refl, ap, sym, subst, ◌∙◌, option_map, arith}
use Rattle.std.specs.FinMap.{get, len}
use Rattle.signal_records.specs.{TimingSet.Rows, TimingSet.after_changes, declared.state.DbState.DbState, declared.state.Holder.Holder, declared.state.Verdict.Verdict}
use Rattle.signal_rules.specs.{Violations.violations_of, declared.violation.Violation.Violation}
use Rattle.draft_core.specs.{DraftRows.RowsByKey, DraftRows.Stands, Transaction.Draft, Transaction.TimingSide, Transaction.holder_of, Transaction.state_of, Transaction.state_of_holder, Transaction.verdict_of}
use Rattle.draft_core.proofs.{Overlaid.draft_is}
use Rattle.office_tables_shelf.specs.{Content.Content, Shelf.CountsTiming, Shelf.ReadsIntersection, declared.rows.IntersectionRow.IntersectionRow}
use Rattle.office_machine.specs.{Office.Office, Office.Intersection, Office.side_of, Step.answered, Step.shown, Step.state_shown, Step.draft_shown, Step.timing_shown, declared.reply.Reply.Reply}
use Rattle.office_tables_decisions.specs.{Committed.IsCommittedSet, StandFor.StandForSound}
use Rattle.office_desk_timing.specs.{Decisions.IsVerdictOf, Reading.Finds, declared.reading.ReadIntersection.ReadIntersection}
use Rattle.office_desk_timing.proofs.{IntersectionTable.not_there, IntersectionTable.sound_there, IntersectionTable.there, ReadBack.committed_read, ReadBack.found_there, ListedIntersections.committed_counted}
use Rattle.draft_core.specs.declared.timing.Reach.TheVariants as reach
use Rattle.office_machine.specs.declared.command.Command.TheVariants as command
use Rattle.office_machine.specs.declared.reply.Reply.TheVariants as reply

-- a query shows what there is
shows : (office : Office) (id : ℕ) (show : Intersection → Reply) (said : Reply) (i : Intersection) → get office.intersections id ≡ Some i → show i ≡ said
    → ◌≡◌ {A = Reply × Office} (shown (get office.intersections id) show, office) (said, office)
shows office id show said i there same = ap (λ (told : Reply). (told, office)) (ap (λ o. shown o show) there ∙ same)

-- ---- State

same_holding : (d : Option Draft) → (state_of d ≡ state_of_holder (option_map holder_of d)) × (option_map (λ (x : Draft). x.owner) d ≡ option_map (λ (h : Holder). h.owner) (option_map holder_of d))
same_holding d = (grind arith, grind arith)

pub state_shows : (tables : Content) (office : Office) (id : ℕ) (row : IntersectionRow) (count : ℕ) (verdict : Verdict) (state : DbState) (owner : Option (List ℕ))
    → StandForSound tables office → ReadsIntersection tables id (Some row) → CountsTiming tables id count → IsVerdictOf tables id row verdict
    → state ≡ state_of_holder row.holder → owner ≡ option_map (λ (holder : Holder). holder.owner) row.holder
    → answered office (command.State id) ≡ (
      reply.State (record {
        id = id;
        interval = row.interval;
        name = row.name;
        owner = owner;
        revision = row.revision;
        rows = count;
        state = state;
        verify = verdict;
      }),
      office,
    )
state_shows tables office id row count verdict state owner stands reads counted judged in_state owned =
    let at = there tables office id stands row reads in
    let held = same_holding at.0.timing.draft in
    let rows : len at.0.timing.committed ≡ count = sym (counted ∙ committed_counted tables office id stands ∙ ap (λ (o : Option Intersection). len (side_of o).committed) at.1) in
    let verify = sym (judged office at.0 stands at.1 at.2) in
    shows office id (λ i. reply.State (state_shown id i)) _ at.0 at.1 (λ k. reply.State (record {
      id = id;
      interval = (sym at.2 k).interval;
      name = (sym at.2 k).name;
      owner = (held.1 ∙ ap (λ (r : IntersectionRow). option_map (λ (h : Holder). h.owner) r.holder) (sym at.2) ∙ sym owned) k;
      revision = (sym at.2 k).revision;
      rows = rows k;
      state = (held.0 ∙ ap (λ (r : IntersectionRow). state_of_holder r.holder) (sym at.2) ∙ sym in_state) k;
      verify = verify k;
    }))

-- the verdict that draft_core reads from what was found
pub verdict_found : (tables : Content) (id : ℕ) (row : IntersectionRow) (found : ReadIntersection)
    (verdict : Verdict) → Finds reach.Plan tables id (Some found)
    → ((rows : RowsByKey) (side : TimingSide) → Stands reach.Plan found.timing rows side
    → violations_of side.committed ≡ [] → verdict ≡ verdict_of side.draft)
    → IsVerdictOf tables id row verdict
verdict_found tables id row found verdict finds reads office i stands there is =
    let at = found_there reach.Plan tables office id found stands finds in
    let same : at.i ≡ i = let f : Some at.i ≡ Some i = sym at.there ∙ there in cc in
    subst (λ (j : Intersection). verdict ≡ verdict_of j.timing.draft) same
    (reads _ at.i.timing at.stands (sound_there tables office id stands at.i at.there).1.no_violations)

pub no_verdict : (tables : Content) (id : ℕ) (row : IntersectionRow) (verdict : Verdict)
    → Finds reach.Plan tables id None → IsVerdictOf tables id row verdict
no_verdict tables id row verdict finds office i stands there is =
    absurd (let f : Some i ≡ None = sym there ∙ not_there tables office id stands finds in let g : Some i ≡ None = f in cc)

-- ---- Timing

pub timing_shows : (tables : Content) (office : Office) (id : ℕ) (row : IntersectionRow) (set : Rows)
    → StandForSound tables office → ReadsIntersection tables id (Some row) → IsCommittedSet tables id set
    → answered office (command.Timing id) ≡ (reply.Timing (record { name = row.name; revision = row.revision; rows = set }), office)
timing_shows tables office id row set stands reads is =
    let at = there tables office id stands row reads in
    let same = sym (committed_read tables office id set stands is ∙ ap (λ (o : Option Intersection). (side_of o).committed) at.1) in
    shows office id (λ i. reply.Timing (timing_shown i)) _ at.0 at.1
    (λ k. reply.Timing (record { name = (sym at.2 k).name; revision = (sym at.2 k).revision; rows = same k }))

-- ---- Draft

held_draft : (d : Option Draft) (holder : Holder) → Some holder ≡ option_map holder_of d → (draft : Draft) × (d ≡ Some draft) × (holder_of draft ≡ holder)
held_draft None holder e = absurd cc
held_draft (Some draft) holder e = (draft, refl, let same : holder_of draft ≡ holder = cc in same)

module _ (tables : Content) (office : Office) (id : ℕ) (found : ReadIntersection) (stands : StandForSound tables office) (finds : Finds reach.Plan tables id (Some found)) where
  -- nobody holds one
  pub no_draft_shows : found.timing.holder ≡ None → answered office (command.Draft id) ≡ (draft_shown None, office)
  no_draft_shows free =
      let at = found_there reach.Plan tables office id found stands finds in
      let same = at.stands.same_holder in
      shows office id (λ j. draft_shown j.timing.draft) _ at.i at.there (grind arith)

  -- the draft is shown whole, with what it breaks
  pub draft_shows : (holder : Holder) (rows : Rows) (violations : List Violation) → found.timing.holder ≡ Some holder
      → rows ≡ after_changes found.timing.committed found.timing.delta → violations ≡ violations_of rows
      → answered office (command.Draft id) ≡ (reply.Draft (record { owner = holder.owner; rows = rows; violations = violations }), office)
  draft_shows holder rows violations held made judged =
      let at = found_there reach.Plan tables office id found stands finds in
      let it = held_draft at.i.timing.draft holder (sym held ∙ at.stands.same_holder) in
      let same : it.0.set ≡ rows = sym (made ∙ draft_is at.stands it.0 it.1) in
      shows office id (λ j. draft_shown j.timing.draft) _ at.i at.there (ap draft_shown it.1
      ∙ (λ k. reply.Draft (record { owner = (it.2 k).owner; rows = same k; violations = (ap violations_of same ∙ sym judged) k })))
