-- What an edit of a plan is answered, on what was found, is a run of its steps, all of them or none.
use Rattle.std.proofs.Common.{◌≡◌, ℕ, Bool, List, [], ◌∷◌, ◌++◌, map, Option, Some, None, Result, Ok, Err, refl, ap, sym, subst, ◌∙◌, length, ◌≢◌, inl, inr, arith}
use Rattle.std.proofs.{Math.Path.subst₂, lemmas.List.length-map}
use Rattle.std.specs.{Cmp.tied_itself, List.AllByRecursion, List.Sorted.IsStrictlySortedBy, Option.option_map, Prelude.IfOk}
use Rattle.signal_values.specs.{Words.AreWords}
use Rattle.signal_records.specs.{declared.record.Change.Change, ChangedRows.changed_key, Key.key_cmp, KeyOrder.key_total, TimingSet.Rows, TimingSet.after_changes, declared.state.DbState.DbState, declared.state.DbState.TheVariants.Normal}
use Rattle.signal_rules.specs.{declared.violation.Violation.Violation}
use Rattle.signal_plans.specs.Difference.{AreTold, change_of, difference_changes, place_of}
use Rattle.signal_plans.specs.{declared.difference.Difference.Difference}
use Rattle.draft_core.specs.Revising.{and_then, committing, lines_of, taking_up, base_of, Revises, RevisionWrites, WritesRows, revision_steps}
use Rattle.draft_core.specs.Transaction.{Draft, TimingSide, table_line, holder_of}
use Rattle.draft_core.specs.{Steps.asked_changes, Within.AreChangesWithin, declared.refusal.DraftRefusal.DraftRefusal, declared.step.Step.Step, declared.step.Step.TheVariants.Edit, DraftRows.RowsByKey, DraftRows.Stands, News.AreInOrder, declared.timing.Reach.TheVariants.Plan, declared.timing.Timing.Timing, Moves.drafted_in, declared.refusal.DraftRefusal.TheVariants.NoMemory, declared.timing.Move.Move}
use Rattle.draft_core.proofs.{Overlaid.base_is}
use Rattle.office_tables_shelf.specs.{Content.Content, Shelf.ListsDraft, declared.shelf.ShelfFault.ShelfFault}
use Rattle.office_machine.specs.{Office.Intersection, Office.side_at, Office.side_of, declared.reply.Reply.Reply, declared.reply.Reply.TheVariants.Same, declared.reply.Reply.TheVariants.Moved, declared.reply.Reply.TheVariants.Refused}
use Rattle.office_tables_decisions.specs.{declared.decided.Decided.Decided}
use Rattle.office_desk_timing.specs.Revising.{AreChangesTo, IsCommittedAlready, PlansChanges, plan_asked, plan_from, AnswersAnyEdit, DecidesEdit, EditWrites, IsEditDecision, IsMoved}
use Rattle.office_desk_timing.specs.Moving.{TellsDecision, rows_of_move, rows_to, said_to}
use Rattle.office_desk_timing.specs.{declared.revising.PlanEdit.PlanEdit, Reading.Finds, declared.reading.ReadIntersection.ReadIntersection}
use Rattle.office_desk_timing.proofs.Turns.{all_are}
use Rattle.office_desk_timing.proofs.Transactions.{comes, if_ok, listed_many, news_to, none_written, refused_to, undamaged_to, written}
use Rattle.office_desk_timing.proofs.{Keeps.IsSoundSide, Keeps.line_keeps, IntersectionTable.not_there, ReadBack.found_there}
use Rattle.office_tables_shelf.specs.declared.rows.Table.TheVariants as table
use Rattle.office_tables_shelf.specs.declared.shelf.ShelfFault.TheVariants as fault
use Rattle.office_machine.specs.declared.refusal.Refusal.TheVariants as refusal

-- ---- what the lines keep

-- the step asks for changes within their limits
abbrev AsksWithin : Step → Type 0
AsksWithin step = AreChangesWithin (asked_changes step)

-- a sound timing side stays sound
pub lines_keep : (clerk : List ℕ) → AreWords 40 clerk → (last : TimingSide) (steps : List Step) (side : TimingSide)
    → AllByRecursion AsksWithin steps → IsSoundSide side → lines_of clerk steps side ≡ Ok last → IsSoundSide last
lines_keep clerk words last [] side within sound is = subst IsSoundSide (let same : side ≡ last = cc in same) sound
lines_keep clerk words last (step ∷ steps) side within sound is =
    elim (table_line step clerk side) as (λ l. table_line step clerk side ≡ l
    → and_then l (lines_of clerk steps) ≡ Ok last → IsSoundSide last) [
      | Ok next ↦ λ line rest. lines_keep clerk words last steps next within.1
          (line_keeps step clerk side next words within.0 sound line) rest
      | Err why ↦ λ line rest. absurd (let f : Err why ≡ Ok last = rest in cc)
    ] refl is

pub revision_within : (held : Option Draft) (edits : List Change) (commits : Bool) (violations : List Violation)
    → AreChangesWithin edits
    → AllByRecursion AsksWithin (taking_up held ++ Edit edits ∷ committing commits violations)
revision_within held edits commits violations within = grind arith

-- ---- changes to another set

change_places : (found : List Difference)
    → map place_of found ≡ map changed_key (difference_changes found)
change_places [] = refl
change_places (d ∷ ds) = grind (arith, change_places ds)

-- a set does not differ from itself
none_told : (first second : Rows) (found : List Difference) → AreTold first second found → second ≡ first → found ≡ []
none_told first second [] told same = refl
none_told first second (d ∷ ds) told same =
    let here = told.explained (place_of d) in
    let tie = tied_itself key_total (place_of d) in
    absurd (grind (arith, here, tie))

module _ {first second : Rows} {changes : List Change} (to : AreChangesTo first second changes) where
  -- they are in the order of their keys, one for each difference
  pub changes_in_order : AreInOrder changes
  changes_in_order = subst AreInOrder (sym to.are)
      (subst (IsStrictlySortedBy key_cmp) (change_places to.found) to.told.ascending)

  pub changes_counted : length changes ≡ length to.found
  changes_counted = ap length to.are ∙ length-map to.found change_of

  changes_none : second ≡ first → changes ≡ []
  changes_none same = to.are ∙ ap difference_changes (none_told first second to.found to.told same)

-- ---- the plan that an edit asks for, of a timing side

module _ {timing : Timing} {rows : RowsByKey} {side : TimingSide} {edit : PlanEdit}
    {edits settled : List Change} (stands : Stands Plan timing rows side)
    (plans : PlansChanges timing edit edits settled) where
  pub edits_make : AreChangesTo (base_of side) (plan_asked edit side) edits
  edits_make = subst (λ base. AreChangesTo base (plan_from edit base) edits) (base_is stands) plans.of_base

  pub settled_make : AreChangesTo side.committed (plan_asked edit side) settled
  settled_make = subst₂ (λ first base. AreChangesTo first (plan_from edit base) settled)
      stands.read.1 (base_is stands) plans.of_committed

  -- nothing is to be done
  pub idle_asks : IsCommittedAlready edit side → (timing.holder ≡ None) × (settled ≡ [])
  idle_asks idle = (stands.same_holder ∙ ap (option_map holder_of) idle.0, changes_none settled_make idle.1)

  pub asks_idle : timing.holder ≡ None → settled ≡ [] → IsCommittedAlready edit side
  asks_idle free none = (
    (let same = stands.same_holder in grind arith),
    sym settled_make.make ∙ ap (after_changes side.committed) none,
  )

-- ---- the decision

module _ (is_honest : Type 0) (tables : Content) (id : ℕ) (clerk : List ℕ) (edit : PlanEdit) where
  -- a reply for which no row is written
  pub told : (said : Reply) → ((side : TimingSide) → EditWrites tables id edit side said [])
      → ¬ IsMoved said → said ≢ Refused refusal.Damaged → (is_honest → AnswersAnyEdit tables id clerk edit said tables)
      → IsEditDecision is_honest tables id clerk edit said []
  told said none still never answers = record {
    step = answers;
    writes = λ honest office stands. none (side_at office id);
    news = λ honest. tt;
    made = λ went_on. absurd (still went_on);
    refused = λ refused. refl;
    damaged = λ e. absurd (never e);
  }

  -- of an intersection that is not there
  pub unknown_edit : (is_honest → Finds Plan tables id None)
      → IsEditDecision is_honest tables id clerk edit (Refused refusal.UnknownIntersection) []
  unknown_edit finds = told _ (λ side. refl) (λ went_on. went_on) (λ e. cc) (λ honest office stands.
      record { next = office; step = inr (rw (not_there tables office id stands (finds honest)) (refl, refl)); stand = stands })

  -- of one that was found
  module _ (found : ReadIntersection) {edits settled : List Change} (plans : PlansChanges found.timing edit edits settled)
      (finds : is_honest → Finds Plan tables id (Some found)) where
    -- nothing is to be done
    pub idle_edit : (found.timing.holder ≡ None) × (settled ≡ []) → IsEditDecision is_honest tables id clerk edit Same []
    idle_edit none = told _ (λ side. refl) (λ went_on. went_on) (λ e. cc) (λ honest office stands.
        let at = found_there Plan tables office id found stands (finds honest) in
        let idle = asks_idle at.stands plans none.0 none.1 in
        record { next = office; step = inr (rw at.there (inl (idle, refl, refl))); stand = stands })

    edit_writes : {rows : RowsByKey} {side : TimingSide} → Stands Plan found.timing rows side → ListsDraft tables id found.timing.delta
        → (move : Move) (now : DbState) → WritesRows now found.timing.delta edits settled move.changes
        → EditWrites tables id edit side (Moved move.revision now move.verdict) (rows_of_move id clerk found move)
    edit_writes stands lists move Normal count =
        let to = settled_make stands plans in (
          to.found,
          to.told,
          omega (arith, none_written id table.Intersection refl refl move.changes),
          omega (arith, (written id move.changes).0 ∙ count.0 ∙ changes_counted to),
          omega (arith, (written id move.changes).1 ∙ count.1, listed_many tables id found.timing.delta lists),
        )
    edit_writes stands lists move _ count =
        let to = edits_make stands plans in (
          to.found,
          to.told,
          omega (arith, none_written id table.Intersection refl refl move.changes),
          omega (arith, (written id move.changes).0 ∙ count.0),
          omega (arith, (written id move.changes).1, count.1, changes_counted to),
        )

    writes_to : {rows : RowsByKey} {side : TimingSide} → Stands Plan found.timing rows side → ListsDraft tables id found.timing.delta
        → (decision : Result Move DraftRefusal) → IfOk decision (RevisionWrites found.timing edits settled)
        → EditWrites tables id edit side (said_to decision) (rows_to id clerk found decision)
    writes_to stands lists (Ok move) writes = edit_writes stands lists move move.state writes.rows
    writes_to stands lists (Err why) writes = refl

    made_to : (decision : Result Move DraftRefusal) → IsMoved (said_to decision) → rows_to id clerk found decision ≢ []
    made_to decision went_on empty = grind arith

    -- the steps were taken, up to the first that is refused
    revised : AreWords 40 clerk → (found.timing.holder ≡ None → settled ≡ [] → ⊥) → (decision : Result Move DraftRefusal) → decision ≢ Err NoMemory
        → Revises found.timing clerk edits settled edit.commits decision
        → IsEditDecision is_honest tables id clerk edit (said_to decision) (rows_to id clerk found decision)
    revised words busy decision wants revises = record {
      step = λ honest office stands.
          let it = comes Plan tables id clerk found decision (λ side. lines_of clerk (revision_steps side edits edit.commits) side) wants
          (if_ok decision (λ move writes. writes.drafts plans.within) revises.writes)
          (λ side next sound. lines_keep clerk words next (revision_steps side edits edit.commits) side (revision_within side.draft edits edit.commits _ plans.within) sound)
          (λ rows side at none. revises.line rows side at none ((edits_make at plans).make ∙ sym (settled_make at plans).make))
          (finds honest) office stands in
          record {
            next = it.1.0;
            step = inr (rw it.0.there (inr (
              λ idle. let none = idle_asks it.0.stands plans idle in busy none.0 none.1,
              edits,
              plans.within,
              (edits_make it.0.stands plans).make,
              all_are office id clerk it.0.i (taking_up it.0.i.timing.draft) (Edit edits) (committing edit.commits _) it.0.there ∙ it.1.1,
            )));
            stand = it.1.2;
          };
      writes = λ honest office stands.
          let at = found_there Plan tables office id found stands (finds honest) in
          subst (λ (o : Option Intersection). EditWrites tables id edit (side_of o) (said_to decision) (rows_to id clerk found decision)) (sym at.there)
          (writes_to at.stands (finds honest).1.0 decision revises.writes);
      news = λ honest. news_to tables id clerk found Plan decision (finds honest).1
          (if_ok decision (λ move writes order. writes.news order (changes_in_order plans.of_committed)) revises.writes);
      made = made_to decision;
      refused = refused_to tables id clerk found decision;
      damaged = λ e. absurd (undamaged_to decision e);
    }

    pub edit_decided : AreWords 40 clerk → (decision : Result Move DraftRefusal) → (found.timing.holder ≡ None → settled ≡ [] → ⊥)
        → Revises found.timing clerk edits settled edit.commits decision → (result : Result Decided ShelfFault)
        → TellsDecision id clerk found decision result → DecidesEdit is_honest tables id clerk edit result
    edit_decided words decision busy revises (Ok decided) tells =
        subst₂ (IsEditDecision is_honest tables id clerk edit) (sym tells.1) (sym tells.2) (revised words busy decision tells.0 revises)
    edit_decided words decision busy revises (Err other) tells =
        λ damaged. absurd (let f : fault.Damaged ≡ fault.NoMemory = sym damaged ∙ tells.1 in cc)
