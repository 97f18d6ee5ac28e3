-- What a command of the transaction answers, on what was found, is a step of the office.
use Rattle.std.proofs.Common.{◌≡◌, ◌≢◌, ◌≤◌, ℕ, false, List, [], ◌∷◌, length, Option, Some, None, Result, Ok, Err, refl, ap, sym, subst, ◌∙◌, inl, inr, subst₂, arith}
use Rattle.std.proofs.lemmas.List.{length-map}
use Rattle.std.specs.{FinMap.get, Prelude.IfOk}
use Rattle.signal_values.specs.Words.{AreWords}
use Rattle.signal_records.specs.{declared.record.Change.Change, declared.state.Holder.Holder}
use Rattle.signal_rules.specs.Violations.{violations_of}
use Rattle.draft_core.specs.Steps.{first_refusal, reach_of, IsLater, StepWrites, RefusesFirst, Takes, asked_changes, most_committed, most_drafted}
use Rattle.draft_core.specs.{DraftRows.RowsByKey, DraftRows.Stands, Moves.Follows, Moves.drafted_in, Moves.timing_writes, Moves.draft_writes, News.AddsOnlyNew, Transaction.TimingSide, Transaction.table_line, Within.AreChangesWithin, declared.refusal.DraftRefusal.DraftRefusal, declared.step.Step.Step, declared.timing.Move.Move, declared.timing.Reach.Reach, declared.timing.TimingChange.TimingChange, declared.step.Step.TheVariants.Commit, declared.step.Step.TheVariants.Abandon}
use Rattle.office_tables_shelf.specs.{Change.AddNew, Change.changed_by, Content.Content, Shelf.ListsDraft, Shelf.rows_of, Counts.is_same_table, Counts.writes_in, declared.rows.RowChange.RowChange, declared.rows.Table.Table, declared.shelf.ShelfFault.ShelfFault}
use Rattle.office_machine.specs.{Office.Office, Office.Intersection, Step.answered, Step.transacted, Step.moved, Step.with_intersection, declared.command.Command.Command, declared.reply.Reply.Reply, declared.reply.Reply.TheVariants.Moved, declared.reply.Reply.TheVariants.Refused}
use Rattle.office_tables_decisions.specs.{Asking.asking_command, Answers.Answers, Changes.IsRefused, Changes.most_writes, Named.RefusesBy, Named.numbers_of, Deciding.Decides, Deciding.IsDecision, StandFor.StandForSound, declared.decided.Decided.Decided}
use Rattle.office_tables_decisions.proofs.Decisions.{unknown_decides}
use Rattle.office_desk_timing.specs.Moving.{TellsDecision, moved_row, row_changes_of, rows_to, said_to}
use Rattle.office_desk_timing.specs.{Reading.Finds, Reading.ReadsPlan, Reading.drafts_at, declared.reading.ReadIntersection.ReadIntersection}
use Rattle.office_desk_timing.proofs.{IntersectionTable.not_there, IntersectionTable.sound_there, Keeps.IsSoundSide, Keeps.line_keeps, Keeps.sound_intersection, Moved.move_news, Moved.move_stands, Moved.with_timing_side, ReadBack.FoundThere, ReadBack.found_there, Stands.sound_with}
use Rattle.draft_core.specs.declared.refusal.DraftRefusal.TheVariants as draft
use Rattle.office_tables_shelf.specs.declared.rows.Table.TheVariants as table
use Rattle.office_tables_shelf.specs.declared.shelf.ShelfFault.TheVariants as fault
use Rattle.office_machine.specs.declared.refusal.Refusal.TheVariants as refusal

-- what follows from what is so of a move
pub if_ok : {A E : Type 0} {P Q : A → Type 0} (r : Result A E) → ((x : A) → P x → Q x) → IfOk r P → IfOk r Q
if_ok r more h = grind arith

-- ---- a line of the table is followed

pub by_line : (step : Step) (office : Office) (id : ℕ) (clerk : List ℕ) → answered office (asking_command id clerk step) ≡ transacted office id (table_line step clerk) (get office.intersections id)
by_line step office id clerk = grind arith

-- what comes of a line of the table: its reply, and the office, for which the tables then stand
abbrev pub Follow : Content → Office → ℕ → List ℕ → ReadIntersection → Result Move DraftRefusal → Intersection → Result TimingSide DraftRefusal → Type 0
Follow tables office id clerk found decision i l =
    (next : Office) × (moved office id i l ≡ (said_to decision, next)) × StandForSound (changed_by tables (rows_to id clerk found decision)) next

followed : {reach : Reach} (tables : Content) (office : Office) (id : ℕ) (clerk : List ℕ) (found : ReadIntersection) (stands : StandForSound tables office)
    (at : FoundThere reach tables id found office stands) (decision : Result Move DraftRefusal) (l : Result TimingSide DraftRefusal)
    → decision ≢ Err draft.NoMemory → IfOk decision (λ move. AreChangesWithin (drafted_in move.changes)) → ((next : TimingSide) → l ≡ Ok next → IsSoundSide next)
    → Follows (drafts_at stands.stand id) at.i.timing clerk decision l → Follow tables office id clerk found decision at.i l
followed tables office id clerk found stands at (Ok move) (Ok side) told drafts keeps makes =
    let next = with_intersection office id (with_timing_side at.i side) in
    let sound = sound_there tables office id stands at.i at.there in (
      next,
      λ k. (Moved (sym makes.same_revision k) (sym makes.same_state k) (sym makes.same_verdict k), next),
      record {
        stand = move_stands tables office id found clerk move side stands at drafts makes;
        sound = sound_with office id (with_timing_side at.i side) sound.0 stands.sound (sound_intersection at.i side sound.1 (keeps side refl));
      },
    )
followed tables office id clerk found stands at (Ok move) (Err why) told drafts keeps never = absurd never
followed tables office id clerk found stands at (Err why) l told drafts keeps (inl memory) = absurd (told (ap Err memory))
followed tables office id clerk found stands at (Err why) l told drafts keeps (inr same) = (office, ap (moved office id at.i) same, stands)

-- on what was found, by lines that keep a timing side sound and that the decision follows
pub comes : (reach : Reach) (tables : Content) (id : ℕ) (clerk : List ℕ) (found : ReadIntersection) (decision : Result Move DraftRefusal) (line : TimingSide → Result TimingSide DraftRefusal)
    → decision ≢ Err draft.NoMemory → IfOk decision (λ move. AreChangesWithin (drafted_in move.changes))
    → ((side next : TimingSide) → IsSoundSide side → line side ≡ Ok next → IsSoundSide next)
    → ((rows : RowsByKey) (side : TimingSide) → Stands reach found.timing rows side → violations_of side.committed ≡ [] → Follows rows side clerk decision (line side))
    → Finds reach tables id (Some found) → (office : Office) (stands : StandForSound tables office)
    → (at : FoundThere reach tables id found office stands) × Follow tables office id clerk found decision at.i (line at.i.timing)
comes reach tables id clerk found decision line told drafts keeps follows finds office stands =
    let at = found_there reach tables office id found stands finds in
    let sound = (sound_there tables office id stands at.i at.there).1 in (
      at,
      followed tables office id clerk found stands at decision (line at.i.timing) told drafts
          (λ next. keeps at.i.timing next (record { revision = sound.revision; rows = sound.rows; no_violations = sound.no_violations; draft = sound.draft }))
          (follows (drafts_at stands.stand id) at.i.timing at.stands sound.no_violations),
    )

-- ---- replies

pub undamaged_to : (decision : Result Move DraftRefusal) → said_to decision ≢ Refused refusal.Damaged
undamaged_to decision e = grind arith

module _ (tables : Content) (id : ℕ) (clerk : List ℕ) (found : ReadIntersection) where
  pub refused_to : (decision : Result Move DraftRefusal) → IsRefused (said_to decision) → rows_to id clerk found decision ≡ []
  refused_to decision refused = grind arith

  pub news_to : (reach : Reach) (decision : Result Move DraftRefusal) → ReadsPlan reach tables id found.timing.committed found.timing.delta → IfOk decision (λ move. AddsOnlyNew reach found.timing move.changes)
      → AddNew tables (rows_to id clerk found decision)
  news_to reach (Ok move) reads news = move_news reach tables id found (moved_row found clerk move) move.changes reads news
  news_to reach (Err why) reads news = tt

-- ---- how many rows are written

module _ (id : ℕ) where
  pub written : (changes : List TimingChange) → (writes_in table.Timing (row_changes_of id changes) ≡ timing_writes changes) × (writes_in table.Draft (row_changes_of id changes) ≡ draft_writes changes)
  written [] = (refl, refl)
  written (change ∷ changes) = let later = written changes in (grind (arith, later.0), grind (arith, later.1))

  -- other tables are not written
  pub none_written : (other : Table) → is_same_table table.Timing other ≡ false → is_same_table table.Draft other ≡ false → (changes : List TimingChange) → writes_in other (row_changes_of id changes) ≡ 0
  none_written other t d [] = refl
  none_written other t d (change ∷ changes) = let later = none_written other t d changes in grind (arith, later)

-- the draft rows that were read are those of the table
pub listed_many : (tables : Content) (id : ℕ) (changes : List Change) → ListsDraft tables id changes
    → length (rows_of id tables.draft) ≡ length changes
listed_many tables id changes lists = sym (ap length lists) ∙ length-map changes _

-- the bounds of a step, of the draft rows that were read
bounds : (tables : Content) (id : ℕ) (clerk : List ℕ) (found : ReadIntersection) (step : Step) → ReadsPlan (reach_of step) tables id found.timing.committed found.timing.delta
    → (most_writes tables (asking_command id clerk step) table.Intersection ≡ 1)
    × (most_writes tables (asking_command id clerk step) table.Timing ≡ most_committed step (length found.timing.delta))
    × (most_writes tables (asking_command id clerk step) table.Draft ≡ most_drafted step (length found.timing.delta))
bounds tables id clerk found Commit reads = let many = listed_many tables id found.timing.delta reads.0 in (refl, many, many)
bounds tables id clerk found Abandon reads = (refl, refl, listed_many tables id found.timing.delta reads.0)
bounds tables id clerk found _ reads = (refl, refl, refl)

-- the rows of an answer are within the command's bounds
few_to : (tables : Content) (id : ℕ) (clerk : List ℕ) (step : Step) (found : ReadIntersection) (decision : Result Move DraftRefusal) (other : Table)
    → ReadsPlan (reach_of step) tables id found.timing.committed found.timing.delta → IfOk decision (StepWrites step found.timing)
    → writes_in other (rows_to id clerk found decision) ≤ most_writes tables (asking_command id clerk step) other
few_to tables id clerk step found (Ok move) table.Intersection reads writes =
    omega (arith, (bounds tables id clerk found step reads).0, none_written id table.Intersection refl refl move.changes)
few_to tables id clerk step found (Ok move) table.Timing reads writes =
    omega (arith, (bounds tables id clerk found step reads).1, (written id move.changes).0, writes.committed)
few_to tables id clerk step found (Ok move) table.Draft reads writes =
    omega (arith, (bounds tables id clerk found step reads).2, (written id move.changes).1, writes.drafted)
few_to tables id clerk step found (Ok move) other reads writes = omega (arith, none_written id other refl refl move.changes)
few_to tables id clerk step found (Err why) other reads writes = omega arith

-- ---- the decision

module _ (is_honest : Type 0) (tables : Content) (id : ℕ) (clerk : List ℕ) (step : Step) where
  abbrev command : Command
  command = asking_command id clerk step

  named_to : (holder : Option Holder) (decision : Result Move DraftRefusal) → decision ≢ Err draft.NoMemory
      → RefusesFirst (first_refusal step holder clerk) (IsLater step) decision → RefusesBy (numbers_of command) (said_to decision)
  named_to holder decision told refuses = λ why e. grind arith

  -- on what was found
  pub transact_decides : (found : ReadIntersection) (decision : Result Move DraftRefusal) (result : Result Decided ShelfFault)
      → AreWords 40 clerk → AreChangesWithin (asked_changes step)
      → (is_honest → Finds (reach_of step) tables id (Some found))
      → Takes step found.timing clerk decision → TellsDecision id clerk found decision result → Decides is_honest tables command result
  transact_decides found decision (Ok decided) words within finds takes tells = record {
    step = λ honest office stands.
        let it = comes (reach_of step) tables id clerk found decision (table_line step clerk) tells.0
        (if_ok decision (λ move writes. writes.drafts within) takes.writes)
        (λ side next sound line. line_keeps step clerk side next words within sound line)
        (λ rows side at none. takes.line rows side at (grind arith)) (finds honest) office stands in
        subst₂ (λ (reply : Reply) (rows : List RowChange). Answers office command reply (changed_by tables rows)) (sym tells.1) (sym tells.2) (record {
          next = it.1.0;
          step = inr (by_line step office id clerk ∙ ap (transacted office id (table_line step clerk)) it.0.there ∙ it.1.1);
          stand = it.1.2;
        });
    writes = λ honest other. subst (λ (rows : List RowChange). writes_in other rows ≤ most_writes tables command other) (sym tells.2)
        (few_to tables id clerk step found decision other (finds honest).1 takes.writes);
    news = λ honest. subst (AddNew tables) (sym tells.2) (news_to tables id clerk found (reach_of step) decision (finds honest).1
        (if_ok decision (λ move writes. writes.news) takes.writes));
    refused = λ refused. tells.2 ∙ refused_to tables id clerk found decision (subst IsRefused tells.1 refused);
    query = λ query. absurd (grind arith);
    named = λ why e. named_to found.timing.holder decision tells.0 takes.refuses why (sym tells.1 ∙ e);
    damaged = λ e. undamaged_to decision (sym tells.1 ∙ e);
  }
  transact_decides found decision (Err other) words within finds takes tells = λ damaged. absurd (let f : fault.Damaged ≡ fault.NoMemory = sym damaged ∙ tells.1 in cc)

  -- on an intersection that is not there
  pub absent_decides : (decided : Decided) → (is_honest → Finds (reach_of step) tables id None)
      → decided.reply ≡ Refused refusal.UnknownIntersection → decided.changes.items ≡ [] → IsDecision is_honest tables command decided
  absent_decides decided finds told none =
      unknown_decides is_honest tables command decided told (grind arith) none (λ honest office stands.
      by_line step office id clerk ∙ ap (transacted office id (table_line step clerk)) (not_there tables office id stands (finds honest)))
