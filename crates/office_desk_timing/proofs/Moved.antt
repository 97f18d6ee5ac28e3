-- The rows of a move make the tables stand for the office with the next timing side, and those that it adds are new in them.
use Rattle.std.proofs.Common.{◌≡◌, ℕ, Bool, true, false, not, List, [], ◌∷◌, cond, Option, Some, None, refl, ap, sym, subst, ◌∙◌, arith}
use Rattle.std.proofs.lemmas.Bool.{cond_both, false_from_ne_true}
use Rattle.std.specs.{List.AllByRecursion, FinMap.get, FinMap.insert, FinMap.get-insert, FinMap.get-remove, FinMap.get-retain_keys, Option.option_map, Ordering.eq_by_cmp}
use Rattle.cabinet_core.specs.Register.{Register}
use Rattle.signal_records.specs.{ChangedRows.changed_key, ChangedRows.left_by, Key.key_cmp, Row.key_of, TimingSet.Rows, declared.key.Key.Key, declared.record.Row.Row, declared.record.Change.Change, declared.record.Change.TheVariants.Put, declared.record.Change.TheVariants.Remove}
use Rattle.draft_core.specs.DraftRows.{Said, silent, leaves, removes, later_of, overlaid_row, row_at, said_by}
use Rattle.draft_core.specs.Moves.{Makes, committed_after, committed_by, drafted_in, next_holder, row_after, said_after}
use Rattle.draft_core.specs.declared.timing.TimingChange.TheVariants.{CommittedNew, Committed, DraftedNew, Drafted, DraftGone, DraftDropped}
use Rattle.draft_core.specs.{News.AddsNone, News.AddsOnlyNew, News.AreNewAt, Transaction.TimingSide, Within.AreChangesWithin, declared.timing.Move.Move, declared.timing.Reach.Reach, declared.timing.TimingChange.TimingChange}
use Rattle.office_tables_shelf.specs.{Cells.Cell, Cells.TableRows, Cells.cells_cmp, Change.AddNew, Change.AddsNew, Change.changed, Change.changed_by, Content.Content, Content.is_of, RegisterStands.RegisterStands, declared.rows.IntersectionRow.IntersectionRow, declared.rows.RowChange.TheVariants.PutIntersection}
use Rattle.office_tables_shelf.specs.Rows.{intersection_key, intersection_columns, timing_key, timing_columns, left_columns}
use Rattle.office_tables_shelf.proofs.{CellLemmas.cells_total, CellLemmas.cells_exact, CellLemmas.tied, KeyLemmas.draft_keys_rise, KeyLemmas.get_timing, KeyLemmas.of_itself, TreeLemmas.timing_ties}
use Rattle.office_machine.specs.{Office.Office, Office.Intersection, Office.side_of, Step.with_intersection}
use Rattle.office_tables_decisions.specs.StandFor.{StandFor, StandForSound, IsSaid, IsTimingKey, row_of, said_columns}
use Rattle.office_tables_decisions.proofs.DraftLemmas.{get_listed_draft}
use Rattle.office_desk_timing.specs.{Moving.moved_row, Moving.row_change_of, Moving.row_changes_of, Moving.rows_of_move, Reading.ReadsPlan, Reading.drafts_at, declared.reading.ReadIntersection.ReadIntersection}
use Rattle.office_desk_timing.proofs.{ReadBack.FoundThere, ReadBack.change_within, Stands.Spares, Stands.of_key, Stands.same_register, Stands.stand_after, Stands.unchanged}
use Rattle.draft_core.specs.declared.timing.Reach.TheVariants as reach

-- ---- one table of rows by the keys of intersections

-- under each key of one intersection stands what `next` makes of what stood there, in cells; no other row is changed
pub record Turns {X : Type 0} (cells : X → Option (List Cell)) (id : ℕ) (next : Key → X → X) (old new : TableRows) : Type 0 where
  pub here : (key : Key) (x : X) → get old (timing_key id key) ≡ cells x → get new (timing_key id key) ≡ cells (next key x)
  pub spares : Spares id old new

unturned : {X : Type 0} (cells : X → Option (List Cell)) (id : ℕ) (rows : TableRows) → Turns cells id (λ key x. x) rows rows
unturned cells id rows = record { here = λ key x is. is; spares = unchanged id rows }

module _ {X : Type 0} (cells : X → Option (List Cell)) (next : Bool → X → X) (stays : (x : X) → cells x ≡ cells (next false x))
    (id : ℕ) (old : TableRows) (put : Option (List Cell)) (puts : (x : X) → put ≡ cells (next true x)) where
  -- something is put, or nothing, under the cells that are hit, which are the intersection's own
  turned : (new : TableRows) (hits : List Cell → Bool) (hit : Key → Bool)
      → ((at : List Cell) → get new at ≡ cond (hits at) put (get old at)) → ((key : Key) → hits (timing_key id key) ≡ hit key)
      → ((at : List Cell) → hits at ≡ true → is_of id at ≡ true) → ((at columns : List Cell) → hits at ≡ true → put ≡ Some columns → IsTimingKey at)
      → Turns cells id (λ key. next (hit key)) old new
  turned new hits hit at here mine keyed = record {
    here = λ key x is. at (timing_key id key) ∙ (λ k. cond (here key k) put (is k))
        ∙ cond_both (hit key) put (cells x) (λ o. o ≡ cells (next (hit key) x)) (λ is. rw is (puts x)) (λ is. rw is (stays x));
    spares = record {
      others = λ q ne key. at (timing_key q key) ∙ ap (λ b. cond b put (get old (timing_key q key)))
          (false_from_ne_true (hits (timing_key q key)) (λ hit. ne (of_key id q key (mine (timing_key q key) hit))));
      keys = λ has cells columns there.
          cond_both (hits cells) put (get old cells) (λ o. o ≡ Some columns → IsTimingKey cells)
          (keyed cells columns) (λ miss. has cells columns) (sym (at cells) ∙ there);
    };
  }

  -- under one key
  turned_at : (k : Key) (new : TableRows) → ((at : List Cell) → get new at ≡ cond (eq_by_cmp cells_cmp at (timing_key id k)) put (get old at))
      → Turns cells id (λ key. next (eq_by_cmp key_cmp key k)) old new
  turned_at k new at = turned new (λ cells. eq_by_cmp cells_cmp cells (timing_key id k)) (λ key. eq_by_cmp key_cmp key k) at (λ key. timing_ties id key k)
      (λ cells hit. subst (λ c. is_of id c ≡ true) (sym (cells_exact _ _ (tied _ hit))) (of_itself id k))
      (λ cells columns hit is. (id, k, cells_exact _ _ (tied _ hit)))

-- ---- one change

-- the committed rows and the draft rows of one intersection are changed, and no other row
pub record Moves (id : ℕ) (committed : Key → Option Row → Option Row) (said : Key → Said → Said) (old new : Content) : Type 0 where
  pub intersection : new.intersection ≡ old.intersection
  pub timing : Turns (option_map timing_columns) id committed old.timing new.timing
  pub draft : Turns said_columns id said old.draft new.draft
  pub register : (r : Register) → RegisterStands old r → RegisterStands new r

module _ (id : ℕ) (tables : Content) where
  -- a committed row is put or removed, as this says of its key
  in_timing : (k : Key) (said : Said) (put : Option (List Cell)) (new : TableRows) → ((row : Option Row) → put ≡ option_map timing_columns (overlaid_row row said))
      → ((at : List Cell) → get new at ≡ cond (eq_by_cmp cells_cmp at (timing_key id k)) put (get tables.timing at))
      → Moves id (λ key row. overlaid_row row (cond (eq_by_cmp key_cmp key k) said silent)) (λ key said. said) tables (record tables { timing = new })
  in_timing k said put new puts at = record {
    intersection = refl;
    timing = turned_at (option_map timing_columns) (λ b row. overlaid_row row (cond b said silent)) (λ row. refl) id tables.timing put puts k new at;
    draft = unturned said_columns id tables.draft;
    register = same_register tables _ _ _;
  }

  put_row : (row : Row) → Moves id (committed_by (CommittedNew row)) (λ key said. said) tables (changed tables (row_change_of id (CommittedNew row)))
  put_row row = in_timing (key_of row) (leaves row) (Some (timing_columns row)) _ (λ c. refl) (get-insert cells_total tables.timing (timing_key id (key_of row)) (timing_columns row))

  in_draft : {said : Key → Said → Said} (new : TableRows) → Turns said_columns id said tables.draft new → Moves id (λ key row. row) said tables (record tables { draft = new })
  in_draft new turns = record { intersection = refl; timing = unturned (option_map timing_columns) id tables.timing; draft = turns; register = same_register tables _ _ _ }

  put_draft : (change : Change) → Moves id (λ key row. row) (said_after (Drafted change)) tables (changed tables (row_change_of id (Drafted change)))
  put_draft change = in_draft _ (turned_at said_columns (λ b said. later_of (cond b (said_by change) silent) said) (λ said. refl) id tables.draft
      (Some (left_columns (left_by change))) (λ said. grind arith) (changed_key change) _
      (get-insert cells_total tables.draft (timing_key id (changed_key change)) (left_columns (left_by change))))

  pub one_moves : (change : TimingChange) → Moves id (committed_by change) (said_after change) tables (changed tables (row_change_of id change))
  one_moves (CommittedNew row) = put_row row
  one_moves (Committed (Put row)) = put_row row
  one_moves (Committed (Remove k)) = in_timing k removes None _ (λ c. refl) (get-remove cells_total tables.timing (timing_key id k))
  one_moves (DraftedNew change) = put_draft change
  one_moves (Drafted change) = put_draft change
  one_moves (DraftGone k) = in_draft _ (turned_at said_columns (λ b said. cond b silent said) (λ said. refl) id tables.draft None (λ said. refl) k _
      (get-remove cells_total tables.draft (timing_key id k)))
  one_moves (DraftDropped rows) = in_draft _ (turned said_columns (λ b said. cond b silent said) (λ said. refl) id tables.draft None (λ said. refl) _
      (is_of id) (λ key. true)
      (λ at. get-retain_keys tables.draft (λ k. not (is_of id k)) at (λ k tie. ap (λ c. not (is_of id c)) (sym (cells_exact at k tie)))
      ∙ elim (is_of id at) as (λ b. cond (not b) (get tables.draft at) None ≡ cond b None (get tables.draft at)) [ true ↦ refl | false ↦ refl ])
      (of_itself id) (λ at hit. hit) (λ cells columns hit is. absurd cc))

-- ---- and all

then_turns : {X : Type 0} {cells : X → Option (List Cell)} {id : ℕ} {f g : Key → X → X} {old mid new : TableRows}
    → Turns cells id f old mid → Turns cells id g mid new → Turns cells id (λ key x. g key (f key x)) old new
then_turns first rest = record {
  here = λ key x is. rest.here key _ (first.here key x is);
  spares = record {
    others = λ q ne key. rest.spares.others q ne key ∙ first.spares.others q ne key;
    keys = λ has. rest.spares.keys (first.spares.keys has);
  };
}

all_move : (id : ℕ) (changes : List TimingChange) (tables : Content) → Moves id (committed_after changes) (row_after changes) tables (changed_by tables (row_changes_of id changes))
all_move id [] tables = in_draft id tables tables.draft (unturned said_columns id tables.draft)
all_move id (change ∷ changes) tables =
    let first = one_moves id tables change in
    let rest = all_move id changes (changed tables (row_change_of id change)) in
    record {
      intersection = rest.intersection ∙ first.intersection;
      timing = then_turns first.timing rest.timing;
      draft = then_turns first.draft rest.draft;
      register = λ r stands. rest.register r (first.register r stands);
    }

-- ---- the draft rows stay within their limits

one_within : (change : TimingChange) (changes : List TimingChange) (key : Key) (said : Said) → AreChangesWithin (drafted_in (change ∷ changes)) → IsSaid key said
    → IsSaid key (said_after change key said)
one_within (DraftedNew change) changes key said within before = change_within change key said within.0 before
one_within (Drafted change) changes key said within before = change_within change key said within.0 before
one_within _ changes key said within before = grind arith

after_within : (changes : List TimingChange) (key : Key) (said : Said)
    → AreChangesWithin (drafted_in changes) → IsSaid key said
    → IsSaid key (row_after changes key said)
after_within [] key said within before = before
after_within (change ∷ changes) key said within before = after_within changes key _ (grind arith) (one_within change changes key said within before)

-- ---- the tables after a move

abbrev pub with_timing_side : Intersection → TimingSide → Intersection
with_timing_side i next = record i { timing = next }

pub move_stands : {reach : Reach} (tables : Content) (office : Office) (id : ℕ) (found : ReadIntersection) (clerk : List ℕ) (move : Move) (next : TimingSide)
    → (stands : StandForSound tables office) (at : FoundThere reach tables id found office stands)
    → AreChangesWithin (drafted_in move.changes) → Makes (drafts_at stands.stand id) at.i.timing clerk move next
    → StandFor (changed_by tables (rows_of_move id clerk found move)) (with_intersection office id (with_timing_side at.i next))
move_stands tables office id found clerk move next stands at within makes =
    let stand = stands.stand in
    let first : Content = changed tables (PutIntersection id (moved_row found clerk move)) in
    let moves = all_move id move.changes first in
    let row : moved_row found clerk move ≡ row_of (with_timing_side at.i next) = λ k. record {
      name = (at.row k).name;
      interval = (at.row k).interval;
      revision = makes.same_revision k;
      holder = (ap (next_holder move.holder clerk) at.stands.same_holder ∙ makes.same_holder) k;
    } in
    stand_after tables (changed_by first (row_changes_of id move.changes)) office id (with_timing_side at.i next) stand (record {
      timing = moves.timing.spares;
      draft = moves.draft.spares;
      register = λ r same. moves.register r (same_register tables _ _ _ r same);
    }) (λ key. let held = stand.draft id key in record {
      timing = moves.timing.here key (get at.i.timing.committed key) (stand.timing id key
          ∙ ap (λ (o : Option Intersection). option_map timing_columns (get (side_of o).committed key)) at.there)
          ∙ ap (option_map timing_columns) (sym (makes.committed key));
      draft = record {
        said = row_after move.changes key held.said;
        stored = moves.draft.here key held.said held.stored;
        stands = makes.draft key;
        within = after_within move.changes key held.said within held.within;
      };
    }) (moves.intersection ∙ ap (λ (row : IntersectionRow). insert tables.intersection (intersection_key id) (intersection_columns row)) row)

-- ---- a move that adds none

none_added : (id : ℕ) (changes : List TimingChange) (tables : Content)
    → AllByRecursion AddsNone changes → AddNew tables (row_changes_of id changes)
none_added id [] tables none = tt
none_added id (change ∷ changes) tables none = (grind arith, none_added id changes _ none.1)

-- ---- a move over rows that were read

-- what the tables have under each key, over which the changes add only what is new
record Known (tables : Content) (id : ℕ) (committed : Key → Option Row) (said : Key → Said) (changes : List TimingChange) : Type 0 where
  timing : (key : Key) → get tables.timing (timing_key id key) ≡ option_map timing_columns (committed key)
  draft : (key : Key) → get tables.draft (timing_key id key) ≡ said_columns (said key)
  news : (key : Key) → AreNewAt changes key (committed key) (said key)

module _ (id : ℕ) (tables : Content) {committed : Key → Option Row} {said : Key → Said} where
  one_new : (change : TimingChange) (changes : List TimingChange) → Known tables id committed said (change ∷ changes) → AddsNew tables (row_change_of id change)
  one_new change changes known = grind (arith, known.timing, known.draft, known.news)

all_new : (id : ℕ) (changes : List TimingChange) (tables : Content) {committed : Key → Option Row} {said : Key → Said}
    → Known tables id committed said changes → AddNew tables (row_changes_of id changes)
all_new id [] tables known = tt
all_new id (change ∷ changes) tables {committed = committed} {said = said} known =
    let moves = one_moves id tables change in (
      one_new id tables change changes known,
      all_new id changes (changed tables (row_change_of id change)) (record {
        timing = λ key. moves.timing.here key (committed key) (known.timing key);
        draft = λ key. moves.draft.here key (said key) (known.draft key);
        news = λ key. (known.news key).1;
      }),
    )

-- ---- what was read

-- the rows of a move, after the intersection's own row
pub move_news : (r : Reach) (tables : Content) (id : ℕ) (found : ReadIntersection) (row : IntersectionRow) (changes : List TimingChange)
    → ReadsPlan r tables id found.timing.committed found.timing.delta → AddsOnlyNew r found.timing changes
    → AddNew tables (PutIntersection id row ∷ row_changes_of id changes)
move_news reach.Plan tables id found row changes reads adds =
    let delta = found.timing.delta in (
      tt,
      all_new id changes (changed tables (PutIntersection id row)) {committed = λ key. get found.timing.committed key} {said = λ key. row_at delta key} (record {
        timing = λ key. get_timing tables id reads.2.rows reads.2.lists key ∙ ap (λ (rows : Rows). option_map timing_columns (get rows key)) (sym reads.2.made);
        draft = λ key. get_listed_draft tables id delta reads.0 key;
        news = adds (draft_keys_rise tables id delta reads.0);
      }),
    )
move_news _ tables id found row changes reads adds = (tt, none_added id changes _ adds)
