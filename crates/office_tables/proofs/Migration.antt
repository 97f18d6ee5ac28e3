-- The tables after the rows were put in their place, and the office that they stand for.
use Rattle.std.proofs.Common.{◌≡◌, inl, inr, ℕ, true, false, T, List, [], ◌∷◌, map, find, length, if◌then◌else◌, Option, Some, None, option_map, refl, sym, ap, subst, ◌∙◌, arith, true≢false, Bool, rules}
use Rattle.std.proofs.{lemmas.Option.IfSome_then, lemmas.Bool.cases_Bool}
use Rattle.std.specs.FinMap.{get, insert, entries, entries_sorted, get-entries, get-insert, get-empty, same_map, is_sorted}
use Rattle.std.specs.{List.AllByRecursion, Ordering.is_eq, FinMap.Entries.below_all, Prelude.IfSome, Prelude.IsTrue}
use Rattle.sqlite_rules.proofs.ListLemmas.{all_has, has_found}
use Rattle.signal_records.specs.{PhaseList.is_phase_list, Row.key_of, Within.current_limits, Within.version_1_limits, Within.IsAnyPedWithin, Within.IsRowWithin, Within.IsKeyWithin, Key.key_cmp, declared.key.Key.Key, declared.limits.Limits.Limits, declared.record.Change.TheVariants.Put, declared.record.Change.TheVariants.Remove, declared.record.Ped.Ped, declared.record.Phase.Phase, declared.record.Row.Row, TimingSet.Rows as Set, ChangedRows.left_by, ChangedRows.changed_key}
use Rattle.signal_records.proofs.{Lists.is_phase_list_wider, RowLaws.are_version_1}
use Rattle.signal_rules.specs.{BeforeLead.HasNoLead, BeforeLead.violations_before_lead, Lookup.the_phase, Violations.violations_of}
use Rattle.signal_rules.proofs.BeforeLead.{same_violations}
use Rattle.draft_core.specs.DraftRows.{Said, silent, leaves, removes}
use Rattle.office_tables_shelf.specs.{Cells.Cell, Cells.text, Cells.TableRows, Cells.cells_cmp, Cells.rows_by, Change.changed, Change.changed_by, Content.Content, Rows.timing_key, Rows.timing_columns_in, Rows.left_columns_in, Rows.body_in, RegisterStands.RegisterStands, Content.put_in, Content.rows_at, Content.with_rows}
use Rattle.office_machine.specs.Office.{Office, Intersection, side_at, side_of, AreRecordsIn, IsSoundIntersectionIn, IsSoundDraftIn, today, version_1}
use Rattle.office_tables_decisions.specs.StandFor.{IsTimingKey, HasTimingKeys, IsSaidIn, said_columns_in, StandForSoundIn}
use Rattle.office_tables_shelf.proofs.CellLemmas.{cells_total, cells_exact, is_under, find_entry, get_by, tied}
use Rattle.office_tables_shelf.proofs.{ListLemmas.less, ListLemmas.parts, RowLemmas.same_left}
use Rattle.office_tables_statements.specs.Tables.{stored_for}
use Rattle.office_tables.specs.Rewritten.{AreKept, IsFormer, KeptRow, former_columns, has_ped, kept_key, put_again, puts, spelled_table}
use Rattle.office_tables.specs.{Migration.kept_columns, Migration.IsMigrated, Migration.StandAnew, declared.rewritten.Migrated.Migrated, declared.rewritten.Spelled.Spelled, declared.rewritten.Spelled.TheVariants.Timing, declared.rewritten.Spelled.TheVariants.Draft}
use Rattle.office_tables.proofs.MovedLemmas.{its_rows, last_rows, own_rows}
use Rattle.std.specs.FinMap as finite
use Rattle.signal_records.specs.declared.key.Key.TheVariants as key
use Rattle.signal_records.specs.declared.record.Row.TheVariants as row

-- ---- the rows that are put

-- the table with a row put where it is spelled otherwise
abbrev step : TableRows → KeptRow → TableRows
step rows k = if has_ped k.1 then insert rows (kept_key k) (kept_columns k) else rows

abbrev puts_in : TableRows → List KeptRow → TableRows
puts_in rows [] = rows
puts_in rows (k ∷ ks) = puts_in (step rows k) ks

one_put : (t : Spelled) (tables : Content) (k : KeptRow) → has_ped k.1 ≡ true → changed tables (put_again t k) ≡ put_in tables (spelled_table t) (kept_key k) (kept_columns k)
one_put Timing tables (id, Put r) some = refl
one_put Timing tables (id, Remove key) some = absurd (true≢false (sym some))
one_put Draft tables k some = refl

-- the changes put these rows
all_put : (t : Spelled) (tables : Content) (ks : List KeptRow) → changed_by tables (puts t ks) ≡ with_rows tables (spelled_table t) (puts_in (rows_at tables (spelled_table t)) ks)
all_put t tables [] = sym (own_rows (spelled_table t) tables)
all_put t tables (k ∷ ks) = elim (cases_Bool (has_ped k.1)) [
  | inl some ↦
      let rows = insert (rows_at tables (spelled_table t)) (kept_key k) (kept_columns k) in
      rw some (ap (λ (c : Content). changed_by c (puts t ks)) (one_put t tables k some) ∙ all_put t (with_rows tables (spelled_table t) rows) ks
      ∙ last_rows (spelled_table t) tables rows _ ∙ ap (λ (r : TableRows). with_rows tables (spelled_table t) (puts_in r ks)) (its_rows (spelled_table t) tables rows))
  | inr none ↦ rw none (all_put t tables ks)
]

-- ---- what then stands under a key

-- what is spelled alike in both versions
phase_alike : (p : ℕ) (phase : Phase) (ped : Option Ped) → phase.ped ≡ ped → has_ped (Put (row.Phase p phase)) ≡ false → body_in version_1_limits (row.Phase p phase) ≡ body_in current_limits (row.Phase p phase)
unfolding body_in
phase_alike p phase None is none = rw is refl
phase_alike p phase (Some ped) is none = absurd (true≢false (rw is at none))

alike : (k : KeptRow) → has_ped k.1 ≡ false → former_columns k ≡ kept_columns k
unfolding body_in
alike (id, Put (row.Phase p phase)) none = ap (λ (bytes : List ℕ). text bytes ∷ []) (phase_alike p phase phase.ped refl none)
alike _ none = refl

module _ (q : List Cell) where
  abbrev hits : KeptRow → Bool
  hits = is_under kept_key kept_columns q

  hit_step : (rows : TableRows) (k : KeptRow) → hits k ≡ true → get rows q ≡ Some (former_columns k) → get (step rows k) q ≡ Some (kept_columns k)
  hit_step rows k hit is = elim (cases_Bool (has_ped k.1)) [
    | inl some ↦ rw some (rw (get-insert cells_total rows (kept_key k) (kept_columns k) q, hit))
    | inr none ↦ rw none (is ∙ ap Some (alike k none))
  ]

  missed_step : (rows : TableRows) (k : KeptRow) → hits k ≡ false → get (step rows k) q ≡ get rows q
  missed_step rows k miss = elim (cases_Bool (has_ped k.1)) [
    | inl some ↦ rw some (rw (get-insert cells_total rows (kept_key k) (kept_columns k) q, miss))
    | inr none ↦ rw none refl
  ]

  missed : (rows : TableRows) (ks : List KeptRow) → AllByRecursion (λ k. hits k ≡ false) ks → get (puts_in rows ks) q ≡ get rows q
  missed rows [] none = refl
  missed rows (k ∷ ks) none = missed (step rows k) ks none.1 ∙ missed_step rows k none.0

  -- no later row of a list in order has the key of the first
  apart_after : (k : KeptRow) (ks : List KeptRow) → T (below_all cells_cmp (kept_key k) (map (stored_for kept_key former_columns) ks)) → hits k ≡ true → AllByRecursion (λ x. hits x ≡ false) ks
  apart_after k [] below hit = tt
  apart_after k (x ∷ ks) below hit =
      let p = parts _ _ below in
      (ap (λ (c : List Cell). is_eq (cells_cmp c (kept_key x))) (cells_exact q (kept_key k) (tied _ hit)) ∙ ap is_eq (less _ p.0), apart_after k ks p.1 hit)

  spelled : (rows : TableRows) (ks : List KeptRow) → T (is_sorted cells_cmp (map (stored_for kept_key former_columns) ks)) → get rows q ≡ option_map former_columns (find hits ks)
      → get (puts_in rows ks) q ≡ option_map kept_columns (find hits ks)
  spelled rows [] sorted is = is
  spelled rows (k ∷ ks) sorted is =
      let p = parts _ _ sorted in
      elim (cases_Bool (hits k)) [
        | inl hit ↦ rw hit (missed (step rows k) ks (apart_after k ks p.0 hit) ∙ hit_step rows k hit (rw hit at is))
        | inr miss ↦ rw miss (spelled (step rows k) ks p.1 (missed_step rows k miss ∙ rw miss at is))
      ]

module _ (t : Spelled) (rows : TableRows) (ks : List KeptRow) (kept : AreKept t (entries rows) ks) where
  was : (q : List Cell) → get rows q ≡ option_map former_columns (find (hits q) ks)
  was q = get-entries rows q ∙ ap (finite.find cells_cmp q) (sym kept.stored) ∙ find_entry kept_key former_columns ks q

  -- the rows of version 1, each as it is spelled today
  anew : puts_in rows ks ≡ rows_by kept_key kept_columns ks
  anew =
      let sorted : T (is_sorted cells_cmp (map (stored_for kept_key former_columns) ks)) = subst (λ es. T (is_sorted cells_cmp es)) (sym kept.stored) (entries_sorted rows) in
      same_map cells_total cells_exact _ _ (λ q. spelled q rows ks sorted (was q) ∙ sym (get_by kept_key kept_columns ks q))

-- the tables after the puts
pub migrated : (old : Content) (timing drafts : List KeptRow) → AreKept Timing (entries old.timing) timing → AreKept Draft (entries old.draft) drafts
    → IsMigrated old (changed_by (changed_by old (puts Timing timing)) (puts Draft drafts)) (record { timing = length (puts Timing timing); draft = length (puts Draft drafts) })
migrated old timing drafts timing_kept drafts_kept =
    let first = anew Timing old.timing timing timing_kept in
    let second = anew Draft old.draft drafts drafts_kept in
    let mid = ap (λ (c : Content). changed_by c (puts Draft drafts)) (all_put Timing old timing) ∙ all_put Draft (record old { timing = puts_in old.timing timing }) drafts in
    let whole : changed_by (changed_by old (puts Timing timing)) (puts Draft drafts) ≡ record old { timing = rows_by kept_key kept_columns timing; draft = rows_by kept_key kept_columns drafts } =
    mid ∙ (λ i. record old { timing = first i; draft = second i }) in
    rw whole (record {
      kept = both timing drafts;
      before = λ t. elim t as (λ t. AreKept t (entries (rows_at old (spelled_table t))) (both timing drafts t)) [ Timing ↦ timing_kept | Draft ↦ drafts_kept ];
      after = λ t. elim t as (λ t. rows_at (record old { timing = rows_by kept_key kept_columns timing; draft = rows_by kept_key kept_columns drafts }) (spelled_table t) ≡ rows_by kept_key kept_columns (both timing drafts t)) [ Timing ↦ refl | Draft ↦ refl ];
      others = refl;
      count_is = refl;
    })
  where
    both : List KeptRow → List KeptRow → Spelled → List KeptRow
    both timing drafts Timing = timing
    both timing drafts Draft = drafts

-- ---- the limits of version 1 are within today's

list_more : (ns : List ℕ) → IsTrue (is_phase_list version_1_limits.phases ns) → IsTrue (is_phase_list current_limits.phases ns)
list_more ns = is_phase_list_wider version_1_limits.phases ns (omega arith)

ped_more : (ped : Option Ped) → IsAnyPedWithin false ped → IsAnyPedWithin true ped
ped_more None within = tt
ped_more (Some ped) within = let lead = within.lead in record { walk = within.walk; clear = within.clear; width = within.width; setback = within.setback; lead = omega arith }

row_more : (r : Row) → IsRowWithin version_1_limits r → IsRowWithin current_limits r
row_more (row.Phase p phase) within =
    let number = within.number.1 in
    let ring = within.ring.1 in
    record { number = (within.number.0, omega arith); ring = (within.ring.0, omega arith); min_green = within.min_green; passage = within.passage; max1 = within.max1; yellow = within.yellow; red = within.red; mates = list_more phase.mates within.mates; ped = ped_more phase.ped within.ped }
row_more (row.Seq n ring r) within = let top = within.1.0.1 in (within.0, ((within.1.0.0, omega arith), list_more r.list within.1.1))
row_more (row.Split n p split) within = let top = within.phase.1 in record { number = within.number; phase = (within.phase.0, omega arith); time = within.time }
row_more (row.Pattern n pattern) within = within

key_more : (k : Key) → IsKeyWithin version_1_limits k → IsKeyWithin current_limits k
key_more (key.Phase p) within = let top = within.1 in (within.0, omega arith)
key_more (key.Seq n ring) within = let top = within.1.1 in (within.0, (within.1.0, omega arith))
key_more (key.Split n p) within = let top = within.1.1 in (within.0, (within.1.0, omega arith))
key_more (key.Pattern n) within = within

said_more : (k : Key) (said : Said) → IsSaidIn version_1 k said → IsSaidIn today k said
said_more k silent within = tt
said_more k (leaves r) within = (row_more r within.0, within.1)
said_more k removes within = key_more k within

records_more : (set : Set) → AreRecordsIn version_1 set → AreRecordsIn today set
records_more set are k = IfSome_then (get set k) (are k) (λ r within. (row_more r within.0, within.1))

-- ---- and its rows have no lead

no_lead : (ped : Option Ped) → IsAnyPedWithin false ped → IfSome ped (λ (p : Ped). p.lead ≡ 0)
no_lead None within = tt
no_lead (Some ped) within = let lead = within.lead in omega arith

phase_no_lead : (p : ℕ) (o : Option Row) → IfSome o (λ r. IsRowWithin version_1_limits r × (key_of r ≡ key.Phase p)) → HasNoLead (the_phase o)
phase_no_lead p (Some (row.Phase q phase)) h = no_lead phase.ped h.0.ped
phase_no_lead p _ h = tt

judged_alike : (set : Set) → AreRecordsIn version_1 set → violations_of set ≡ violations_before_lead set
judged_alike set are = same_violations set (λ p. phase_no_lead p (get set (key.Phase p)) (are (key.Phase p)))

-- ---- the office that the tables stand for

left_within : (t : Spelled) (k : KeptRow) → IsFormer t k → IfSome (left_by k.1) (IsRowWithin version_1_limits)
left_within Timing (id, Put r) within = within.1
left_within Draft (id, Put r) within = within.1
left_within t (id, Remove k) within = tt

module _ (t : Spelled) (old new : TableRows) (ks : List KeptRow) (before : AreKept t (entries old) ks) (after : new ≡ rows_by kept_key kept_columns ks) where
  -- a row that was found, and what it leaves
  kept_anew : (q : List Cell) (k : KeptRow) (left : Option Row) → find (hits q) ks ≡ Some k → IfSome left (IsRowWithin version_1_limits)
      → former_columns k ≡ left_columns_in version_1_limits left → Some (kept_columns k) ≡ Some (left_columns_in current_limits left)
  kept_anew q k left at within cells =
      let in_k = all_has (IsFormer t) ks k before.within (has_found (hits q) ks k at).0 in
      ap (λ (l : Option Row). Some (left_columns_in current_limits l)) (same_left version_1_limits (left_by k.1) left are_version_1 (left_within t k in_k) within cells)

  said_anew : (q : List Cell) (at_key : Key) (said : Said) → IsSaidIn version_1 at_key said → get old q ≡ said_columns_in version_1_limits said → get new q ≡ said_columns_in current_limits said
  said_anew q at_key said within is =
      ap (λ (rows : TableRows). get rows q) after ∙ get_by kept_key kept_columns ks q
      ∙ go (find (hits q) ks) refl said within (sym (was t old ks before q) ∙ is)
    where
      go : (o : Option KeptRow) → find (hits q) ks ≡ o → (said : Said) → IsSaidIn version_1 at_key said
          → option_map former_columns o ≡ said_columns_in version_1_limits said → option_map kept_columns o ≡ said_columns_in current_limits said
      go None at silent within e = refl
      go (Some k) at (leaves r) within e = kept_anew q k (Some r) at within.0 (cc)
      go (Some k) at removes within e = kept_anew q k None at tt (cc)
      go _ at _ within e = cc

  keys_anew : HasTimingKeys new
  keys_anew q columns is = go (find (hits q) ks) refl (sym (get_by kept_key kept_columns ks q) ∙ sym (ap (λ (rows : TableRows). get rows q) after) ∙ is)
    where
      go : (o : Option KeptRow) → find (hits q) ks ≡ o → option_map kept_columns o ≡ Some columns → IsTimingKey q
      go None at e = absurd (let none = e in cc)
      go (Some k) at e = (k.0, changed_key k.1, cells_exact q (kept_key k) (tied _ (has_found (hits q) ks k at).1))

-- a committed row, said as a draft row would say it
abbrev standing : Option Row → Said
standing None = silent
standing (Some r) = leaves r

committed_said : (limits : Limits) (o : Option Row) → option_map (timing_columns_in limits) o ≡ said_columns_in limits (standing o)
committed_said limits None = refl
committed_said limits (Some r) = refl

committed_within : (k : Key) (o : Option Row) → IfSome o (λ r. IsRowWithin version_1_limits r × (key_of r ≡ k)) → IsSaidIn version_1 k (standing o)
committed_within k None h = tt
committed_within k (Some r) h = h

-- the committed set of an intersection, or of none
side_records : (o : Option Intersection) → IfSome o (IsSoundIntersectionIn version_1) → AreRecordsIn version_1 (side_of o).committed
side_records None sound = λ k. subst (λ o. IfSome o (λ r. IsRowWithin version_1_limits r × (key_of r ≡ k))) (sym (get-empty key_cmp k)) tt
side_records (Some i) sound = sound.rows

side_draft : (o : Option Intersection) → IfSome o (IsSoundIntersectionIn version_1) → IfSome (side_of o).draft (IsSoundDraftIn version_1)
side_draft None sound = tt
side_draft (Some i) sound = sound.draft

intersection_more : (i : Intersection) → IsSoundIntersectionIn version_1 i → IsSoundIntersectionIn today i
intersection_more i sound = record {
  name = sound.name;
  interval_low = sound.interval_low;
  interval_high = sound.interval_high;
  revision = sound.revision;
  rows = records_more i.timing.committed sound.rows;
  no_violations = judged_alike i.timing.committed sound.rows ∙ sound.no_violations;
  draft = IfSome_then i.timing.draft sound.draft (λ d whole. record { owner = whole.owner; rows = records_more d.set whole.rows });
}

-- tables of version 1 that stood for an office that was sound by its rules stand for it as they are spelled today
pub stand_anew : (old new : Content) (count : Migrated) (office : Office) → IsMigrated old new count → StandForSoundIn version_1 old office → StandAnew new office
stand_anew old new count office it before =
    let stand = before.stand in
    let sound = before.sound in
    let in_timing = λ (id : ℕ). side_records (get office.intersections id) (sound.intersections id) in record {
      stand = record {
        stand = record {
          intersection = ap (λ (t : Content). t.intersection) it.others ∙ stand.intersection;
          timing = λ id k.
              let o = get (side_at office id).committed k in
              said_anew Timing old.timing new.timing (it.kept Timing) (it.before Timing) (it.after Timing) (timing_key id k) k (standing o) (committed_within k o (in_timing id k)) (stand.timing id k ∙ committed_said version_1_limits o) ∙ sym (committed_said current_limits o);
          timing_keys = keys_anew Timing old.timing new.timing (it.kept Timing) (it.before Timing) (it.after Timing);
          draft = λ id k.
              let d = stand.draft id k in
              record { said = d.said; stored = said_anew Draft old.draft new.draft (it.kept Draft) (it.before Draft) (it.after Draft) (timing_key id k) k d.said d.within d.stored; stands = d.stands; within = said_more k d.said d.within };
          draft_keys = keys_anew Draft old.draft new.draft (it.kept Draft) (it.before Draft) (it.after Draft);
          register = subst (λ (t : Content). RegisterStands t office.register) (sym it.others)
              (record { inspection = stand.register.inspection; work_order = stand.register.work_order; used_part = stand.register.used_part; delivery = stand.register.delivery; part = stand.register.part });
        };
        sound = record { numbers = sound.numbers; intersections = λ id. IfSome_then (get office.intersections id) (sound.intersections id) intersection_more; register = sound.register };
      };
      committed = λ id. judged_alike (side_at office id).committed (in_timing id);
      drafted = λ id. IfSome_then (side_at office id).draft (side_draft (get office.intersections id) (sound.intersections id)) (λ d whole. judged_alike d.set whole.rows);
    }
