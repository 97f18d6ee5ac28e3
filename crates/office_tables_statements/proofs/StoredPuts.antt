-- The statements that put and remove rows, and what they make of the tables.
use Rattle.std.proofs.Common.{◌≡◌, ◌≢◌, ◌≤◌, inl, inr, true, false, true≢false, Bool, not, cond, Ok, ℕ, ℤ, List, [], ◌∷◌, ◌++◌, map, filter, drop, length, pos, Option, None, refl, sym, ap, subst, ◌∙◌, arith}
use Rattle.std.proofs.lemmas.{Bool.and_parts, Bool.false_from_ne_true, List.map-append, List.length-map, List.Sorted.length_permutation}
use Rattle.std.specs.{Cmp.eq_by_cmp_equiv, List.AllByRecursion, List.IsDistinct, List.Sorted.IsPermutation, Ordering.is_eq, Ordering.eq_by_cmp}
use Rattle.std.specs.FinMap.{get, insert, remove, retain_keys, same_map, get-remove, get-retain_keys}
use Rattle.sqlite.specs.{declared.types.Value.Value, declared.types.Value.TheVariants.Null, declared.types.Value.TheVariants.Int, declared.types.Value.TheVariants.Text, Cast.cast_row, Command.TheVariants.Delete, Edit.Edit, Edit.edit_of, Edit.id_in, Edit.taken_by, Edit.with_rowid, Edit.without_all, Rowids.TheVariants.Chosen, Rowids.TheVariants.Given, Order.Row, Order.column, Program.overlay, Rows.Edited, Rows.Written, State.State, Term.Term, Term.lit, Term.col, Term.eval_all, Tree.Trees, Tree.rowid, Tree.put_row, View.IsShaped}
use Rattle.sqlite_schema.specs.declared.schema.Keys.TheVariants.{Enforced}
use Rattle.sqlite_trees.proofs.ListLemmas.{all-map}
use Rattle.sqlite_rules.specs.{Calls.ids_of, Lists.Has}
use Rattle.sqlite_rules.proofs.{ListLemmas.all_from, ListLemmas.all_has, ListLemmas.has_filtered, TableLemmas.int_is, TableLemmas.has_put, TableLemmas.put_has, TableLemmas.put_all_keeps, TableLemmas.without_all_has, ProbeLemmas.has_mapped}
use Rattle.office_tables_shelf.specs.{Cells.Cell, Cells.TableRows, Cells.cells_cmp, Cells.null, Content.Content, Content.rows_but, Shelf.is_of, declared.rows.Table.Table}
use Rattle.office_tables_shelf.proofs.CellLemmas.{cells_total, cells_exact, tied}
use Rattle.office_tables_statements.specs.{Calls.IsReady, Calls.IsTurned, Calls.Means, Calls.Ran, Layout.has_key, Layout.values_at, Schema.office_schema}
use Rattle.office_tables_statements.specs.Stored.{cell_of, cells_at, content_now, rows_in, is_sound, are_sound}
use Rattle.office_tables_statements.specs.Tables.{beside_rowid, id_given, is_keyed, others_given, source_at, rows_at, with_rows, layout_at, schema_at, place_at, renewed_at, put_in, remove_in, key_given, value_of, values_of, IsKeyOf, IsUpdateText, IsInsertText, IsRemoveText, takes, of_first, of_key, drop_in, IsDropText, picked_where}
use Rattle.office_tables_statements.proofs.{Casts.cast_int, Casts.cast_one, Casts.cast_suited, Fits.Fits, Fits.fits as fits_taken, Fits.row_given, Fits.stored_beside, ListedLemmas.distinct_kept, QueryLemmas.Passes, QueryLemmas.cols, QueryLemmas.filter_agrees, QueryLemmas.picked, QueryLemmas.shown_values, QueryLemmas.where_picked, StoredLemmas.HaveKeys, StoredLemmas.agree_ties, TableLemmas.each, TableLemmas.is_placed}
use Rattle.office_tables_statements.proofs.ContentLemmas.{tie_self, permuted, AreApart, left, joined, gone, stays, put_at}
use Rattle.office_tables_statements.proofs.WriteLemmas.{Added, adds, went_on, same_value, wrote, Moved, moved, cut}
use Rattle.office_tables_statements.proofs.TableLemmas.{is_uncounted, is_idle, facts, in_tree, only_in, apart}
use Rattle.office_tables_statements.proofs.StoredLists.{distinct, shaped, own_keys, seen}
use Rattle.sqlite.specs.Kind.TheVariants as kind
use Rattle.sqlite_trees.specs.declared.store.Shape.TheVariants as shape

-- ---- values and their cells

value_back : (v : Value) → is_sound v ≡ true → v ≡ value_of (cell_of v)
value_back (Int n) h = refl
value_back (Text t) h = refl
value_back _ h = absurd (true≢false (sym h))

values_back : (places : List ℕ) (row : Row) → are_sound places row ≡ true → values_at places row ≡ values_of (cells_at places row)
values_back [] row h = refl
values_back (p ∷ places) row h =
    let parts = and_parts _ _ h in
    let first = value_back (column row p) parts.0 in
    let later = values_back places row parts.1 in
    λ i. first i ∷ later i

begins : (row : Row) (n : ℤ) → rowid row ≡ Int n → row ≡ Int n ∷ drop 1 row
begins [] n is = absurd cc
begins (v ∷ row) n is = ap (λ x. x ∷ row) is

beside_is : (b : Bool) (terms : List Term) (key : List Cell) (params row : Row) → eval_all terms (params ∷ row ∷ []) ≡ values_of key
    → eval_all (cond b terms (lit Null ∷ [])) (params ∷ row ∷ []) ≡ values_of (cond b key (null ∷ []))
beside_is true terms key params row e = e
beside_is false terms key params row e = refl

-- ---- one row at most has a key

few : (key : List Cell) (keys : List (List Cell)) → IsDistinct (eq_by_cmp cells_cmp) keys
    → AllByRecursion (λ k. k ≡ key) keys → length keys ≤ 1
unfolding IsDistinct
few key [] apart same = omega arith
few key (j ∷ []) apart same = omega arith
few key (j ∷ k ∷ keys) apart same =
    let tie = subst (λ x. is_eq (cells_cmp j x) ≡ true) (same.0 ∙ sym same.1.0) (tie_self j) in
    absurd (true≢false (sym tie ∙ apart.0.0))

-- all keys but one are left
removal : (rows : TableRows) (key : List Cell) → retain_keys rows (λ k. not (is_eq (cells_cmp k key))) ≡ remove rows key
removal rows key = same_map cells_total cells_exact _ _ (λ q.
    get-retain_keys rows (λ k. not (is_eq (cells_cmp k key))) q
    (λ k tie. ap (λ c. not (is_eq (cells_cmp c key))) (sym (cells_exact q k tie)))
    ∙ turn (is_eq (cells_cmp q key)) (get rows q) ∙ sym (get-remove cells_total rows key q))
  where
    turn : (b : Bool) (o : Option (List Cell)) → cond (not b) o None ≡ cond b None o
    turn true o = refl
    turn false o = refl

-- the content with the rows that it has
with_same : (t : Table) (tables : Content) → with_rows tables t (rows_at tables t) ≡ tables
with_same t tables = each (λ t. with_rows tables t (rows_at tables t) ≡ tables) refl refl refl refl refl refl refl refl t

-- ---- the statements

module _ (t : Table) (old new : State) (count : ℕ) (ready : IsReady old) where
  abbrev tree : ℕ
  tree = (schema_at t).tree

  abbrev rows : List Row
  rows = old.now.trees tree

  abbrev keys : Row → List Cell
  keys = cells_at (layout_at t).keys

  abbrev columns_of : Row → List Cell
  columns_of = cells_at (layout_at t).columns

  was : IsShaped shape.Table rows
  was = shaped t old.now ready.schema ready.sound ready.ordered

  own : HaveKeys (layout_at t) rows
  own = own_keys t old.now ready.schema ready.sound ready.ordered

  were_apart : AreApart keys columns_of rows
  were_apart = distinct t old.now ready.schema ready.sound ready.ordered

  are_apart : IsReady new → AreApart keys columns_of (new.now.trees tree)
  are_apart now = distinct t new.now now.schema now.sound now.ordered

  -- one table has these rows, and the others are as they were, that of the version too
  turned : (rows : TableRows) → IsReady new → AllByRecursion (λ x. x.tree ≢ tree → new.now.trees x.tree ≡ old.now.trees x.tree) office_schema.tables
      → rows_in (layout_at t) (new.now.trees tree) ≡ rows → IsTurned (with_rows (content_now old) t rows) old new
  turned rows now others is = record {
    ready = now;
    content = only_in old.now.trees new.now.trees t rows others is;
    version = others.1.1.1.1.1.1.1.1.0 (λ e. apart t (sym e));
  }

  -- a DELETE takes out the rows that pass a filter, which is a test of their keys
  cut_where : (sql : List ℕ) (filters : List Term) (params : Row) (test : List Cell → Bool) → Means sql (Delete (place_at t) (record { lets = []; body = picked_where (layout_at t) filters (col 1 0 ∷ []) }))
      → Passes filters params (λ row. test (keys row)) rows → Ran sql params old new count
      → IsTurned (with_rows (content_now old) t (retain_keys (rows_at (content_now old) t) (λ key. not (test key)))) old new
  cut_where sql filters params test means passes did =
      let it = cut (schema_at t) (place_at t) (is_placed t) (is_idle t) sql _ means params old new count was ready did in
      let low = seen t old.now ready.schema ready.sound ready.ordered in
      let passed = λ (row : Row). test (keys row) in
      let hits = subst (λ all. IsPermutation (map (values_at (0 ∷ [])) (filter passed all)) it.found) low
      (where_picked (layout_at t) filters (col 1 0 ∷ []) params passed (values_at (0 ∷ [])) (λ row. refl) (overlay old.now.trees []) it.found (subst (Passes filters params passed) (sym low) passes) it.answer) in
      let is = left keys columns_of rows (new.now.trees tree) were_apart (are_apart it.ready) test (λ x there.
      let among = subst (λ all. Has all x) it.rows there in
      (without_all_has (ids_of it.found) rows x among, gone rows passed (values_at (0 ∷ [])) (λ _. refl) it.found hits was x among))
      (λ x there miss. subst (λ all. Has all x) (sym it.rows) (stays rows passed (values_at (0 ∷ [])) (λ _. refl) it.found hits was x there miss)) in
      turned _ it.ready it.others (is ∙ ap (λ m. retain_keys m (λ key. not (test key))) (sym (in_tree t old.now.trees)))

  module _ (key columns : List Cell) (taken : takes t key columns ≡ true) where
    fits : Fits t key columns
    fits = fits_taken t key columns taken

    abbrev params : Row
    params = values_of (key ++ columns)

    -- an INSERT that was accepted added the row
    inserted : (sql : List ℕ) → IsInsertText t sql → Ran sql params old new count → IsTurned (put_in (content_now old) t key columns) old new
    inserted sql means did =
        let it = wrote sql _ means (place_at t) (schema_at t) (is_placed t) params old new count (record { runs = λ w. w; does = λ db out d. d }) ready did in
        let given = row_given t key columns in
        let casts : cast_row (schema_at t) given ≡ given = λ i. cast_one kind.Integer (id_given t key) fits.numbered i ∷ cast_suited (schema_at t).columns (beside_rowid t null key ++ columns) fits.suits i in
        let step = subst (Added (schema_at t) (is_uncounted t) (is_idle t) (source_at t) params given old.step_limit old.now.trees) (sym it.trees)
        (adds (schema_at t) (is_uncounted t) (is_idle t) (source_at t) params given old.step_limit old.now.trees (fits.given old.step_limit (record { schema = office_schema; trees = old.now.trees })) casts was it.written it.rows) in
        let now = it.goes_on step.others step.shapes in
        let stored = with_rowid Chosen rows given in
        let placed = fits.placed rows in
        let at = put_at (layout_at t) rows stored step.fresh were_apart (subst (AreApart keys columns_of) step.rows (are_apart now)) in
        turned _ now step.others (ap (rows_in (layout_at t)) step.rows ∙ at ∙ (λ i. insert (rows_in (layout_at t) rows) (placed.0 i) (placed.1 i)) ∙ ap (λ rows. insert rows key columns) (sym (in_tree t old.now.trees)))

    -- ---- an UPDATE: the row under the key has the other cells, or there is none and all is as it was

    abbrev has : Row → Bool
    has = has_key (layout_at t) params

    abbrev show : Row → Row
    show row = eval_all (renewed_at t) (params ∷ row ∷ [])

    -- the rows that SQL's = finds have the cells of the key, and the other way round
    under : (r : Row) → Has rows r → has r ≡ true → keys r ≡ key
    under r there hit = cells_exact _ _ (tied _ (sym (agree_ties (layout_at t).keys (layout_at t).places r params (own r there) fits.whole) ∙ hit)) ∙ fits.named

    missed : (r : Row) → Has rows r → keys r ≢ key → has r ≡ false
    missed r there other = false_from_ne_true _ (λ hit. other (under r there hit))

    -- what the query shows of such a row
    renewed : (r : Row) → Has rows r → has r ≡ true → show r ≡ rowid r ∷ rowid r ∷ stored_beside t key columns
    renewed r there hit =
        let values = shown_values (layout_at t).keys params r ∙ values_back (layout_at t).keys r (own r there) ∙ ap values_of (under r there hit) in
        let first = beside_is (is_keyed t) (cols (layout_at t).keys) key params r values in
        ap (λ vs. rowid r ∷ rowid r ∷ vs) (shown_both (beside_rowid t (lit Null) (cols (layout_at t).keys)) (others_given t) r ∙ (λ i. first i ++ fits.rest r i) ∙ sym (map-append value_of (beside_rowid t null key) columns))
      where
        shown_both : (xs ys : List Term) (r : Row) → eval_all (xs ++ ys) (params ∷ r ∷ []) ≡ eval_all xs (params ∷ r ∷ []) ++ eval_all ys (params ∷ r ∷ [])
        shown_both xs ys r = map-append _ xs ys

    -- one such row at most
    one_hit : (found : List Row) → IsPermutation (map show (filter has rows)) found → length found ≤ 1
    one_hit found hits =
        let kept = filter has rows in
        let same = all-map (λ k. k ≡ key) keys kept (all_from (λ r. keys r ≡ key) kept (λ r there. let hit = has_filtered has rows r there in under r hit.0 hit.1)) in
        let one = few key (map keys kept) (distinct_kept (eq_by_cmp cells_cmp) keys has rows were_apart) same in
        omega (arith, one, length-map kept keys, length-map kept show, length_permutation _ found hits)

    abbrev step : List Row → Edit
    step found = edit_of old.now.trees (schema_at t) (ids_of found) Given 1 found

    pub record Updated : Type 0 where
      pub none : count ≡ 0 → IsTurned (content_now old) old new
      pub some : count ≢ 0 → IsTurned (put_in (content_now old) t key columns) old new

    module _ (next : Trees) (is : new.now.trees ≡ next)
        (goes_on : AllByRecursion (λ x. x.tree ≢ tree → new.now.trees x.tree ≡ old.now.trees x.tree) office_schema.tables → IsShaped shape.Table (new.now.trees tree) → IsReady new) where
      renews : (found : List Row) → IsPermutation (map show (filter has rows)) found → Edited office_schema Enforced old.now.trees (step found) (Ok next) → count ≡ length (step found).news → Updated
      renews [] hits did counted =
          let it = subst (Moved (step []) old.now.trees) (sym is) (moved (step []) old.now.trees next ((is_idle t).on_delete []) was did) in
          record {
            none = λ _. subst (λ tables. IsTurned tables old new) (with_same t (content_now old))
                (turned _ (goes_on it.others it.shapes) it.others (ap (rows_in (layout_at t)) it.rows ∙ sym (in_tree t old.now.trees)));
            some = λ some. absurd (some counted);
          }
      renews (x ∷ y ∷ more) hits did counted = absurd (omega (arith, one_hit (x ∷ y ∷ more) hits))
      renews (x ∷ []) hits did counted =
          let edit = step (x ∷ []) in
          let one : count ≡ 1 = counted in
          let back = has_mapped show (filter has rows) x (permuted _ (x ∷ []) hits x (inl refl)) in
          let r = back.0 in
          let there = has_filtered has rows r back.1 in
          let int = int_is (rowid r) (all_has _ rows r was.1 there.0) in
          let n = id_in (rowid r) in
          let renewed_row = Int n ∷ stored_beside t key columns in
          let shown : x ≡ Int n ∷ Int n ∷ stored_beside t key columns = back.2 ∙ renewed r there.0 there.1 ∙ ap (λ v. v ∷ v ∷ stored_beside t key columns) int in
          let casts : cast_row (schema_at t) renewed_row ≡ renewed_row = λ i. cast_int n i ∷ cast_suited (schema_at t).columns (beside_rowid t null key ++ columns) fits.suits i in
          let made : edit.news ≡ renewed_row ∷ [] = ap (λ y. cast_row (schema_at t) (drop 1 y) ∷ []) shown ∙ ap (λ y. y ∷ []) casts in
          let it = subst (Moved edit old.now.trees) (sym is) (moved edit old.now.trees next ((is_idle t).on_change (taken_by old.now.trees edit) (cast_row (schema_at t) (drop 1 x))) was did) in
          let it = subst (λ news. Moved (record { table = schema_at t; gone = ids_of (x ∷ []); news = news }) old.now.trees new.now.trees) made it in
          let now = goes_on it.others it.shapes in
          let rest = without_all rows (ids_of (x ∷ [])) in
          let at_key = fits.kept n (drop 1 r) (subst (λ row. keys row ≡ key) (begins r n int) (under r there.0 there.1)) in
          let at = joined keys columns_of rows (new.now.trees tree) were_apart (are_apart now) renewed_row (subst (λ all. Has all renewed_row) (sym it.rows) (has_put renewed_row rest)) (λ y here.
          elim (put_has renewed_row rest y (subst (λ all. Has all y) it.rows here)) [
            | inl same ↦ inl same
            | inr among ↦ inr (without_all_has (ids_of (x ∷ [])) rows y among)
          ]) (λ y here other. subst (λ all. Has all y) (sym it.rows) (put_all_keeps (renewed_row ∷ []) rest y it.fresh
          (stays rows has show (λ z. refl) (x ∷ []) hits was y here (missed y here (λ same. other (same ∙ sym at_key)))))) in
          record {
            none = λ none. absurd (omega (arith, none, one));
            some = λ _. turned _ now it.others (at ∙ (λ i. insert (rows_in (layout_at t) rows) (at_key i) (fits.shows n i)) ∙ ap (λ rows. insert rows key columns) (sym (in_tree t old.now.trees)));
          }

    pub updates : (sql : List ℕ) → IsUpdateText t sql → Ran sql params old new count → Updated
    updates sql means did =
        let it = wrote sql _ means (place_at t) (schema_at t) (is_placed t) params old new count (record { runs = λ w. w; does = λ db out d. d }) ready did in
        let asked = went_on it.rows in
        let edited = went_on asked.2 in
        let hits = subst (λ rows. IsPermutation (map show (filter has rows)) asked.0) (seen t old.now ready.schema ready.sound ready.ordered)
        (picked (layout_at t) (facts t).paired (renewed_at t) params show (λ row. refl) (overlay old.now.trees []) asked.0 (asked.1.answer Null)) in
        renews edited.0 (it.trees ∙ ap (λ (w : Written). w.trees) (same_value edited.2)) it.goes_on asked.0 hits edited.1 (it.counted ∙ ap (λ (w : Written). length w.rows) (same_value edited.2))

pub removes : (t : Table) (sql : List ℕ) → IsRemoveText t sql → (key : Row) → IsKeyOf t key → (old new : State) (count : ℕ) → IsReady old → Ran sql key old new count
    → IsTurned (remove_in (content_now old) t (key_given t key)) old new
removes t sql means key given old new count ready did =
    subst (λ all. IsTurned (with_rows (content_now old) t all) old new) (removal _ (key_given t key))
    (cut_where t old new count ready sql (of_key (layout_at t).keys (layout_at t).places) key (λ k. is_eq (cells_cmp k (key_given t key))) means (λ row there.
    filter_agrees (layout_at t).keys (layout_at t).places (facts t).paired key row
    ∙ agree_ties (layout_at t).keys (layout_at t).places row key (own t old new count ready row there) given) did)

pub drops : (t : Table) (sql : List ℕ) → IsDropText t sql → (id : ℕ) (old new : State) (count : ℕ) → IsReady old → Ran sql (Int (pos id) ∷ []) old new count → IsTurned (drop_in (content_now old) t id) old new
drops t sql means id old new count ready did =
    cut_where t old new count ready sql (of_first t) (Int (pos id) ∷ []) (is_of id) means (λ row there. (facts t).first id row (own t old new count ready row there)) did

module _ (t : Table) (key columns : List Cell) (taken : takes t key columns ≡ true) where
  pub inserts : (sql : List ℕ) → IsInsertText t sql → (old new : State) (count : ℕ) → IsReady old → Ran sql (values_of (key ++ columns)) old new count → IsTurned (put_in (content_now old) t key columns) old new
  inserts sql means old new count ready did = inserted t old new count ready key columns taken sql means did

  -- one UPDATE put the row, or an INSERT after it
  pub one_put : (sql : List ℕ) → IsUpdateText t sql → (old new : State) (count : ℕ) → count ≢ 0 → IsReady old → Ran sql (values_of (key ++ columns)) old new count → IsTurned (put_in (content_now old) t key columns) old new
  one_put sql means old new count some ready did = (updates t old new count ready key columns taken sql means did).some some

  pub two_put : (update insert : List ℕ) → IsUpdateText t update → IsInsertText t insert → (old mid new : State) (count added : ℕ) → count ≡ 0 → IsReady old → Ran update (values_of (key ++ columns)) old mid count → Ran insert (values_of (key ++ columns)) mid new added
      → IsTurned (put_in (content_now old) t key columns) old new
  two_put update insert changes adds old mid new count added none ready first second =
      let it = (updates t old mid count ready key columns taken update changes first).none none in
      let then = inserts insert adds mid new added it.ready second in
      record {
        ready = then.ready;
        content = then.content ∙ ap (λ tables. put_in tables t key columns) it.content;
        version = then.version ∙ it.version;
      }
