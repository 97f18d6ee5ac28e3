-- A walk over the rows of all intersections, and what it tells of those of one.
use Rattle.std.proofs.Common.{◌≡◌, inl, inr, ℕ, ◌==◌, Bool, true, false, cond, if◌then◌else◌, eqb-true, List, [], ◌∷◌, ◌++◌, map, Option, refl, sym, subst, ap, ◌∙◌, arith}
use Rattle.std.proofs.lemmas.{Bool.cases_Bool, Bool.Decides.nat_tests, List.append-nil, Result.IfOk-weaker}
use Rattle.std.specs.{FinMap.entries, FinMap.Entries.where_key, List.AllByRecursion}
use Rattle.office_tables_shelf.specs.{Cells.Cell, Cells.TableRows, Cells.cells_cmp, CabinetReads.IsOfOne, CabinetReads.of_one, Content.Content, Reads.HasDamagedRow, Shelf.is_of, Shelf.rows_of, declared.rows.Table.Table, declared.shelf.ShelfFault.ShelfFault}
use Rattle.office_tables_shelf.proofs.ListedRows.{listed_whole}
use Rattle.office_tables_statements.specs.{Tables.rows_at, Calls.IsHonest, Stored.content_now, Tables.IsListText, Tables.params_of, Tables.row_shown, Tables.stored_for}
use Rattle.office_tables_statements.proofs.TableLemmas.{among}
use Rattle.std.proofs.Common.{Result, IfOk}
use Rattle.sqlite.specs.{Given.HasGiven, Held.Held, Held.state, Order.Row, State.HasCleanDisk, State.IsUnchanged, State.Survives}
use Rattle.sqlite_trees.specs.declared.store.Store.{Ghosts}
use Rattle.office_tables_sql.specs.{Kept.Gathers, Kept.HasStoredDamage, Kept.Kept, Promises.LooksUp}

-- ---- the rows of one intersection

module _ {X : Type 0} (key : ℕ → X → List Cell) (columns : X → List Cell)
    (begins : (id n : ℕ) (x : X) → is_of id (key n x) ≡ (n == id)) where
  abbrev stored : ℕ × X → List Cell × List Cell
  stored e = (key e.0 e.1, columns e.1)

  of_it : (id : ℕ) (all : List (ℕ × X)) → where_key cells_cmp (is_of id) (map stored all)
      ≡ map (λ x. (key id x, columns x)) (of_one id all)
  of_it id [] = refl
  of_it id (e ∷ es) = elim (cases_Bool (e.0 == id)) [
    | inl same ↦ rw (begins id e.0 e.1, same)
        (λ i. (key (eqb-true e.0 id same i) e.1, columns e.1) ∷ of_it id es i)
    | inr other ↦ rw (begins id e.0 e.1, other) (of_it id es)
  ]

  -- those of the records that are of one stand for its rows
  pub lists_one : (rows : TableRows) (all : List (ℕ × X)) → map stored all ≡ entries rows
      → (id : ℕ) → map (λ x. (key id x, columns x)) (of_one id all) ≡ rows_of id rows
  lists_one rows all lists id = sym (of_it id all) ∙ ap (where_key cells_cmp (is_of id)) lists

-- and are within their limits
pub within_one : {X : Type 0} (Within : X → Type 0) (all : List (ℕ × X))
    → AllByRecursion (IsOfOne Within) all → (id : ℕ) → AllByRecursion Within (of_one id all)
within_one Within [] within id = tt
within_one Within (e ∷ es) within id = elim (cases_Bool (e.0 == id)) [
  | inl same ↦ rw same (within.0.1, within_one Within es within.1 id)
  | inr other ↦ rw other (within_one Within es within.1 id)
]

-- ---- what was gathered of a list

-- what is known of a query whose rows are read one at a time, and of those that it gave so far
pub record Gathering {S Of X G : Type 0} (g : Ghosts S) (holds : G → List X → Type 0) (kept : Kept Of X) (of : Of) (old now : Held S) (found : G) : Type 0 where
  pub sql : List ℕ
  pub is_list : IsListText kept.table (kept.whose of) sql
  pub given : List Row
  pub records : List X
  pub held : holds found records
  pub within : AllByRecursion kept.is_within records
  pub shown : map (stored_for (kept.key of) kept.columns) records ≡ map (row_shown kept.table) given
  pub crash : Survives (state g old) (state g now) (λ _. ⊥)
  pub mode : now.in_transaction ≡ false
  pub same : HasCleanDisk (state g now) → IsUnchanged (state g old) (state g now)
  pub has_given : HasCleanDisk (state g now) → HasGiven g sql (params_of (kept.whose of)) now given

module _ {S Of X G : Type 0} {g : Ghosts S} {holds : G → List X → Type 0} {kept : Kept Of X} {of : Of} {old new : Held S}
    (result : Result G ShelfFault) (it : LooksUp g result (Gathers holds kept of) (HasStoredDamage kept of) old new) where
  -- what follows of the records is given too
  pub gives_of : (Says : Content → G → Type 0) → ((tables : Content) (found : G) → Gathers holds kept of tables found → Says tables found)
      → LooksUp g result Says (HasStoredDamage kept of) old new
  gives_of Says follows = record {
    says = IfOk-weaker result _ _ (λ found told honest. follows _ found (told honest)) it.says;
    damaged = it.damaged;
    kept = it.kept;
    stays_open = it.stays_open;
  }

  -- none of the rows is damaged
  pub none_damaged : IfOk result (λ _. IsHonest (state g new) → ¬ HasStoredDamage kept of (content_now (state g old)))
  none_damaged = IfOk-weaker result _ _ (λ found told honest. whole (told honest)) it.says
    where
      whole : {tables : Content} {found : G} → Gathers holds kept of tables found → ¬ HasStoredDamage kept of tables
      whole {tables} all = listed_whole kept.table kept.is_within (kept.key of) kept.columns tables (kept.whose of) all.records
          (all.lists ∙ sym (among (kept.whose of) (rows_at tables kept.table))) all.within

-- ---- one more record

of_one-append : {X : Type 0} (id : ℕ) (xs ys : List (ℕ × X)) → of_one id (xs ++ ys) ≡ of_one id xs ++ of_one id ys
of_one-append id [] ys = refl
of_one-append id (x ∷ xs) ys = elim (cases_Bool (x.0 == id)) [
  | inl same ↦ rw same (ap (λ found. x.1 ∷ found) (of_one-append id xs ys))
  | inr other ↦ rw other (of_one-append id xs ys)
]

-- what is known of the records of each intersection, after one more record of one of them, which is the last of these
pub known_after : {X Y : Type 0} (known : List X → Y) (all : List (ℕ × X)) (e : ℕ × X) (next : Y)
    (old new : ℕ → Y) → ((n : ℕ) → old n ≡ known (of_one n all))
    → next ≡ known (of_one e.0 all ++ e.1 ∷ [])
    → ((n : ℕ) → new n ≡ (if n == e.0 then next else old n))
    → (n : ℕ) → new n ≡ known (of_one n (all ++ e ∷ []))
known_after known all e next old new before is updates n = rw (of_one-append n all (e ∷ [])) (elim (cases_Bool (e.0 == n)) [
  | inl same ↦ let at : e.0 ≡ n = eqb-true e.0 n same in subst (λ m. new m ≡ known (of_one m all ++ of_one m (e ∷ []))) at (grind (arith, nat_tests, updates e.0, is))
  | inr other ↦ rw (other, append-nil) (grind (arith, nat_tests, updates n, before n))
])
