-- What stands at a key, told from the list of the rows of an intersection.
use Rattle.std.proofs.Common.{◌≡◌, ℕ, pos, true, false, List, [], ◌∷◌, map, find, cond, Option, None, Some, option_map, T, refl, sym, ap, subst, ◌∙◌, arith}
use Rattle.std.specs.{Option.option_or, Cmp.tied_itself, FinMap.get, FinMap.empty, FinMap.entries, FinMap.entries_sorted, FinMap.get-empty, FinMap.get-entries, FinMap.get-insert, FinMap.Entries.is_sorted, FinMap.Entries.below_all, FinMap.Entries.is_sorted-where_key, FinMap.Entries.find-where_key, List.AllByRecursion, List.Sorted.IsStrictlySortedBy, Ordering.is_eq, Ordering.eq_by_cmp, declared.cmp.Ordering.TheVariants.Less, declared.cmp.Ordering.TheVariants.Equal}
use Rattle.signal_records.specs.{Key.kind_of, Key.first_of, Key.second_of, Key.key_cmp, KeyOrder.key_at, KeyOrder.key_at-place_of, KeyOrder.key_total, KeyOrder.key_exact, Row.key_of, declared.key.Key.Key, declared.record.Row.Row, declared.record.Change.Change, declared.record.Change.TheVariants.Put, ChangedRows.changed_key}
use Rattle.office_tables_shelf.specs.{Cells.Cell, Cells.TableRows, Cells.number, Cells.cells_cmp, Content.Content, Rows.timing_key, Rows.timing_columns, Rows.draft_columns, Shelf.is_of, Shelf.rows_of, Shelf.ListsTiming, Shelf.ListsDraft}
use Rattle.office_tables_shelf.proofs.CellLemmas.{cells_exact, cell_total, is_under, first_under, find_entry, mapped, tied}
use Rattle.office_tables_shelf.proofs.{ListLemmas.parts, ListLemmas.less, TreeLemmas.timing_order, TreeLemmas.timing_ties}
use Rattle.std.specs.FinMap as finite
use Rattle.signal_records.specs.TimingSet as set

-- ---- the rows of a list

-- the first of a list under a key
abbrev pub first_at : {X : Type 0} → (X → Key) → List X → Key → Option X
first_at key xs q = find (λ x. eq_by_cmp key_cmp q (key x)) xs

-- the row of a list under a key
abbrev pub row_in : List Row → Key → Option Row
row_in = first_at key_of

pub of_itself : (id : ℕ) (key : Key) → is_of id (timing_key id key) ≡ true
of_itself id key = ap is_eq (tied_itself cell_total (number (pos id)))

module _ {X : Type 0} (key : X → Key) (columns : X → List Cell) (id : ℕ) where
  abbrev cells_at : X → List Cell
  cells_at x = timing_key id (key x)

  abbrev pub placed : X → List Cell × List Cell
  placed x = (timing_key id (key x), columns x)

  first_same : (xs : List X) (q : Key) → first_under cells_at columns xs (timing_key id q) ≡ option_map columns (first_at key xs q)
  first_same [] q = refl
  first_same (x ∷ xs) q =
      mapped columns (is_under cells_at columns (timing_key id q) x) (Some x) (find (is_under cells_at columns (timing_key id q)) xs)
      ∙ (λ i. cond (timing_ties id q (key x) i) (Some (columns x)) (first_same xs q i))
      ∙ sym (mapped columns (eq_by_cmp key_cmp q (key x)) (Some x) (first_at key xs q))

  -- what a table has at a key is what the list of its rows has
  pub get_listed : (rows : TableRows) (xs : List X) → map placed xs ≡ rows_of id rows → (q : Key) → get rows (timing_key id q) ≡ option_map columns (first_at key xs q)
  get_listed rows xs lists q =
      let at = timing_key id q in
      let alike : (k : List Cell) → cells_cmp at k ≡ Equal → is_of id k ≡ is_of id at = λ k tie. ap (is_of id) (sym (cells_exact at k tie)) in
      get-entries rows at
      ∙ sym (find-where_key cells_cmp (is_of id) at alike (entries rows) ∙ ap (λ b. cond b (finite.find cells_cmp at (entries rows)) None) (of_itself id q))
      ∙ sym (ap (finite.find cells_cmp at) lists)
      ∙ find_entry cells_at columns xs at
      ∙ first_same xs q

  rising_from : (x : X) (xs : List X) → T (below_all cells_cmp (timing_key id (key x)) (map placed xs)) → AllByRecursion (λ k. key_cmp (key x) k ≡ Less) (map key xs)
  rising_from x [] h = tt
  rising_from x (y ∷ xs) h = let hs = parts _ _ h in (sym (timing_order id (key x) (key y)) ∙ less _ hs.0, rising_from x xs hs.1)

  rising_all : (xs : List X) → T (is_sorted cells_cmp (map placed xs)) → IsStrictlySortedBy key_cmp (map key xs)
  unfolding IsStrictlySortedBy
  rising_all [] h = tt
  rising_all (x ∷ xs) h = let hs = parts _ _ h in (rising_from x xs hs.0, rising_all xs hs.1)

  -- the keys of a list of a table's rows strictly rise
  pub listed_rise : (rows : TableRows) (xs : List X) → map placed xs ≡ rows_of id rows → IsStrictlySortedBy key_cmp (map key xs)
  listed_rise rows xs lists = rising_all xs (subst (λ es. T (is_sorted cells_cmp es)) (sym lists) (is_sorted-where_key cells_cmp (is_of id) (entries rows) (entries_sorted rows)))

  -- no other of a list with rising keys has the key
  pub none_above : (x : X) (xs : List X) (q : Key) → AllByRecursion (λ k. key_cmp (key x) k ≡ Less) (map key xs) → key_cmp q (key x) ≡ Equal → first_at key xs q ≡ None
  none_above x [] q above tie = refl
  none_above x (y ∷ xs) q above tie =
      let apart : eq_by_cmp key_cmp q (key y) ≡ false = ap is_eq (ap (λ k. key_cmp k (key y)) (key_exact q (key x) tie) ∙ above.0) in
      rw apart (none_above x xs q above.1 tie)

-- ---- the committed set

-- changes that put the rows
abbrev pub puts : List Row → List Change
puts rows = map Put rows

at_put : (set_before : set.Rows) (row : Row) (rows : List Row) (key : Key) → AllByRecursion (λ k. key_cmp (key_of row) k ≡ Less) (map key_of rows)
    → option_or (row_in rows key) (cond (eq_by_cmp key_cmp key (key_of row)) (Some row) (get set_before key)) ≡ option_or (row_in (row ∷ rows) key) (get set_before key)
at_put before row rows key above =
    let none = λ (hit : eq_by_cmp key_cmp key (key_of row) ≡ true). none_above key_of timing_columns 0 row rows key above (tied _ hit) in
    grind (arith, none)

after_puts : (before : set.Rows) (rows : List Row) (key : Key) → IsStrictlySortedBy key_cmp (map key_of rows) → get (set.after_changes before (puts rows)) key ≡ option_or (row_in rows key) (get before key)
unfolding IsStrictlySortedBy
after_puts before [] key rise = refl
after_puts before (row ∷ rows) key rise =
    after_puts (set.after_change before (Put row)) rows key rise.1
    ∙ ap (option_or (row_in rows key)) (get-insert key_total before (key_of row) row key)
    ∙ at_put before row rows key rise.0

or_none : {A : Type 0} (o : Option A) → option_or o None ≡ o
or_none o = grind arith

-- the set made of rows with rising keys has at a key the row of that key
pub get_set_of_rows : (rows : List Row) → IsStrictlySortedBy key_cmp (map key_of rows) → (key : Key) → get (set.after_changes empty (puts rows)) key ≡ row_in rows key
get_set_of_rows rows rise key = after_puts empty rows key rise ∙ ap (option_or (row_in rows key)) (get-empty key_cmp key) ∙ or_none (row_in rows key)

-- the table of committed rows has at a key what the set made of the list has
pub get_timing : (tables : Content) (id : ℕ) (rows : List Row) → ListsTiming tables id rows → (key : Key) → get tables.timing (timing_key id key) ≡ option_map timing_columns (get (set.after_changes empty (puts rows)) key)
get_timing tables id rows lists key =
    get_listed key_of timing_columns id tables.timing rows lists key
    ∙ ap (option_map timing_columns) (sym (get_set_of_rows rows (listed_rise key_of timing_columns id tables.timing rows lists) key))

-- ---- the draft

pub draft_keys_rise : (tables : Content) (id : ℕ) (changes : List Change) → ListsDraft tables id changes → IsStrictlySortedBy key_cmp (map changed_key changes)
draft_keys_rise tables id changes lists = listed_rise changed_key draft_columns id tables.draft changes lists

-- ---- keys
