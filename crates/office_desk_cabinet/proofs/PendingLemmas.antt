-- What stands under a key of the register after rows are written, and rows that come to the same with one for each part.
use Rattle.std.proofs.Common.{◌≡◌, ◌≢◌, ◌≤◌, ◌+◌, ℕ, Bool, true, false, List, [], ◌∷◌, ◌++◌, map, filter, length, cond, Option, Some, None, Less, T, option_map, refl, sym, ap, subst, subst₂, ◌∙◌, inl, inr, arith}
use Rattle.std.proofs.lemmas.{Bool.cases_Bool, List.length-map}
use Rattle.std.specs.{Prelude.IsSome, FinMap.contains_key, FinMap.entries, FinMap.entries_sorted, FinMap.get, FinMap.get-empty, FinMap.get-entries, FinMap.get-insert, FinMap.insert, FinMap.len, FinMap.len-entries, FinMap.len-insert, FinMap.len-empty, FinMap.same_map, FinMap.Entries.below_all, FinMap.Entries.find, FinMap.Entries.is_sorted, Option.option_or, Ordering.eq_by_cmp}
use Rattle.office_tables_shelf.proofs.{CellLemmas.cells_exact, CellLemmas.cells_total, CellLemmas.tied, ListLemmas.less, ListLemmas.parts}
use Rattle.office_tables_shelf.specs.{CabinetReads.ListsParts, CabinetRows.part_key, CabinetRows.part_columns, Cells.Cell, Cells.TableRows, Cells.cells_cmp, Change.AddNew, Change.changed, Change.changed_by, Content.Content, Content.no_content, Content.rows_at, Counts.is_same_table, Counts.writes_in, declared.register.RegisterRecord.RegisterRecord, declared.rows.RowChange.RowChange, declared.rows.Table.Table}
use Rattle.office_tables_shelf.specs.declared.rows.RowChange.TheVariants.{AddInspection, AddOrder, PutOrder, AddLine, PutPart, AddDelivery}
use Rattle.office_tables_shelf.specs.Places.{Place, Inspection, Order, Line, Part, Delivery, RecordAt, IsOfPlace, ReadsAt, columns_at, found_at, key_cells, table_at}
use Rattle.office_desk_cabinet.specs.Pending.{ComesTo, is_other, part_row}
use Rattle.office_tables_shelf.specs.declared.register.RegisterRecord.TheVariants as kind
use Rattle.office_tables_shelf.specs.declared.rows.Table.TheVariants as table

-- ---- what the rows make of tables without a row lies over what stood before

abbrev at : Content → Place → List Cell → Option (List Cell)
at tables place q = get (rows_at tables (table_at place)) q

-- of the table of a place
abbrev Lies : Place → List Cell → (base puts now : Content) → Type 0
Lies place q base puts now = at now place q ≡ option_or (at puts place q) (at base place q)

either : (b : Bool) (new : List Cell) (put before : Option (List Cell)) → cond b (Some new) (option_or put before) ≡ option_or (cond b (Some new) put) before
either true new put before = refl
either false new put before = refl

lies_put : (base puts now : TableRows) (k cells q : List Cell) → get now q ≡ option_or (get puts q) (get base q)
    → get (insert now k cells) q ≡ option_or (get (insert puts k cells) q) (get base q)
lies_put base puts now k cells q lies =
    get-insert cells_total now k cells q ∙ ap (cond (eq_by_cmp cells_cmp q k) (Some cells)) lies ∙ either (eq_by_cmp cells_cmp q k) cells (get puts q) (get base q)
    ∙ ap (λ o. option_or o (get base q)) (sym (get-insert cells_total puts k cells q))

lies_changed : (place : Place) (q : List Cell) (base puts now : Content) (change : RowChange) → Lies place q base puts now → Lies place q base (changed puts change) (changed now change)
lies_changed (Inspection id n) q base puts now (AddInspection of x) lies = lies_put base.inspection puts.inspection now.inspection _ _ q lies
lies_changed (Order id n) q base puts now (AddOrder of x) lies = lies_put base.work_order puts.work_order now.work_order _ _ q lies
lies_changed (Order id n) q base puts now (PutOrder of x) lies = lies_put base.work_order puts.work_order now.work_order _ _ q lies
lies_changed (Line id order line) q base puts now (AddLine of x) lies = lies_put base.used_part puts.used_part now.used_part _ _ q lies
lies_changed (Part code) q base puts now (PutPart part hand) lies = lies_put base.part puts.part now.part _ _ q lies
lies_changed (Delivery code n) q base puts now (AddDelivery x) lies = lies_put base.delivery puts.delivery now.delivery _ _ q lies
lies_changed _ q base puts now _ lies = lies

lies_after : (place : Place) (q : List Cell) (base puts now : Content) (changes : List RowChange) → Lies place q base puts now → Lies place q base (changed_by puts changes) (changed_by now changes)
lies_after place q base puts now [] lies = lies
lies_after place q base puts now (change ∷ changes) lies =
    lies_after place q base (changed puts change) (changed now change) changes (lies_changed place q base puts now change lies)

nothing_at : (place : Place) (q : List Cell) → at no_content place q ≡ None
nothing_at (Inspection id n) q = get-empty cells_cmp q
nothing_at _ q = get-empty cells_cmp q

lies_over : (place : Place) (q : List Cell) (tables : Content) (changes : List RowChange) → Lies place q tables (changed_by no_content changes) (changed_by tables changes)
lies_over place q tables changes = lies_after place q tables no_content tables changes (ap (λ o. option_or o (at tables place q)) (sym (nothing_at place q)))

-- ---- what is read at a place

found_some : (place : Place) (it : RegisterRecord) → IsOfPlace place it → IsSome (found_at place (Some it))
found_some (Inspection id n) (kind.Inspection it) within = refl
found_some (Order id n) (kind.Order it) within = refl
found_some (Line id order line) (kind.Line it) within = refl
found_some (Part code) (kind.Part it) within = refl
found_some (Delivery code n) (kind.Delivery it) within = refl
found_some _ _ within = absurd within

found_none : (place : Place) → found_at place None ≡ None
found_none (Inspection id n) = refl
found_none _ = refl

covers : {X : Type 0} (f : X → List Cell) (o : Option X) (before : Option (List Cell)) → IsSome o → option_or (option_map f o) before ≡ option_map f o
covers f (Some x) before some = refl
covers f None before some = absurd cc

module _ (place : Place) (tables : Content) (changes : List RowChange) where
  -- what the rows put
  pub put_stands : (it : RegisterRecord) → IsOfPlace place it → ReadsAt (changed_by no_content changes) place (found_at place (Some it)) → ReadsAt (changed_by tables changes) place (found_at place (Some it))
  put_stands it within puts = record {
    stored = lies_over place (key_cells place) tables changes ∙ ap (λ o. option_or o (at tables place (key_cells place))) puts.stored
        ∙ covers (columns_at place) (found_at place (Some it)) (at tables place (key_cells place)) (found_some place it within);
    keyed = puts.keyed;
  }

  -- or what stood there
  pub still_stands : (before : Option (RecordAt place)) → ReadsAt (changed_by no_content changes) place (found_at place None) → ReadsAt tables place before → ReadsAt (changed_by tables changes) place before
  still_stands before puts there = record {
    stored = lies_over place (key_cells place) tables changes
        ∙ ap (λ o. option_or o (at tables place (key_cells place))) (puts.stored ∙ ap (option_map (columns_at place)) (found_none place)) ∙ there.stored;
    keyed = there.keyed;
  }

-- what the rows inside make is what those seen make
pub seen : {inside changes : List RowChange} {puts : Content} {found put : Option RegisterRecord} (place : Place) → inside ≡ changes → puts ≡ changed_by no_content inside → found ≡ put
    → ReadsAt puts place (found_at place found) → ReadsAt (changed_by no_content changes) place (found_at place put)
seen place viewed made is = subst₂ (λ t o. ReadsAt t place (found_at place o)) (made ∙ ap (changed_by no_content) viewed) is

-- where a record is put, there are rows
pub some_put : (place : Place) (changes : List RowChange) (it : RegisterRecord) → IsOfPlace place it → ReadsAt (changed_by no_content changes) place (found_at place (Some it)) → changes ≢ []
some_put place changes it within puts none =
    let nothing : option_map (columns_at place) (found_at place (Some it)) ≡ None =
    sym puts.stored ∙ ap (λ rows. at (changed_by no_content rows) place (key_cells place)) none ∙ nothing_at place (key_cells place) in
    let never : Some [] ≡ None =
    ap (λ o. option_or o (Some [])) (sym nothing) ∙ covers (columns_at place) (found_at place (Some it)) (Some []) (found_some place it within) ∙ nothing in cc

pub changed_append : (tables : Content) (changes later : List RowChange) → changed_by tables (changes ++ later) ≡ changed_by (changed_by tables changes) later
changed_append tables [] later = refl
changed_append tables (change ∷ changes) later = changed_append (changed tables change) changes later

-- rows after rows
pub news_after : (tables : Content) (first later : List RowChange) → AddNew tables first → AddNew (changed_by tables first) later → AddNew tables (first ++ later)
news_after tables [] later one two = two
news_after tables (change ∷ first) later one two = (one.0, news_after (changed tables change) first later one.1 two)

-- ---- one row for each part

-- the rows but those of parts, on the parts as all of them make them
split : (tables : Content) (rows : List RowChange) → changed_by tables rows ≡ changed_by (record tables { part = (changed_by tables rows).part }) (filter is_other rows)
split tables [] = refl
split tables (PutPart code hand ∷ rows) = split (changed tables (PutPart code hand)) rows
split tables (row ∷ rows) = split (changed tables row) rows

split_news : (held : TableRows) (tables : Content) (rows : List RowChange) → AddNew tables rows → AddNew (record tables { part = held }) (filter is_other rows)
split_news held tables [] news = tt
split_news held tables (PutPart code hand ∷ rows) news = split_news held (changed tables (PutPart code hand)) rows news.1
split_news held tables (row ∷ rows) news = (news.0, split_news held (changed tables row) rows news.1)

abbrev Entry : Type 0
Entry = List Cell × List Cell

-- rows put one after the other
abbrev put_all : TableRows → List Entry → TableRows
put_all rows [] = rows
put_all rows (e ∷ es) = put_all (insert rows e.0 e.1) es

below_none : (k : List Cell) (es : List Entry) → T (below_all cells_cmp k es) → find cells_cmp k es ≡ None
below_none k [] low = refl
below_none k (e ∷ es) low =
    let first : cells_cmp k e.0 ≡ Less = less _ (parts _ _ low).0 in rw first (below_none k es (parts _ _ low).1)

-- of entries in order each stands under its key
put_got : (es : List Entry) → T (is_sorted cells_cmp es) → (rows : TableRows) (q : List Cell) → get (put_all rows es) q ≡ option_or (find cells_cmp q es) (get rows q)
put_got [] sorted rows q = refl
put_got (e ∷ es) sorted rows q =
    put_got es (parts _ _ sorted).1 (insert rows e.0 e.1) q ∙ ap (option_or (find cells_cmp q es)) (get-insert cells_total rows e.0 e.1 q)
    ∙ elim (cases_Bool (eq_by_cmp cells_cmp q e.0)) [
      | inl hit ↦ rw (hit, cells_exact q e.0 (tied _ hit), below_none e.0 es (parts _ _ sorted).0)
      | inr miss ↦ rw miss
    ]

abbrev cells : List ℕ × ℕ → Entry
cells part = (part_key part.0, part_columns part.1)

parts_put : (tables : Content) (list : List (List ℕ × ℕ)) → changed_by tables (map part_row list) ≡ record tables { part = put_all tables.part (map cells list) }
parts_put tables [] = refl
parts_put tables (part ∷ list) = parts_put (changed tables (part_row part)) list

parts_news : (tables : Content) (list : List (List ℕ × ℕ)) (rows : List RowChange) → AddNew (changed_by tables (map part_row list)) rows → AddNew tables (map part_row list ++ rows)
parts_news tables [] rows news = news
parts_news tables (part ∷ list) rows news = (tt, parts_news (changed tables (part_row part)) list rows news)

-- ---- how many they are

parts_written : (list : List (List ℕ × ℕ)) (rows : List RowChange) → writes_in table.Part (map part_row list ++ filter is_other rows) ≡ length list
parts_written (part ∷ list) rows = let rest = parts_written list rows in omega arith
parts_written [] (PutPart code hand ∷ rows) = parts_written [] rows
parts_written [] (row ∷ rows) = let rest = parts_written [] rows in omega arith
parts_written [] [] = refl

-- of any other table than that of the parts no more than before
others_few : (t : Table) (list : List (List ℕ × ℕ)) (rows : List RowChange) → is_same_table table.Part t ≡ false → writes_in t (map part_row list ++ filter is_other rows) ≤ writes_in t rows
others_few t (part ∷ list) rows other =
    let none = ap (λ b. cond {A = ℕ} b 1 0) other in
    let rest = others_few t list rows other in
    omega arith
others_few t [] [] other = omega arith
others_few t [] (PutPart code hand ∷ rows) other = let rest = others_few t [] rows other in omega arith
others_few t [] (row ∷ rows) other = let rest = others_few t [] rows other in omega arith

-- a row more at most
insert_few : (rows : TableRows) (k columns : List Cell) → len (insert rows k columns) ≤ len rows + 1
insert_few rows k columns = elim (cases_Bool (contains_key rows k)) [
  | inl has ↦ rw (len-insert cells_total rows k columns, has) (omega arith)
  | inr new ↦ rw (len-insert cells_total rows k columns, new) (omega arith)
]

parts_few : (tables : Content) (rows : List RowChange) → len (changed_by tables rows).part ≤ len tables.part + writes_in table.Part rows
parts_few tables [] = omega arith
parts_few tables (PutPart code hand ∷ rows) =
    let rest = parts_few (changed tables (PutPart code hand)) rows in
    let one = insert_few tables.part (part_key code) (part_columns hand) in
    omega arith
parts_few tables (row ∷ rows) = let rest = parts_few (changed tables row) rows in omega arith

-- ---- the rows of parts, and then the others

pub none_come : ComesTo [] []
none_come = record {
  makes = λ tables. refl;
  writes = λ t. omega arith;
  once = sym (len-empty cells_cmp (List Cell));
  news = λ tables news. news;
}

module _ (pending : List RowChange) (list : List (List ℕ × ℕ)) (lists : ListsParts (changed_by no_content pending) list) where
  abbrev rows : List RowChange
  rows = map part_row list ++ filter is_other pending

  same_parts : (tables : Content) → put_all tables.part (map cells list) ≡ (changed_by tables pending).part
  same_parts tables = ap (put_all tables.part) lists ∙ same_map cells_total cells_exact _ _ (λ q.
      let puts = (changed_by no_content pending).part in
      put_got (entries puts) (entries_sorted puts) tables.part q ∙ ap (λ o. option_or o (get tables.part q)) (sym (get-entries puts q))
      ∙ sym (lies_over (Part []) q tables pending))

  parts_first : (tables : Content) → changed_by tables (map part_row list) ≡ record tables { part = (changed_by tables pending).part }
  parts_first tables = parts_put tables list ∙ ap (λ (held : TableRows). record tables { part = held }) (same_parts tables)

  counted : length list ≡ len (changed_by no_content pending).part
  counted = sym (length-map list cells) ∙ ap (λ (es : List Entry). length es) lists ∙ sym (len-entries (changed_by no_content pending).part)

  few : (t : Table) → writes_in t rows ≤ writes_in t pending
  few table.Part =
      let written = parts_written list pending in
      let most = parts_few no_content pending in
      let nothing = len-empty cells_cmp (List Cell) in
      omega (arith, counted)
  few t = others_few t list pending refl

  pub comes_to : ComesTo pending rows
  comes_to = record {
    makes = λ tables. changed_append tables (map part_row list) (filter is_other pending) ∙ ap (λ t. changed_by t (filter is_other pending)) (parts_first tables) ∙ sym (split tables pending);
    writes = few;
    once = parts_written list pending ∙ counted;
    news = λ tables news. parts_news tables list (filter is_other pending) (subst (λ t. AddNew t (filter is_other pending)) (sym (parts_first tables)) (split_news _ tables pending news));
  }
