-- A row of cells that a table takes: what the statements read of its parameters, store, and show again.
use Rattle.std.proofs.Common.{◌≡◌, ℕ, suc, ◌+◌, ℤ, true, List, [], ◌∷◌, ◌++◌, map, length, get_or, Option, Ok, refl, sym, ap, subst₂, ◌∙◌, true≢false, arith}
use Rattle.std.proofs.lemmas.Bool.{and_parts}
use Rattle.sqlite.specs.{declared.types.Value.TheVariants.Int, Edit.with_rowid, Effect.Database, Kind.Kind, Order.Row, Rowids.TheVariants.Chosen, Rows.Sourced, Rows.stamped, Term.eval_all}
use Rattle.sqlite_schema.specs.declared.schema.Column.{Column}
use Rattle.office_tables_shelf.specs.Cells.{Cell, null, number, text, odd}
use Rattle.office_tables_shelf.specs.declared.rows.Table.{Table}
use Rattle.office_tables_statements.specs.{Layout.places_from, Stored.cell_of, Stored.cells, Stored.cells_at}
use Rattle.office_tables_statements.specs.Tables.{IsKeyOf, are_as_many, beside_rowid, id_given, key_given, layout_at, others_given, schema_at, source_at, suit, suits_kind, takes, value_of, values_of}
use Rattle.sqlite.specs.Kind.TheVariants as kind
use Rattle.office_tables_shelf.specs.declared.rows.Table.TheVariants as table

-- the values that are stored beside the rowid of a row with these cells
abbrev pub stored_beside : Table → List Cell → List Cell → Row
stored_beside t key columns = values_of (beside_rowid t null key ++ columns)

-- the values that an insertion gives for a row with these cells, its rowid first
abbrev pub row_given : Table → List Cell → List Cell → Row
row_given t key columns = value_of (id_given t key) ∷ stored_beside t key columns

pub record Fits (t : Table) (key columns : List Cell) : Type 0 where
  -- the cells are what the statements read of the parameters
  pub whole : IsKeyOf t (values_of (key ++ columns))
  pub named : key_given t (values_of (key ++ columns)) ≡ key
  pub given : (limit : Option ℕ) (db : Database) (rows : List Row) → Sourced limit db (stamped (schema_at t) (values_of (key ++ columns))) (source_at t) (Ok rows) → rows ≡ row_given t key columns ∷ []
  pub rest : (row : Row) → eval_all (others_given t) (values_of (key ++ columns) ∷ row ∷ []) ≡ values_of columns
  -- the columns take the cells
  pub numbered : suits_kind kind.Integer (id_given t key) ≡ true
  pub suits : suit (schema_at t).columns (beside_rowid t null key ++ columns) ≡ true
  -- a row of these cells shows them when it was added, and when it was changed to them
  pub placed : (rows : List Row) → (cells_at (layout_at t).keys (with_rowid Chosen rows (row_given t key columns)) ≡ key) × (cells_at (layout_at t).columns (with_rowid Chosen rows (row_given t key columns)) ≡ columns)
  pub kept : (n : ℤ) (row : Row) → cells_at (layout_at t).keys (Int n ∷ row) ≡ key → cells_at (layout_at t).keys (Int n ∷ stored_beside t key columns) ≡ key
  pub shows : (n : ℤ) → cells_at (layout_at t).columns (Int n ∷ stored_beside t key columns) ≡ columns

-- ---- values and their cells

cell_back : (k : Kind) (x : Cell) → suits_kind k x ≡ true → cell_of (value_of x) ≡ x
cell_back k null h = refl
cell_back k (number n) h = refl
cell_back k (text t) h = refl
cell_back kind.Integer odd h = absurd (true≢false (sym h))
cell_back kind.Text odd h = absurd (true≢false (sym h))
cell_back _ odd h = absurd (true≢false (sym h))

cells_back : (cs : List Column) (xs : List Cell) → are_as_many cs xs ≡ true → suit cs xs ≡ true → cells (values_of xs) ≡ xs
cells_back [] [] long h = refl
cells_back [] (x ∷ xs) long h = absurd (true≢false (sym long))
cells_back (c ∷ cs) [] long h = absurd (true≢false (sym long))
cells_back (c ∷ cs) (x ∷ xs) long h =
    let both = and_parts _ _ h in
    let first = cell_back c.kind x both.0 in
    let later = cells_back cs xs long both.1 in
    λ i. first i ∷ later i

-- ---- cells by their places

-- so many as there are places, from the first one on
abbrev placed_by : (ℕ → Cell) → List ℕ → List Cell
placed_by cell places = map cell (places_from 0 places)

spread : (n : ℕ) (cell : ℕ → Cell) (ps : List ℕ) (xs : List Cell) → are_as_many ps xs ≡ true → ((i : ℕ) → cell (n + i) ≡ get_or xs i null) → map cell (places_from n ps) ≡ xs
spread n cell [] [] long at = refl
spread n cell [] (x ∷ xs) long at = absurd (true≢false (sym long))
spread n cell (p ∷ ps) [] long at = absurd (true≢false (sym long))
spread n cell (p ∷ ps) (x ∷ xs) long at =
    let here : n ≡ n + 0 = omega arith in
    let first : cell n ≡ x = ap cell here ∙ at 0 in
    let later = spread (suc n) cell ps xs long (λ i. let next : suc n + i ≡ n + suc i = omega arith in ap cell next ∙ at (suc i)) in
    λ i. first i ∷ later i

fits_number : (x : Cell) (cell : ℕ → Cell) → takes table.Intersection (x ∷ []) (placed_by cell (layout_at table.Intersection).columns) ≡ true
    → Fits table.Intersection (x ∷ []) (placed_by cell (layout_at table.Intersection).columns)
fits_number (number n) cell h =
    let all = cells_back (schema_at table.Intersection).columns (null ∷ placed_by cell (layout_at table.Intersection).columns) refl h in
    let shown = ap (λ (xs : List Cell). map (λ p. get_or xs p null) (places_from 1 (layout_at table.Intersection).columns)) all in
    record { whole = refl; named = refl; given = λ limit db rows h. h.1; rest = λ r. refl; numbered = refl; suits = h; placed = λ rows. (refl, shown); kept = λ m r has. has; shows = λ m. shown }
fits_number null cell h = absurd (true≢false (sym h))
fits_number (text t) cell h = absurd (true≢false (sym h))
fits_number odd cell h = absurd (true≢false (sym h))

fits_at : (t : Table) (key others : ℕ → Cell) → takes t (placed_by key (layout_at t).keys) (placed_by others (layout_at t).columns) ≡ true
    → Fits t (placed_by key (layout_at t).keys) (placed_by others (layout_at t).columns)
fits_at table.Intersection key others h = fits_number (key 0) others h
fits_at t key others h =
    let both = and_parts _ _ h in
    let all = cells_back (schema_at t).columns (placed_by key (layout_at t).keys ++ placed_by others (layout_at t).columns) refl both.1 in
    let keyed = ap (λ (xs : List Cell). map (λ p. get_or xs p null) (places_from 0 (layout_at t).keys)) all in
    let shown = ap (λ (xs : List Cell). map (λ p. get_or xs p null) (places_from (length (layout_at t).keys) (layout_at t).columns)) all in
    record { whole = both.0; named = keyed; given = λ limit db rows h. h.1; rest = λ r. refl; numbered = refl; suits = both.1; placed = λ rows. (keyed, shown); kept = λ m r has. keyed; shows = λ m. shown }

pub fits : (t : Table) (key columns : List Cell) → takes t key columns ≡ true → Fits t key columns
fits t key columns h =
    let long = and_parts _ _ (and_parts _ _ h).0 in
    let one = spread 0 (λ i. get_or key i null) (layout_at t).keys key long.0 (λ i. let e : 0 + i ≡ i = omega arith in ap (λ m. get_or key m null) e) in
    let two = spread 0 (λ i. get_or columns i null) (layout_at t).columns columns long.1 (λ i. let e : 0 + i ≡ i = omega arith in ap (λ m. get_or columns m null) e) in
    subst₂ (Fits t) one two (fits_at t (λ i. get_or key i null) (λ i. get_or columns i null) (subst₂ (λ ks cs. takes t ks cs ≡ true) (sym one) (sym two) h))
