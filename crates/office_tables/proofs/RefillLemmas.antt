-- Rows that are put into the tables of the office as they were stored.
use Rattle.std.proofs.Common.{◌≡◌, ℕ, true, true≢false, ◌&&◌, List, [], ◌∷◌, ◌++◌, map, length, refl, sym, ap, subst, ◌∙◌}
use Rattle.std.proofs.lemmas.Bool.{and_parts, and_from}
use Rattle.sqlite.specs.{Order.Row, Order.column, State.State, declared.types.Value.Value, declared.types.Value.TheVariants.Null, declared.types.Value.TheVariants.Int, declared.types.Value.TheVariants.Real, declared.types.Value.TheVariants.Text, declared.types.Value.TheVariants.Blob, Values.bound_value}
use Rattle.sqlite_schema.specs.declared.{schema.Column.Column, schema.Kind.Kind}
use Rattle.office_tables_shelf.specs.Cells.{Cell, null, number, text, odd}
use Rattle.office_tables_shelf.specs.{Content.Content, declared.rows.Table.Table}
use Rattle.office_tables_statements.specs.{Layout.values_at, Calls.IsReady, Calls.IsTurned, Calls.Ran}
use Rattle.office_tables_statements.specs.Stored.{are_sound, cell_of, cells, cells_at, content_now, is_sound}
use Rattle.office_tables_statements.specs.Tables.{IsInsertText, layout_at, places_of, schema_at, suit, suits_kind, takes, value_of, values_of}
use Rattle.office_tables_statements.proofs.{StoredPuts.inserts, TableLemmas.each}
use Rattle.office_tables.specs.Moved.{all_put, row_put}
use Rattle.sqlite_schema.specs.declared.schema.Kind.TheVariants as kind
use Rattle.office_tables_shelf.specs.declared.rows.Table.TheVariants as table

-- ---- values and their cells

no_odd : (k : Kind) → suits_kind k odd ≡ true → ⊥
no_odd kind.Integer h = true≢false (sym h)
no_odd _ h = true≢false (sym h)

back_value : (k : Kind) (v : Value) → suits_kind k (cell_of v) ≡ true → value_of (cell_of v) ≡ v
back_value k (Real x) h = absurd (no_odd k h)
back_value k (Blob b) h = absurd (no_odd k h)
back_value k _ h = refl

back_values : (cs : List Column) (vs : Row) → length cs ≡ length vs → suit cs (cells vs) ≡ true → values_of (cells vs) ≡ vs
back_values [] [] long h = refl
back_values [] (v ∷ vs) long h = absurd (cc)
back_values (c ∷ cs) [] long h = absurd (cc)
back_values (c ∷ cs) (v ∷ vs) long h =
    let both = and_parts _ _ h in
    let one = back_value c.kind v both.0 in
    let more = back_values cs vs (cc) both.1 in
    λ i. one i ∷ more i

-- ---- each table takes a row that suits its columns

abbrev IsTold : Table → Row → Type 0
IsTold t row = are_sound (layout_at t).keys row ≡ true

abbrev IsSuited : Table → Row → Type 0
IsSuited t row = suit (schema_at t).columns (cells_at (places_of t) row) ≡ true

abbrev IsTaken : Table → Row → Type 0
IsTaken t row = takes t (cells_at (layout_at t).keys row) (cells_at (layout_at t).columns row) ≡ true

taken_first : (v : Value) (row : Row) → is_sound v && true ≡ true → suit (schema_at table.Intersection).columns (cell_of v ∷ cells_at (2 ∷ 3 ∷ 4 ∷ 5 ∷ 6 ∷ []) row) ≡ true
    → takes table.Intersection (cell_of v ∷ []) (cells_at (2 ∷ 3 ∷ 4 ∷ 5 ∷ 6 ∷ []) row) ≡ true
taken_first (Int n) row told suited = suited
taken_first (Text t) row told suited = absurd (true≢false (sym suited))
taken_first _ row told suited = absurd (true≢false (sym told))

taken : (t : Table) (row : Row) → IsTold t row → IsSuited t row → IsTaken t row
taken table.Intersection row told suited = taken_first (column row 0) row told suited
taken t row told suited =
    let back = back_values (schema_at t).columns (values_at (places_of t) row) refl suited in
    and_from _ _ (ap (are_sound (layout_at t).places) back ∙ told) suited

bound_cells : (xs : List Cell) → map bound_value (values_of xs) ≡ values_of xs
bound_cells [] = refl
bound_cells (null ∷ xs) = ap (λ vs. Null ∷ vs) (bound_cells xs)
bound_cells (number n ∷ xs) = ap (λ vs. Int n ∷ vs) (bound_cells xs)
bound_cells (text t ∷ xs) = ap (λ vs. Text t ∷ vs) (bound_cells xs)
bound_cells (odd ∷ xs) = ap (λ vs. Null ∷ vs) (bound_cells xs)

abbrev bound_at : Row → List ℕ → Row
bound_at row places = map (λ p. bound_value (column row p)) places

bound_row : (t : Table) (row : Row) → IsSuited t row → bound_at row (places_of t) ≡ values_of (cells_at (layout_at t).keys row ++ cells_at (layout_at t).columns row)
bound_row t row suited =
    let at = λ (t : Table). values_at (places_of t) row in
    let back = back_values (schema_at t).columns (at t) (each (λ t. length (schema_at t).columns ≡ length (at t)) refl refl refl refl refl refl refl refl t) suited in
    let joined = each (λ t. map bound_value (at t) ≡ bound_at row (places_of t)) refl refl refl refl refl refl refl refl t in
    let parted = each (λ t. values_of (cells_at (layout_at t).keys row ++ cells_at (layout_at t).columns row) ≡ values_of (cells (at t))) refl refl refl refl refl refl refl refl t in
    sym joined ∙ ap (map bound_value) (sym back) ∙ bound_cells (cells (at t)) ∙ sym parted

pub put_stored : (t : Table) (row : Row) → IsTold t row → IsSuited t row → (sql : List ℕ) → IsInsertText t sql → (params : Row) → params ≡ bound_at row (places_of t)
    → (old new : State) (count : ℕ) → IsReady old → Ran sql params old new count → IsTurned (row_put (content_now old) (t, row)) old new
put_stored t row told suited sql means params is old new count ready ran =
    inserts t _ _ (taken t row told suited) sql means old new count ready (subst (λ ps. Ran sql ps old new count) (is ∙ bound_row t row suited) ran)

-- ---- one row after another, from the last one

pub last_row : (base : Content) (rows : List (Table × Row)) (row : Table × Row) → all_put base (rows ++ row ∷ []) ≡ all_put (row_put base row) rows
last_row base [] row = refl
last_row base (r ∷ rows) row = ap (λ c. row_put c r) (last_row base rows row)
