-- SQL's = is the tie of cells, so a look-up by key gives what the map has under its cells.
use Rattle.std.proofs.Common.{◌≡◌, ℕ, Bool, true, false, List, [], ◌∷◌, find, cond, Option, None, Some, option_map, int_cmp, refl, sym, ap, subst, ◌∙◌, true≢false, inl, inr}
use Rattle.std.proofs.lemmas.Bool.{and_parts, and_from}
use Rattle.std.specs.{Cmp.both_tied, Cmp.eq_by_cmp_equiv, FinMap.get, Ordering.is_eq, Ordering.ordering_then}
use Rattle.sqlite.specs.{Collation.TheVariants.Binary, declared.types.Value.Value, Tree.rowid, declared.types.Value.TheVariants.Int, declared.types.Value.TheVariants.Text, Order.Row, Order.column, Order.value_cmp, Order.row_cmp, View.IsShaped, Ops.binary, Ops.is_true, Ops.from_truth}
use Rattle.sqlite_rules.proofs.{ListLemmas.all_has, TableLemmas.int_is}
use Rattle.sqlite_schema.specs.Rules.{agree, equal}
use Rattle.sqlite_value.specs.Keys.{plain, first_key}
use Rattle.sqlite_value.proofs.OrderLemmas.{value_cmp-Int, value_cmp-Text, value_cmp-apart, then-Equal}
use Rattle.sqlite_rules.specs.Lists.{Has}
use Rattle.office_tables_shelf.specs.Cells.{Cell, cell_cmp, cells_cmp}
use Rattle.office_tables_shelf.proofs.CellLemmas.{cells_total, is_under, get_by}
use Rattle.office_tables_statements.specs.Layout.{Layout, values_at, has_key}
use Rattle.office_tables_statements.specs.Stored.{cell_of, cells, cells_at, rows_in, is_sound, are_sound}
use Rattle.sqlite_trees.specs.declared.store.Shape.TheVariants as shape

-- ---- SQL's =

told : (b : Bool) → is_true (from_truth (Some b)) ≡ b
told true = refl
told false = refl

-- sound values are ordered as their cells, and = is the tie
compared : (a b : Value) → is_sound a ≡ true → is_sound b ≡ true
    → (value_cmp a b ≡ cell_cmp (cell_of a) (cell_of b))
    × (equal Binary a b ≡ is_eq (value_cmp a b))
unfolding binary cell_cmp
compared (Int m) (Int n) h k = (value_cmp-Int m n ∙ sym (then-Equal (int_cmp m n)), told _)
compared (Int m) (Text t) h k = (value_cmp-apart (Int m) (Text t) (λ e. cc), told _)
compared (Text s) (Int n) h k = (value_cmp-apart (Text s) (Int n) (λ e. cc), told _)
compared (Text s) (Text t) h k = (value_cmp-Text s t, told _)
compared (Int m) _ h k = absurd (true≢false (sym k))
compared (Text s) _ h k = absurd (true≢false (sym k))
compared _ b h k = absurd (true≢false (sym h))

equal_ties : (a b : Value) → is_sound a ≡ true → is_sound b ≡ true → equal Binary a b ≡ is_eq (cell_cmp (cell_of a) (cell_of b))
equal_ties a b h k = let it = compared a b h k in it.1 ∙ ap is_eq it.0

-- SQL's order of the values of sound keys is that of their cells
pub same_order : (ps qs : List ℕ) (a b : Row) → are_sound ps a ≡ true → are_sound qs b ≡ true → row_cmp (values_at ps a) (values_at qs b) ≡ cells_cmp (cells_at ps a) (cells_at qs b)
same_order [] [] a b h k = refl
same_order [] (q ∷ qs) a b h k = refl
same_order (p ∷ ps) [] a b h k = refl
same_order (p ∷ ps) (q ∷ qs) a b h k =
    let hs = and_parts _ _ h in
    let ks = and_parts _ _ k in
    let first = compared (column a p) (column b q) hs.0 ks.0 in
    let later = same_order ps qs a b hs.1 ks.1 in
    λ i. ordering_then (first.0 i) (later i)

-- over the values of sound keys, SQL's = is the tie of their cells
pub agree_ties : (ps qs : List ℕ) (a b : Row) → are_sound ps a ≡ true → are_sound qs b ≡ true → agree plain ps a qs b ≡ is_eq (cells_cmp (cells_at ps a) (cells_at qs b))
unfolding first_key
agree_ties [] [] a b h k = refl
agree_ties [] (q ∷ qs) a b h k = refl
agree_ties (p ∷ ps) [] a b h k = refl
agree_ties (p ∷ ps) (q ∷ qs) a b h k =
    let hs = and_parts _ _ h in
    let ks = and_parts _ _ k in
    both_tied _ _ (cell_cmp (cell_of (column a p)) (cell_of (column b q))) _ (equal_ties (column a p) (column b q) hs.0 ks.0) (agree_ties ps qs a b hs.1 ks.1)

-- ---- what stands under a key

-- the row's key has these cells
abbrev pub has_cells : Layout → List Cell → Row → Bool
has_cells t = is_under (cells_at t.keys) (cells_at t.columns)

pub get_rows : (t : Layout) (rows : List Row) (key : List Cell) → get (rows_in t rows) key ≡ option_map (cells_at t.columns) (find (has_cells t key) rows)
get_rows t = get_by (cells_at t.keys) (cells_at t.columns)

-- each row has a sound key
abbrev pub HaveKeys : Layout → List Row → Type 0
HaveKeys t rows = (r : Row) → Has rows r → are_sound t.keys r ≡ true

find_alike : (p q : Row → Bool) (rows : List Row) → ((r : Row) → Has rows r → p r ≡ q r) → find p rows ≡ find q rows
find_alike p q [] same = refl
find_alike p q (r ∷ rows) same =
    let later = find_alike p q rows (λ x there. same x (inr there)) in
    λ i. cond (same r (inl refl) i) (Some r) (later i)

twice : {X Y Z : Type 0} (f : Y → Z) (g : X → Y) (o : Option X) → option_map (λ x. f (g x)) o ≡ option_map f (option_map g o)
twice f g None = refl
twice f g (Some x) = refl

-- the map has, under the cells of a key, the cells of the row that SQL's = finds
pub get_columns : (t : Layout) (rows : List Row) (key : Row) → HaveKeys t rows → are_sound t.places key ≡ true → get (rows_in t rows) (cells_at t.places key) ≡ option_map cells (option_map (values_at t.columns) (find (has_key t key) rows))
get_columns t rows key sound given =
    get_rows t rows (cells_at t.places key)
    ∙ ap (option_map (cells_at t.columns)) (find_alike (has_cells t (cells_at t.places key)) (has_key t key) rows (λ r there. turned r (sound r there)))
    ∙ twice cells (values_at t.columns) (find (has_key t key) rows)
  where
    turned : (r : Row) → are_sound t.keys r ≡ true → has_cells t (cells_at t.places key) r ≡ has_key t key r
    turned r h = (eq_by_cmp_equiv cells_total).symm (cells_at t.places key) (cells_at t.keys r) ∙ sym (agree_ties t.keys t.places r key h given)

-- a table that keeps its key as the rowid
pub sound_rowids : (t : Layout) → t.keys ≡ 0 ∷ [] → (rows : List Row) → IsShaped shape.Table rows → HaveKeys t rows
sound_rowids t keys rows shaped row there =
    let int = int_is (rowid row) (all_has _ rows row shaped.1 there) in
    subst (λ places. are_sound places row ≡ true) (sym keys) (and_from _ _ (ap is_sound int) refl)
