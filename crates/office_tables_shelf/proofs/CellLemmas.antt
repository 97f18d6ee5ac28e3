-- The order of cells is total and exact, and what stands under a key is the first of a list.
use Rattle.std.proofs.Common.{◌≡◌, Bool, true, List, [], ◌∷◌, map, find, cond, Option, Some, option_map, int_cmp, nat_cmp, refl, sym, ap, ◌∙◌, arith}
use Rattle.std.proofs.lemmas.Cmp.{on_total, then_total, nat_cmp_total, nat_list_cmp_total, lists_total}
use Rattle.std.proofs.lemmas.Map.Lookups.{exact_pairs, exact_unsigned, exact_signed, exact_bytes}
use Rattle.std.specs.{Cmp.IsTotalOrder, Cmp.int_cmp_total, Cmp.Lexicographic.slice_cmp, FinMap.IsAntisymmetric, FinMap.slice_cmp-IsAntisymmetric, FinMap.get, FinMap.get-from_entries, Ordering.is_eq, Ordering.ordering_then, declared.cmp.Ordering.Ordering, declared.cmp.Ordering.TheVariants.Equal}
use Rattle.office_tables_shelf.specs.Cells.{Cell, rows_by, class, whole, bytes, cell_cmp, cells_cmp, to_parts, from_parts, from_parts-to_parts}
use Rattle.std.specs.FinMap as finite

-- ---- the order

pub cell_total : IsTotalOrder cell_cmp
unfolding cell_cmp
cell_total = then_total (on_total class nat_cmp_total) (then_total (on_total whole int_cmp_total) (on_total bytes nat_list_cmp_total))

pub cell_exact : IsAntisymmetric cell_cmp
unfolding cell_cmp
cell_exact a b tied =
    let same = exact_pairs nat_cmp (λ x y. ordering_then (int_cmp x.0 y.0) (slice_cmp nat_cmp x.1 y.1)) exact_unsigned (exact_pairs int_cmp (slice_cmp nat_cmp) exact_signed exact_bytes) (to_parts a) (to_parts b) tied in
    sym (from_parts-to_parts a) ∙ ap from_parts same ∙ from_parts-to_parts b

pub cells_total : IsTotalOrder cells_cmp
cells_total = lists_total cell_total

pub cells_exact : IsAntisymmetric cells_cmp
cells_exact = slice_cmp-IsAntisymmetric cell_exact

-- ---- what stands under a key

pub mapped : {X Y : Type 0} (f : X → Y) (b : Bool) (o p : Option X) → option_map f (cond b o p) ≡ cond b (option_map f o) (option_map f p)
mapped f b o p = grind arith

pub held : {X : Type 0} (columns : X → List Cell) (there : Option X) (cells : List Cell) → Some cells ≡ option_map columns there → (x : X) × (there ≡ Some x) × (cells ≡ columns x)
held columns there cells same = grind arith

module _ {X : Type 0} (key columns : X → List Cell) where
  -- the first of a list at a key, and its other cells
  abbrev pub is_under : List Cell → X → Bool
  is_under q x = is_eq (cells_cmp q (key x))

  abbrev pub first_under : List X → List Cell → Option (List Cell)
  first_under xs q = option_map columns (find (is_under q) xs)

  pub find_entry : (xs : List X) (q : List Cell) → finite.find cells_cmp q (map {B = List Cell × List Cell} (λ (x : X). (key x, columns x)) xs) ≡ first_under xs q
  find_entry [] q = refl
  find_entry (x ∷ xs) q = ap (cond (is_under q x) (Some (columns x))) (find_entry xs q) ∙ sym (mapped columns (is_under q x) (Some x) (find (is_under q) xs))

  pub get_by : (xs : List X) (q : List Cell) → get (rows_by key columns xs) q ≡ first_under xs q
  get_by xs q = get-from_entries cells_total (map {B = List Cell × List Cell} (λ (x : X). (key x, columns x)) xs) q ∙ find_entry xs q

-- ---- ties

pub tied : (o : Ordering) → is_eq o ≡ true → o ≡ Equal
tied o h = grind arith
