-- Cells of keys: texts compare by their bytes, parts by their codes, and a first number tells the intersection.
use Rattle.std.proofs.Common.{◌≡◌, ℕ, pos, ◌==◌, List, ◌∷◌, Ordering, nat_cmp, refl, ◌∙◌, arith}
use Rattle.std.proofs.lemmas.Bool.Decides.{nat_tests}
use Rattle.std.specs.{Cmp.Lexicographic.slice_cmp, Ordering.ordering_then, declared.cmp.Ordering.TheVariants.Equal}
use Rattle.office_tables_shelf.specs.{Cells.Cell, Cells.number, Cells.text, Cells.cell_cmp, Cells.cells_cmp, CabinetRows.part_key, Shelf.is_of}
use Rattle.office_tables_shelf.proofs.TreeLemmas.{then_last, number_order}

-- texts of cells compare by their bytes
pub text_order : (a b : List ℕ) → cell_cmp (text a) (text b) ≡ slice_cmp nat_cmp a b
unfolding cell_cmp
text_order a b = refl

abbrev pub part_cmp : List ℕ → List ℕ → Ordering
part_cmp = slice_cmp nat_cmp

pub part_order : (a b : List ℕ) → cells_cmp (part_key a) (part_key b) ≡ part_cmp a b
part_order a b = (λ i. ordering_then (text_order a b i) Equal) ∙ then_last (part_cmp a b)

pub of_number : (id n : ℕ) (cells : List Cell) → is_of id (number (pos n) ∷ cells) ≡ (n == id)
of_number id n cells = let order = number_order id n in grind (arith, nat_tests, order)
