-- What rows tell: the things of a list, and the intersection that a row is of.
use Rattle.std.proofs.Common.{◌≡◌, ℕ, pos, true, List, [], ◌∷◌, map, refl}
use Rattle.std.specs.List.{AllByRecursion}
use Rattle.office_tables_shelf.proofs.{CellLemmas.cell_exact, CellLemmas.tied}
use Rattle.office_tables_shelf.specs.{Cells.Cell, Cells.number, Shelf.is_of}

-- ---- lists that are shown by rows

-- a list whose rows are those of other things is of these, if a row tells what it is of
pub told_by_rows : {X E Row : Type 0} (row : X → Row) (cells : E → Row) (of : E → X) (Stands : E → Type 0) → ((x : X) (e : E) → Stands e → row x ≡ cells e → x ≡ of e)
    → (xs : List X) (es : List E) → AllByRecursion Stands es → map row xs ≡ map cells es → xs ≡ map of es
told_by_rows row cells of Stands tells [] [] all same = refl
told_by_rows row cells of Stands tells (x ∷ xs) (e ∷ es) all same =
    let first : row x ≡ cells e = cc in
    let rest : map row xs ≡ map cells es = cc in
    let head = tells x e all.0 first in
    let tail = told_by_rows row cells of Stands tells xs es all.1 rest in
    λ i. head i ∷ tail i
told_by_rows row cells of Stands tells _ _ all same = absurd cc

-- where a row tells it of anything
pub rows_tell : {X E Row : Type 0} (row : X → Row) (cells : E → Row) (of : E → X) → ((x : X) (e : E) → row x ≡ cells e → x ≡ of e) → (xs : List X) (es : List E) → map row xs ≡ map cells es → xs ≡ map of es
rows_tell {E = E} row cells of tells xs es = told_by_rows row cells of (λ e. Unit {0}) (λ x e at. tells x e) xs es (units es)
  where
    units : (list : List E) → AllByRecursion (λ e. Unit {0}) list
    units [] = tt
    units (e ∷ list) = (tt, units list)

-- ---- keys

-- the first cell of a key tells the intersection
pub of_tells : (id other : ℕ) (cells : List Cell) → is_of id (number (pos other) ∷ cells) ≡ true → id ≡ other
of_tells id other cells of = let same = cell_exact _ _ (tied _ of) in cc
