-- How records of one kind are kept in a tree, each under its place, and the rows that they stand for.
use Rattle.office_tables_shelf.specs.Cells.{Cell, TableRows, cells_cmp, tree_rows}
use Rattle.std.specs.{Prelude.{◌≡◌, List}, List.{AllByRecursion}, declared.cmp.Ordering.{Ordering}, declared.cmp.Ordering.TheVariants.{Equal}}

-- places in a tree: the key cells of the row at each, and their limits
pub record Places (K : Type 0) : Type 1 where
  pub cells : K → List Cell
  pub is_place : K → Type 0

-- the cells are ordered as the places are, which tie only where they are equal
pub record AreLaws {K : Type 0} (R : K → K → Ordering) (places : Places K) : Type 0 where
  pub ordered : (a b : K) → cells_cmp (places.cells a) (places.cells b) ≡ R a b
  pub exact : (a b : K) → R a b ≡ Equal → a ≡ b

-- records of one kind: the own place of a record that stands at a place, by what it names of it, the cells of its row
-- beside the key, and its limits
pub record Stored (K X : Type 0) : Type 1 where
  pub own : K → X → K
  pub columns : X → List Cell
  pub is_within : X → Type 0

-- the rows that the entries of a tree stand for
abbrev pub stored_rows : {K X : Type 0} → Places K → Stored K X → List (K × X) → TableRows
stored_rows places kind = tree_rows places.cells kind.columns

-- a record stands under its own place, both within their limits
abbrev pub StandsUnder : {K X : Type 0} → Places K → Stored K X → K → X → Type 0
StandsUnder places kind k x = (kind.own k x ≡ k) × (places.is_place k × kind.is_within x)

-- each record of a tree does
abbrev pub ArePlaced : {K X : Type 0} → Places K → Stored K X → List (K × X) → Type 0
ArePlaced places kind = AllByRecursion (λ e. StandsUnder places kind e.0 e.1)
