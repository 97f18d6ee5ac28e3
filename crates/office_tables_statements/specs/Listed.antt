-- The cells of a timing or draft row as a query of five columns shows it.
use Rattle.std.specs.Prelude.{List, [], ◌∷◌}
use Rattle.sqlite.specs.Order.{Row}
use Rattle.office_tables_shelf.specs.Cells.{Cell}
use Rattle.office_tables_statements.specs.Stored.{cells_at}

-- the key cells of a shown row: intersection, kind, and the two numbers of the key
abbrev pub shown_key : Row → List Cell
shown_key = cells_at (0 ∷ 1 ∷ 2 ∷ 3 ∷ [])
