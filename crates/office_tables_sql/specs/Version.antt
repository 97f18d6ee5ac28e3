-- The version that an office's tables store, and what it is today and was first.
use Rattle.std.specs.Prelude.{◌≡◌, ℕ, List, [], ◌∷◌, pos, Option, Some}
use Rattle.std.specs.FinMap.{get}
use Rattle.sqlite.specs.{Effect.IsDatabase, Order.Row, Tree.Trees}
use Rattle.office_tables_shelf.specs.{Cells.Cell, Cells.number, Content.Content}
use Rattle.office_tables_statements.specs.{Schema.office_schema, Stored.content_of, Stored.rows_in}
use Rattle.office_tables_statements.specs.Layout as layout

-- the version that rows of `office_version` store, if they store one: the cells under the number 1
abbrev pub version_of : List Row → Option (List Cell)
version_of rows = get (rows_in layout.office_version rows) (number (pos 1) ∷ [])

-- the version that trees store in the place of `office_version`, if they store one
abbrev pub version_in : Trees → Option (List Cell)
version_in trees = version_of (trees layout.office_version.tree)

-- the cells of version 2, which is today's: in its rows of plans, the pedestrian part of a phase has a lead
abbrev pub current_version : List Cell
current_version = number (pos 2) ∷ []

-- the trees are those of the office's tables, and store today's version
pub record AreToday (trees : Trees) : Type 0 where
  pub sound : IsDatabase (record { schema = office_schema; trees = trees })
  pub stored : version_in trees ≡ Some current_version

-- the cells of version 1: in its rows of plans, the pedestrian part of a phase has no lead
abbrev pub first_version : List Cell
first_version = number (pos 1) ∷ []

-- the trees are those of the office's tables, hold this content, and store today's version
pub record Completes (tables : Content) (trees : Trees) : Type 0 where
  pub content : content_of trees ≡ tables
  pub today : AreToday trees
