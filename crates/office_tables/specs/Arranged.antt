-- When each tree of a database holds what the database's list of objects says that it holds.
use Rattle.std.specs.Prelude.{◌≡◌, ℕ, ◌<◌}
use Rattle.sqlite.specs.{State.State, State.HasCleanDisk, Tree.Trees, View.View, View.IsShaped}
use Rattle.sqlite_trees.specs.{declared.store.Shape.Shape, declared.store.Shape.TheVariants.Table, Objects.catalog_tree, Objects.IsListed}

-- the list of objects gives each tree its shape, and the rows of each tree are in the order of its
-- shape
pub record IsArranged (trees : Trees) : Type 0 where
  pub shape : ℕ → Shape
  pub reals : ℕ → ℕ
  pub listed : IsListed (trees catalog_tree) shape reals
  pub objects : IsShaped Table (trees catalog_tree)
  pub ordered : (tree : ℕ) → tree < 65536 → IsShaped (shape tree) (trees tree)

-- if the disk has returned what was written, the trees of the last commit are arranged
abbrev pub IsArrangedIfClean : State → Type 0
IsArrangedIfClean s = HasCleanDisk s → IsArranged s.committed.trees

-- of what is seen of a store, only cursors have changed
abbrev pub IsUnchanged : View → View → Type 0
IsUnchanged old new = new ≡ record old { cursors = new.cursors }
