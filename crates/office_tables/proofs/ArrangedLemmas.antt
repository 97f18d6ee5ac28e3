-- Each tree holds what its place in the list of objects says: in a store, and in files that were just opened.
use Rattle.std.proofs.Common.{◌≡◌, inl, inr, ℕ, ◌<◌, List, [], sym, subst, arith}
use Rattle.std.proofs.{Math.Logic.∥∥₁_elim, lemmas.Bool.ne_eqb}
use Rattle.std.specs.List.{AllByRecursion}
use Rattle.sqlite.specs.{Recovery.Image, Files.AreFoundIn, Order.Row, Schema.Schema, Tree.Trees, View.IsShaped}
use Rattle.sqlite_trees.specs.{declared.store.Shape.Shape, declared.store.Shape.TheVariants.Absent, declared.store.Shape.TheVariants.Table, Objects.catalog_tree, Objects.version_tree, Objects.IsListed, View.View, View.IsOrdered, Props.IsOrdered-prop}
use Rattle.sqlite_catalog.specs.Listing.{AreListed}
use Rattle.sqlite_catalog.proofs.LayoutLemmas.{objects_rise, table_shape}
use Rattle.sqlite_rules.proofs.ListLemmas.{all_from}
use Rattle.sqlite_store.specs.{Listed.is_listed, Listed.catalog_rows, Listing.all_shapes, Listing.all_reals, Listing.file_trees}
use Rattle.sqlite_store.proofs.ListingLemmas.{all_ordered}
use Rattle.sqlite_pool.specs.File.{version_in, in_use}
use Rattle.office_tables.specs.Arranged.{IsArranged}

-- by the laws of a store that is sound
pub stored_arranged : (v : View) → IsListed (v.trees catalog_tree) v.shape v.reals → IsOrdered v.shape v.trees → IsArranged v.trees
stored_arranged v listed ordered =
    record { shape = v.shape; reals = v.reals; listed = listed; objects = objects_rise v listed ordered; ordered = λ t low. ordered t }

none_shaped : (t : ℕ) → t < 65536 → all_shapes [] t ≡ Absent
unfolding all_shapes
none_shaped t low = rw (ne_eqb t version_tree (omega (arith, low)), ne_eqb t catalog_tree (omega (arith, low)))

-- files that hold a database are read in that order, and where there is none nothing is read
pub found_arranged : (image : Image) (trees : Trees) → AreFoundIn image trees → IsArranged trees
found_arranged image trees (inl f) =
    let size = f.0 in
    let pages = f.1 in
    let wanted = f.2 in
    let found : IsOrdered (all_shapes wanted) (file_trees size wanted pages) = ∥∥₁_elim f.4 (IsOrdered-prop _ _) (λ ours. all_ordered ours.file.db (version_in pages)) in
    let listed : IsListed (file_trees size wanted pages catalog_tree) (all_shapes wanted) (all_reals wanted) =
    subst (λ (rows : List Row). IsListed rows (all_shapes wanted) (all_reals wanted)) (sym (catalog_rows size wanted (in_use size pages))) (is_listed wanted) in
    subst IsArranged (sym f.5) (record {
      shape = all_shapes wanted;
      reals = all_reals wanted;
      listed = listed;
      objects = subst (λ (s : Shape). IsShaped s (file_trees size wanted pages catalog_tree)) listed.itself.0 (found catalog_tree);
      ordered = λ t low. found t;
    })
found_arranged image trees (inr empty) =
    let none = empty.1.1 in
    record {
      shape = all_shapes [];
      reals = all_reals [];
      listed = subst (λ (rows : List Row). IsListed rows (all_shapes []) (all_reals [])) (sym none) (is_listed []);
      objects = subst (IsShaped Table) (sym none) (tt, tt);
      ordered = λ t low. subst (λ (s : Shape). IsShaped s (trees t)) (sym (none_shaped t low)) (empty.1.0 t (omega (arith, low)));
    }

-- the rows of each table that is listed rise by their rowids
pub tables_rise : (trees : Trees) → IsArranged trees → (schema : Schema) → AreListed (trees catalog_tree) schema
    → AllByRecursion (λ t. IsShaped Table (trees t.tree)) schema.tables
tables_rise trees it schema are = all_from (λ t. IsShaped Table (trees t.tree)) schema.tables (λ t has.
    let is = table_shape it.listed it.objects.0 are t has in
    subst (λ (s : Shape). IsShaped s (trees t.tree)) is.0 (it.ordered t.tree is.2))
