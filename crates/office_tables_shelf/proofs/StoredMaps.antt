-- A finite map, stored as the rows of a table: what the rows have at a key, what an insertion makes of them, and that they are the map's entries.
use Rattle.std.proofs.Common.{◌≡◌, inl, inr, List, [], ◌∷◌, map, Some, None, cond, T, Ordering, refl, ap, sym, subst, ◌∙◌}
use Rattle.std.proofs.lemmas.List.{nil_from_length}
use Rattle.std.specs.{Cmp.IsTotalOrder, Cmp.eq_by_cmp_equiv, FinMap.FinMap, FinMap.entries, FinMap.entries_sorted, FinMap.get, FinMap.insert, FinMap.get-entries, FinMap.get-insert, FinMap.Entries.is_sorted, FinMap.Entries.below_all, Option.option_map, Ordering.is_eq, Ordering.is_lt, Ordering.eq_by_cmp}
use Rattle.office_tables_shelf.specs.Cells.{Cell, tree_rows, cells_cmp}
use Rattle.office_tables_shelf.proofs.CellLemmas.{held, get_by}
use Rattle.office_tables_shelf.proofs.ListLemmas.{both, parts, entries_in_order, cells_of}
use Rattle.office_tables_shelf.proofs.TreeLemmas.{entry_at, get_tree, insert_tree, some_key, key_in, columns_in}
use Rattle.std.specs.FinMap as finite

module _ {K X : Type 0} {R : K → K → Ordering} (total : IsTotalOrder R) (key : K → List Cell) (columns : X → List Cell) (order : (a b : K) → cells_cmp (key a) (key b) ≡ R a b) where
  ties : (a b : K) → is_eq (cells_cmp (key a) (key b)) ≡ is_eq (R a b)
  ties a b = ap is_eq (order a b)

  entry_found : (es : List (K × X)) (q : K) → entry_at R key columns es q ≡ finite.find R q es
  entry_found [] q = refl
  entry_found (e ∷ es) q = ap (cond (eq_by_cmp R q e.0) (Some e.1)) (entry_found es q)

  entry_got : (m : FinMap R X) (q : K) → entry_at R key columns (entries m) q ≡ get m q
  entry_got m q = entry_found (entries m) q ∙ sym (get-entries m q)

  -- the rows have at the cells of a key what the map has at the key
  pub get_stored : (m : FinMap R X) (k : K) → get (tree_rows key columns (entries m)) (key k) ≡ option_map columns (get m k)
  get_stored m k = get_tree R key columns ties (entries m) k ∙ ap (option_map columns) (entry_got m k)

  -- to store a map after an insertion is to insert into the stored map
  pub insert_stored : (m : FinMap R X) (k : K) (v : X) → tree_rows key columns (entries (insert m k v)) ≡ insert (tree_rows key columns (entries m)) (key k) (columns v)
  insert_stored m k v = insert_tree R key columns ties (entries m) (entries (insert m k v)) k v (λ q.
      entry_got (insert m k v) q ∙ get-insert total m k v q
      ∙ (λ i. cond ((eq_by_cmp_equiv total).symm q k i) (Some v) (sym (entry_got m q) i)))

  -- what stands in the table are the cells of a record under its key
  pub stored_found : (m : FinMap R X) (q cells : List Cell) → get (tree_rows key columns (entries m)) q ≡ Some cells → (k : K) × (x : X) × (q ≡ key k) × (cells ≡ columns x) × (get m k ≡ Some x)
  stored_found m q cells at = elim (some_key R key columns ties (entries m) q) [
    | inl found ↦
        let there = held columns (get m found.0) cells (sym at ∙ ap (get (tree_rows key columns (entries m))) found.1 ∙ get_stored m found.0) in
        (found.0, there.0, found.1, there.2, there.1)
    | inr none ↦ absurd (let f : Some cells ≡ None = sym at ∙ get_by (key_in R key columns) (columns_in R key columns) (entries m) q ∙ none in cc)
  ]

  below_cells : (k : K) (es : List (K × X)) → T (below_all R k es) → T (below_all cells_cmp (key k) (map (cells_of key columns) es))
  below_cells k [] h = tt
  below_cells k (e ∷ es) h = let hs = parts _ _ h in both _ _ (subst (λ o. T (is_lt o)) (sym (order k e.0)) hs.0) (below_cells k es hs.1)

  cells_sorted : (es : List (K × X)) → T (is_sorted R es) → T (is_sorted cells_cmp (map (cells_of key columns) es))
  cells_sorted [] h = tt
  cells_sorted (e ∷ es) h = let hs = parts _ _ h in both _ _ (below_cells e.0 es hs.0) (cells_sorted es hs.1)

  -- the entries of the table are those of the map, in its order
  pub stored_entries : (m : FinMap R X) → entries (tree_rows key columns (entries m)) ≡ map (λ e. (key e.0, columns e.1)) (entries m)
  stored_entries m = entries_in_order (map (cells_of key columns) (entries m)) (cells_sorted (entries m) (entries_sorted m))

-- a map without entries is a table without rows
pub no_rows : {K X : Type 0} (R : K → K → Ordering) (key : K → List Cell) (columns : X → List Cell) → tree_rows key columns (entries (finite.empty {X = X} {R = R})) ≡ finite.empty
no_rows {K} {X} R key columns = ap (λ (es : List (K × X)). tree_rows key columns es) (nil_from_length (entries (finite.empty {X = X} {R = R})) (sym (finite.len-entries (finite.empty {X = X} {R = R})) ∙ finite.len-empty R X))
