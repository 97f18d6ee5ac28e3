-- A tree of records stands for the map of their cells, and follows its changes.
use Rattle.std.proofs.Common.{◌≡◌, ◌⊎◌, inr, ℕ, true, List, [], ◌∷◌, find, cond, Option, None, Some, option_map, Ordering, nat_cmp, pos, refl, sym, ap, subst, ◌∙◌, arith}
use Rattle.std.proofs.{lemmas.Bool.Decides.nat_tests}
use Rattle.std.specs.{BTreeMap.is_at, Cmp.eq_by_cmp_equiv, Cmp.nat_cmp_total, Cmp.tied_itself, FinMap.insert, FinMap.remove, FinMap.get, FinMap.same_map, FinMap.get-insert, FinMap.get-remove, Map.lookup, Ordering.is_eq, Ordering.eq_by_cmp, Ordering.ordering_then, declared.cmp.Ordering.TheVariants.Equal}
use Rattle.signal_records.specs.{Key.kind_of, Key.first_of, Key.second_of, Key.key_cmp, declared.key.Key.Key}
use Rattle.office_tables_shelf.specs.{Rows.timing_key, Cells.Cell, Cells.number, Cells.tree_rows, Cells.cell_cmp, Cells.cells_cmp}
use Rattle.office_tables_shelf.proofs.CellLemmas.{cells_total, cells_exact, is_under, first_under, get_by, mapped, tied}

module _ {K X : Type 0} (R : K → K → Ordering) (key : K → List Cell) (columns : X → List Cell) where
  -- what a tree with these entries has at a key
  abbrev pub entry_at : List (K × X) → K → Option X
  entry_at es q = lookup (is_at (R q)) es

  abbrev pub key_in : K × X → List Cell
  key_in e = key e.0

  abbrev pub columns_in : K × X → List Cell
  columns_in e = columns e.1

  module _ (ties : (a b : K) → is_eq (cells_cmp (key a) (key b)) ≡ is_eq (R a b)) where
    under_key : (es : List (K × X)) (k : K) → first_under key_in columns_in es (key k) ≡ option_map columns (entry_at es k)
    under_key [] k = refl
    under_key (e ∷ es) k =
        mapped columns_in (is_under key_in columns_in (key k) e) (Some e) (find (is_under key_in columns_in (key k)) es)
        ∙ (λ i. cond (ties k e.0 i) (Some (columns e.1)) (under_key es k i))
        ∙ sym (mapped columns (is_at (R k) e.0) (Some e.1) (entry_at es k))

    -- the map has at the cells of a key what the tree has at the key
    pub get_tree : (es : List (K × X)) (k : K) → get (tree_rows key columns es) (key k) ≡ option_map columns (entry_at es k)
    get_tree es k = get_by key_in columns_in es (key k) ∙ under_key es k

    -- the cells are those of a key, or nothing stands under them
    pub some_key : (es : List (K × X)) (q : List Cell) → ((k : K) × (q ≡ key k)) ⊎ (first_under key_in columns_in es q ≡ None)
    some_key [] q = inr refl
    some_key (e ∷ es) q =
        let exact = cells_exact q (key e.0) in
        let rest = some_key es q in
        grind (arith, tied, exact, rest)

    -- trees that differ at one key
    module _ (es fs : List (K × X)) (k : K) (next : Option X) (updates : (q : K) → entry_at fs q ≡ cond (is_at (R k) q) next (entry_at es q)) where
      abbrev Follows : List Cell → Type 0
      Follows q = first_under key_in columns_in fs q ≡ cond (is_eq (cells_cmp q (key k))) (option_map columns next) (first_under key_in columns_in es q)

      at_key : (q : K) → Follows (key q)
      at_key q =
          under_key fs q ∙ ap (option_map columns) (updates q) ∙ mapped columns (is_at (R k) q) next (entry_at es q)
          ∙ (λ i. cond ((sym (ties k q) ∙ (eq_by_cmp_equiv cells_total).symm (key k) (key q)) i) (option_map columns next) (sym (under_key es q) i))

      pub follows : (q : List Cell) → Follows q
      follows q =
          let at = λ (x : K) (is : q ≡ key x). subst Follows (sym is) (at_key x) in
          let hit = λ (tie : is_eq (cells_cmp q (key k)) ≡ true). at k (cells_exact q (key k) (tied _ tie)) in
          let now = some_key fs q in
          let old = some_key es q in
          grind (arith, at, hit, now, old)

    pub insert_tree : (es fs : List (K × X)) (k : K) (v : X) → ((q : K) → entry_at fs q ≡ cond (is_at (R k) q) (Some v) (entry_at es q)) → tree_rows key columns fs ≡ insert (tree_rows key columns es) (key k) (columns v)
    insert_tree es fs k v updates = same_map cells_total cells_exact _ _ (λ q.
        get_by key_in columns_in fs q ∙ follows es fs k (Some v) updates q
        ∙ sym (get-insert cells_total (tree_rows key columns es) (key k) (columns v) q ∙ ap (cond (is_eq (cells_cmp q (key k))) (Some (columns v))) (get_by key_in columns_in es q)))

    pub remove_tree : (es fs : List (K × X)) (k : K) → ((q : K) → entry_at fs q ≡ cond (is_at (R k) q) None (entry_at es q)) → tree_rows key columns fs ≡ remove (tree_rows key columns es) (key k)
    remove_tree es fs k updates = same_map cells_total cells_exact _ _ (λ q.
        get_by key_in columns_in fs q ∙ follows es fs k None updates q
        ∙ sym (get-remove cells_total (tree_rows key columns es) (key k) q ∙ ap (cond (is_eq (cells_cmp q (key k))) None) (get_by key_in columns_in es q)))

-- ---- numbers of a range, which compare by their one number

-- how such numbers compare
abbrev pub ranged_cmp : ℕ → ℕ → Ordering
ranged_cmp a b = ordering_then (nat_cmp a b) Equal

pub then_last : (o : Ordering) → ordering_then o Equal ≡ o
then_last o = grind arith

-- ---- keys of timing and draft rows

-- whole numbers of cells compare as numbers
pub number_order : (a b : ℕ) → cell_cmp (number (pos a)) (number (pos b)) ≡ nat_cmp a b
unfolding cell_cmp
number_order a b = grind (arith, nat_tests)

-- the cells of the keys of an intersection have the order of the keys
pub timing_order : (id : ℕ) (a b : Key) → cells_cmp (timing_key id a) (timing_key id b) ≡ key_cmp a b
timing_order id a b =
    (λ i. ordering_then ((number_order id id ∙ tied_itself nat_cmp_total id) i)
    (ordering_then (number_order (kind_of a) (kind_of b) i)
    (ordering_then (number_order (first_of a) (first_of b) i)
    ((then_last _ ∙ number_order (second_of a) (second_of b)) i))))

pub timing_ties : (id : ℕ) (a b : Key) → is_eq (cells_cmp (timing_key id a) (timing_key id b)) ≡ eq_by_cmp key_cmp a b
timing_ties id a b = ap is_eq (timing_order id a b)
