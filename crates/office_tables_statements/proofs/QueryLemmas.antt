-- The texts of the statements, and what a query by key answers.
use Rattle.std.proofs.Common.{◌≡◌, ℕ, List, [], ◌∷◌, map, filter, find, slice_get, Bool, ◌&&◌, inl, inr, Option, None, Some, option_map, refl, sym, ap, subst₂, ◌∙◌, arith, length, IfSome, subst}
use Rattle.std.specs.{Option.option_to_list, List.Sorted.IsPermutation, List.list_all}
use Rattle.sqlite.proofs.Callers.{one_permutation}
use Rattle.std.proofs.lemmas.{Bool.cases_Bool, List.length-map, List.Sorted.IsPermutation-map, List.Sorted.length_permutation}
use Rattle.sqlite.specs.{Order.Row, Order.column, Tree.Trees, Collation.TheVariants.Binary, Term.Term, Term.Env, Term.col, Term.op2, Term.holds, Term.eval_all, Query.inner, Query.end, Query.IsAnswer, Query.output, Query.Output, Query.matches, declared.types.Value.TheVariants.Null, Command.TheVariants.Select, Effect.Database, View.IsShaped, Program.overlay}
use Rattle.sqlite_sql.specs.declared.ops.{BinaryOp.TheVariants.Compare, CompareOp.TheVariants.Eq}
use Rattle.sqlite_schema.specs.Rules.{agree}
use Rattle.sqlite_value.specs.Keys.{plain, first_key}
use Rattle.sqlite_rules.specs.Lists.{Has}
use Rattle.sqlite_trees.proofs.ListLemmas.{map-map}
use Rattle.office_tables_statements.specs.{Layout.Layout, Layout.values_at, Layout.has_key, Tables.of_key, Tables.found_by, Tables.picked_by, Tables.picked_where, Calls.Means, Calls.Reads}
use Rattle.office_tables_statements.proofs.Meaning.{is_command}
use Rattle.sqlite.specs.Effect as effect
use Rattle.sqlite_trees.specs.declared.store.Shape.TheVariants as shape

-- the columns at these places
abbrev pub cols : List ℕ → List Term
cols = map (col 1)

abbrev pub ArePaired : List ℕ → List ℕ → Type 0
ArePaired [] [] = Unit {0}
ArePaired [] (q ∷ qs) = ⊥
ArePaired (p ∷ ps) [] = ⊥
ArePaired (p ∷ ps) (q ∷ qs) = ArePaired ps qs

pub filter_agrees : (ps qs : List ℕ) → ArePaired ps qs → (key row : Row) → list_all (holds (key ∷ row ∷ [])) (of_key ps qs) ≡ agree plain ps row qs key
unfolding first_key
filter_agrees [] [] paired key row = refl
filter_agrees [] (q ∷ qs) paired key row = absurd paired
filter_agrees (p ∷ ps) [] paired key row = absurd paired
filter_agrees (p ∷ ps) (q ∷ qs) paired key row = ap (λ b. holds (key ∷ row ∷ []) (op2 (Compare Eq Binary) (col 1 p) (col 0 q)) && b) (filter_agrees ps qs paired key row)

pub shown_values : (places : List ℕ) (key row : Row) → eval_all (cols places) (key ∷ row ∷ []) ≡ values_at places row
shown_values [] key row = refl
shown_values (p ∷ ps) key row = ap (λ vs. column row p ∷ vs) (shown_values ps key row)

-- the rows that pass a filter, by a test that says what it does
abbrev pub Passes : List Term → Row → (Row → Bool) → List Row → Type 0
Passes filters params test rows = (row : Row) → Has rows row
    → list_all (holds (params ∷ row ∷ [])) filters ≡ test row

pub matched : (tree : ℕ) (filters : List Term) (params : Row) (test : Row → Bool) (rows : List Row)
    → Passes filters params test rows
    → matches (λ _. rows) filters (inner tree end) (params ∷ [])
    ≡ map (λ row. params ∷ row ∷ []) (filter test rows)
matched tree filters params test [] passes = refl
matched tree filters params test (r ∷ rows) passes =
    let later = matched tree filters params test rows (λ x there. passes x (inr there)) in
    elim (cases_Bool (test r)) [
      | inl hit ↦
          rw (passes r (inl refl), hit)
          (ap (λ (envs : List Env). (params ∷ r ∷ []) ∷ envs) later)
      | inr miss ↦ rw (passes r (inl refl), miss) later
    ]

-- what a query shows of them, in some order
pub where_picked : (t : Layout) (filters terms : List Term) (params : Row) (test : Row → Bool)
    (show : Row → Row) → ((row : Row) → eval_all terms (params ∷ row ∷ []) ≡ show row)
    → (db : Trees) (rows : List Row) → Passes filters params test (db t.tree)
    → IsAnswer (picked_where t filters terms) db params rows
    → IsPermutation (map show (filter test (db t.tree))) rows
where_picked t filters terms params test show shows db rows passes a =
    let query = picked_where t filters terms in
    let kept = filter test (db t.tree) in
    let env = λ (row : Row). params ∷ row ∷ [] in
    let second = λ (o : Output). o.1 in
    let all : a.kept ≡ map (output query) (map env kept) = a.distinct ∙ ap (map (output query))
    (a.grouped ∙ matched t.tree filters params test (db t.tree) passes) in
    let listed : map second a.kept ≡ map show kept = ap (map second) all
    ∙ map-map second (output query) (map env kept) ∙ map-map (λ (e : Env). (output query e).1) env kept
    ∙ (λ i. map (λ row. shows row i) kept) in
    subst₂ IsPermutation listed (sym a.shown) (IsPermutation-map second a.kept a.ordered a.same)

-- those that have a key
module _ (t : Layout) (paired : ArePaired t.keys t.places) (terms : List Term) (key : Row) (show : Row → Row) (shows : (row : Row) → eval_all terms (key ∷ row ∷ []) ≡ show row) where
  pub picked : (db : Trees) (rows : List Row) → IsAnswer (picked_by t terms) db key rows → IsPermutation (map show (filter (has_key t key) (db t.tree))) rows
  picked db rows =
      where_picked t (of_key t.keys t.places) terms key (has_key t key) show shows db rows
      (λ row there. filter_agrees t.keys t.places paired key row)

-- as they stand
pub answers : (t : Layout) → ArePaired t.keys t.places → (shown : List ℕ) (key : Row) (db : Trees) (rows : List Row) → IsAnswer (found_by t shown) db key rows
    → IsPermutation (map (values_at shown) (filter (has_key t key) (db t.tree))) rows
answers t paired shown key = picked t paired (cols shown) key (values_at shown) (shown_values shown key)

module _ {X Y : Type 0} (p : X → Bool) (v : X → Y) where
  first_kept : (xs : List X) → find p xs ≡ slice_get (filter p xs) 0
  first_kept [] = refl
  first_kept (x ∷ xs) = elim (cases_Bool (p x)) [ inl hit ↦ rw hit | inr miss ↦ rw (miss, first_kept xs) ]

  -- where one row at most is shown, it is the first that passes
  pub one_found : (xs : List X) (row : Option Y) → IsPermutation (map v (filter p xs)) (option_to_list row) → row ≡ option_map v (find p xs)
  one_found xs row same = go (filter p xs) row same ∙ ap (option_map v) (sym (first_kept xs))
    where
      go : (kept : List X) (row : Option Y) → IsPermutation (map v kept) (option_to_list row) → row ≡ option_map v (slice_get kept 0)
      go [] None same = refl
      go [] (Some y) same = absurd (omega (arith, length_permutation [] (y ∷ []) same))
      go (x ∷ []) None same = absurd (omega (arith, length_permutation (v x ∷ []) [] same))
      go (x ∷ []) (Some y) same = let one = one_permutation (v x) (y ∷ []) same in let is : y ≡ v x = cc in ap Some is
      go (x ∷ z ∷ more) None same = absurd (omega (arith, length_permutation (map v (x ∷ z ∷ more)) [] same))
      go (x ∷ z ∷ more) (Some y) same = absurd (omega (arith, length_permutation (map v (x ∷ z ∷ more)) (y ∷ []) same))

-- ---- what a look-up by key finds

module _ (t : Layout) (paired : ArePaired t.keys t.places) (shown : List ℕ) (sql : List ℕ)
    (names : List (List ℕ)) (means : Means sql (Select (record { lets = []; body = found_by t shown }) names))
    (key : Row) (db : Database)
    (rows : List Row) (low : overlay db.trees [] t.tree ≡ rows) (row : Option Row)
    (reads : Reads sql key db (option_to_list row)) where
  -- the row that is shown is the one that has the key
  pub found_by_key : row ≡ option_map (values_at shown) (find (has_key t key) rows)
  found_by_key =
      let got = subst (λ k. effect.Reads k db key (option_to_list row)) (is_command sql _ means) reads in
      let same = answers t paired shown key (overlay db.trees []) (option_to_list row) (got.answer Null) in
      one_found (has_key t key) (values_at shown) rows row (subst (λ rs. IsPermutation (map (values_at shown) (filter (has_key t key) rs)) (option_to_list row)) low same)

  -- with as many columns
  pub has_width : IfSome row (λ r. length r ≡ length shown)
  has_width = subst (λ o. IfSome o (λ r. length r ≡ length shown)) (sym found_by_key) (go (find (has_key t key) rows))
    where
      go : (found : Option Row) → IfSome (option_map (values_at shown) found) (λ r. length r ≡ length shown)
      go None = tt
      go (Some r) = length-map shown (column r)

abbrev pub AreShaped : Trees → Layout → Type 0
AreShaped trees t = IsShaped shape.Table (trees t.tree)
