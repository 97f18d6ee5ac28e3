-- What an intersection has in a tree, and what is found between its places.
use Rattle.std.proofs.Common.{◌≡◌, inl, inr, ℕ, ◌==◌, true, false, eqb-true, not, List, [], ◌∷◌, ◌++◌, map, filter, None, Ordering, refl, sym, ap, ◌∙◌, append-nil, arith}
use Rattle.std.proofs.lemmas.{Bool.cases_Bool, Bool.Decides.nat_tests, Cmp.nat_cmp_total, List.Elements.filter_agree}
use Rattle.std.specs.{Cmp.tied_itself, Ordering.nat_cmp, BTreeMap.Range.entries_between, BTreeMap.Range.range_contains, FinMap.entries, FinMap.Entries.where_key, List.AllByRecursion, List.Sorted.IsStrictlySortedBy, Map.keys_of, Ordering.is_gt, Ordering.is_le, Ordering.ordering_then, declared.ops.Bound.TheVariants.Included, declared.cmp.Ordering.TheVariants.Less, declared.cmp.Ordering.TheVariants.Equal, declared.cmp.Ordering.TheVariants.Greater}
use Rattle.office_tables_shelf.specs.{CabinetReads.IsOfOne, Cells.Cell, Cells.cells_cmp, Content.Content, Content.is_of, Content.rows_at, Content.rows_but, Reads.HasDamagedRow, Shelf.rows_of, declared.rows.Table.Table}
use Rattle.office_tables_shelf.proofs.{CabinetLemmas.of_number, ListLemmas.cells_of, ListLemmas.where_all, ListedRows.listed_whole, TreeLemmas.then_last}
use Rattle.office_tables_maps.specs.{Keys.AreKeyLaws, Keys.Keys, Keys.beside, Records.under_intersection, Records.under_laws, Stored.ArePlaced, Stored.Stored, Stored.stored_rows}
use Rattle.office_tables_maps.proofs.TreeRows.{rows_kept, tree_entries}

-- What a walk found is all that it finds of a tree, once none of the entries is left.
pub walked : {E Y : Type 0} (walk : List E → List Y) (found : List Y) (left begun : List E)
    → [] ≡ walk [] → left ≡ [] → found ++ walk left ≡ walk begun → found ≡ walk begun
walked walk found left begun none ended so_far =
    sym (append-nil found) ∙ ap (λ ys. found ++ ys) none
    ∙ ap (λ rest. found ++ walk rest) (sym ended) ∙ so_far

-- ---- where the places of an intersection lie

not_over : (o : Ordering) → is_le o ≡ true → is_gt o ≡ false
not_over Less up = refl
not_over Equal up = refl
not_over Greater up = absurd cc

-- the entries of an intersection, in their order
abbrev pub entries_of : {K X : Type 0} → ℕ → List ((ℕ × K) × X) → List ((ℕ × K) × X)
entries_of id = filter (λ e. e.0.0 == id)

-- its records
abbrev pub records_of : {K X : Type 0} → ℕ → List ((ℕ × K) × X) → List X
records_of id es = map (λ e. e.1) (entries_of id es)

module _ {K X : Type 0} {R : K → K → Ordering} {keys : Keys K} (laws : AreKeyLaws R keys) (kind : Stored (ℕ × K) X) where
  -- between its first place and its last, and nowhere else
  pub lies : (id : ℕ) (k : ℕ × K) → keys.is_key k.1
      → range_contains (beside R) (Included (id, keys.first)) (Included (id, keys.last)) k ≡ (k.0 == id)
  lies id k within =
      let from = laws.from_first k.1 within in
      let to = laws.to_last k.1 within in
      grind (arith, nat_tests, from, to)

  pub forward : (id : ℕ) → is_gt (beside R (id, keys.first) (id, keys.last)) ≡ false
  forward id = ap (λ o. is_gt (ordering_then o (R keys.first keys.last)))
      (then_last (nat_cmp id id) ∙ tied_itself nat_cmp_total id)
      ∙ not_over (R keys.first keys.last) (laws.from_first keys.last laws.last_is_key)

  pub between : (id : ℕ) (es : List ((ℕ × K) × X)) → ArePlaced (under_intersection keys) kind es
      → entries_between (beside R) (Included (id, keys.first)) (Included (id, keys.last)) es
      ≡ entries_of id es
  between id [] h = refl
  between id (e ∷ es) h = rw (lies id e.0 h.0.1.0.1, between id es h.1) refl

  -- a record names all of its place but the number of the intersection
  abbrev IsOfNumber : Type 0
  IsOfNumber = (k : ℕ × K) (x : X) → kind.own k x ≡ kind.own (k.0, keys.first) x

  -- the cells of a record of an intersection
  abbrev pub shown : ℕ → X → List Cell × List Cell
  shown id x = ((under_intersection keys).cells (kind.own (id, keys.first) x), kind.columns x)

  -- the records of an intersection are what the rows have of it, and each is within its limits
  pub all_under : IsOfNumber → (id : ℕ) (es : List ((ℕ × K) × X)) → IsStrictlySortedBy (beside R) (keys_of es)
      → ArePlaced (under_intersection keys) kind es
      → (map (shown id) (records_of id es) ≡ rows_of id (stored_rows (under_intersection keys) kind es))
      × AllByRecursion kind.is_within (records_of id es)
  all_under of id es sorted placed =
      let each = go es placed in (
        each.0 ∙ ap (where_key cells_cmp (is_of id)) (sym (tree_entries (beside R)
            (under_intersection keys).cells kind.columns (under_laws laws).ordered es sorted)),
        each.1,
      )
    where
      go : (es : List ((ℕ × K) × X)) → ArePlaced (under_intersection keys) kind es
          → (map (shown id) (records_of id es)
          ≡ where_key cells_cmp (is_of id) (map (cells_of (under_intersection keys).cells kind.columns) es))
          × AllByRecursion kind.is_within (records_of id es)
      go [] h = (refl, tt)
      go (e ∷ es) h =
          let rest = go es h.1 in
          elim (cases_Bool (e.0.0 == id)) [
            | inl hit ↦
                let same : kind.own (id, keys.first) e.1 ≡ e.0 =
                ap (λ n. kind.own (n, keys.first) e.1) (sym (eqb-true e.0.0 id hit))
                ∙ sym (of e.0 e.1) ∙ h.0.0 in
                let here : shown id e.1 ≡ cells_of (under_intersection keys).cells kind.columns e =
                ap (λ k. ((under_intersection keys).cells k, kind.columns e.1)) same in
                rw (of_number id e.0.0 (keys.cells e.0.1), hit)
                ((λ i. here i ∷ rest.0 i), (h.0.1.1, rest.1))
            | inr miss ↦ rw (of_number id e.0.0 (keys.cells e.0.1), miss) rest
          ]

  -- the rows of all other intersections
  pub other_rows : (id : ℕ) (es : List ((ℕ × K) × X))
      → stored_rows (under_intersection keys) kind (filter (λ e. not (e.0.0 == id)) es)
      ≡ rows_but id (stored_rows (under_intersection keys) kind es)
  other_rows id es =
      ap (stored_rows (under_intersection keys) kind) (filter_agree _ _ (λ e.
      ap not (sym (of_number id e.0.0 (keys.cells e.0.1)))) es)
      ∙ rows_kept (λ (e : (ℕ × K) × X). (under_intersection keys).cells e.0) (λ (e : (ℕ × K) × X). kind.columns e.1)
      (λ key. not (is_of id key)) es

  -- none of the rows is damaged
  pub whole : IsOfNumber → (t : Table) (tables : Content) (es : List ((ℕ × K) × X))
      → rows_at tables t ≡ stored_rows (under_intersection keys) kind es → IsStrictlySortedBy (beside R) (keys_of es)
      → ArePlaced (under_intersection keys) kind es → ¬ HasDamagedRow t (IsOfOne kind.is_within)
      (λ (e : ℕ × X). (under_intersection keys).cells (kind.own (e.0, keys.first) e.1)) (λ e. kind.columns e.1) tables None
  whole of t tables es rows sorted placed =
      let each = go es placed in
      listed_whole t (IsOfOne kind.is_within)
      (λ (e : ℕ × X). (under_intersection keys).cells (kind.own (e.0, keys.first) e.1)) (λ e. kind.columns e.1) tables None (map (λ (e : (ℕ × K) × X). (e.0.0, e.1)) es) (each.0
      ∙ sym (tree_entries (beside R) (under_intersection keys).cells kind.columns (under_laws laws).ordered es sorted)
      ∙ ap entries (sym rows) ∙ sym (where_all (entries (rows_at tables t)))) each.1
    where
      go : (es : List ((ℕ × K) × X)) → ArePlaced (under_intersection keys) kind es
          → (map (λ (e : ℕ × X). shown e.0 e.1) (map (λ (e : (ℕ × K) × X). (e.0.0, e.1)) es)
          ≡ map (cells_of (under_intersection keys).cells kind.columns) es)
          × AllByRecursion (IsOfOne kind.is_within) (map (λ (e : (ℕ × K) × X). (e.0.0, e.1)) es)
      go [] h = (refl, tt)
      go (e ∷ es) h =
          let rest = go es h.1 in
          let own : kind.own (e.0.0, keys.first) e.1 ≡ e.0 = sym (of e.0 e.1) ∙ h.0.0 in (
            (λ i. ((under_intersection keys).cells (own i), kind.columns e.1) ∷ rest.0 i),
            ((h.0.1.0.0, h.0.1.1), rest.1),
          )
