-- Rows that were listed are in order.
use Rattle.std.proofs.Common.{◌≡◌, ℕ, zero, suc, ◌+◌, ◌*◌, ◌<◌, ◌≤◌, List, [], ◌∷◌, map, length, get_or, Ordering, Less, Equal, Greater, T, ap, sym, subst, ◌∙◌, arith, refl}
use native.Mathlib.Numerals.{unary_clauses}
use Rattle.std.proofs.lemmas.{Cmp.nat_cmp_total, Cmp.ranked, List.Sorted.IsNonDecreasingBy-from_all_adjacent}
use Rattle.std.specs.{Cmp.tied_itself, FinMap.entries, FinMap.entries_sorted, List.AllAdjacentBelow, List.AllByRecursion, List.Sorted.IsNonDecreasingBy, FinMap.Entries.is_sorted, FinMap.Entries.is_sorted-where_key, Ordering.nat_cmp, Ordering.ordering_then}
use Rattle.cabinet_core.specs.{Places.inspection_place, Places.order_place, Places.line_place, Within.IsInspectionWithin, Within.IsOrderWithin, Within.IsUsedLineWithin, declared.record.Inspection.Inspection, declared.record.Order.Order, declared.record.UsedLine.UsedLine}
use Rattle.office_tables_shelf.proofs.{KeyCells.record_order, KeyCells.line_order, ListLemmas.entry, ListLemmas.less, ListLemmas.parts}
use Rattle.office_tables_shelf.specs.CabinetRows.{inspection_columns, inspection_key, order_columns, order_key, used_columns, used_key}
use Rattle.office_tables_shelf.specs.{CabinetReads.ListsInspections, CabinetReads.ListsOrders, CabinetReads.ListsUsed, Content.Content, Cells.Cell, Cells.TableRows, Cells.cells_cmp, Shelf.is_of, Shelf.rows_of}

module _ {X : Type 0} (key columns : X → List Cell) (Within : X → Type 0) (place : X → ℕ)
    (rises : (x y : X) → Within x → Within y → cells_cmp (key x) (key y) ≡ Less
    → place x ≤ place y) where
  adjacent : (xs : List X) → AllByRecursion Within xs
      → T (is_sorted cells_cmp (map (entry key columns) xs))
      → AllAdjacentBelow (λ x y. place x ≤ place y) xs (length xs)
  adjacent [] each sorted k d low = absurd (omega arith)
  adjacent (x ∷ []) each sorted k d low = absurd (omega arith)
  adjacent (x ∷ y ∷ xs) each sorted zero d low =
      rises x y each.0 each.1.0 (less _ (parts _ _ (parts _ _ sorted).0).0)
  adjacent (x ∷ y ∷ xs) each sorted (suc k) d low =
      simp unary_clauses (simp unary_clauses at (adjacent (y ∷ xs) each.1 (parts _ _ sorted).1 k d (omega arith)))

  listed_in_order : (rows : TableRows) (id : ℕ) (xs : List X)
      → map (entry key columns) xs ≡ rows_of id rows → AllByRecursion Within xs
      → IsNonDecreasingBy place xs
  listed_in_order rows id xs lists each =
      IsNonDecreasingBy-from_all_adjacent place xs (adjacent xs each (subst (λ es. T (is_sorted cells_cmp es)) (sym lists)
      (is_sorted-where_key cells_cmp (is_of id) (entries rows) (entries_sorted rows))))

-- of keys of one intersection the rest decides
rest_decides : (id : ℕ) (rest : Ordering) → ordering_then (nat_cmp id id) rest ≡ Less → rest ≡ Less
rest_decides id rest under = ap (λ o. ordering_then o rest) (sym (tied_itself nat_cmp_total id))
    ∙ under

under_same : (id m n : ℕ) → ordering_then (nat_cmp id id) (nat_cmp m n) ≡ Less → m ≤ n
under_same id m n under = let below : m < n =
    ranked m n Less (sym (rest_decides id (nat_cmp m n) under)) in omega arith

pub inspections_in_order : (tables : Content) (id : ℕ) (list : List Inspection)
    → ListsInspections tables id list → AllByRecursion IsInspectionWithin list
    → IsNonDecreasingBy inspection_place list
inspections_in_order tables id list lists within =
    listed_in_order (λ x. inspection_key id x.number) inspection_columns IsInspectionWithin
    inspection_place
    (λ x y one other under. under_same id x.number y.number
    (sym (record_order (id, x.number) (id, y.number)) ∙ under))
    tables.inspection id list lists within

pub orders_in_order : (tables : Content) (id : ℕ) (list : List Order) → ListsOrders tables id list
    → AllByRecursion IsOrderWithin list → IsNonDecreasingBy order_place list
orders_in_order tables id list lists within =
    listed_in_order (λ x. order_key id x.number) order_columns IsOrderWithin order_place
    (λ x y one other under. under_same id x.number y.number
    (sym (record_order (id, x.number) (id, y.number)) ∙ under))
    tables.work_order id list lists within

line_rises : (id a b m n : ℕ) → m ≤ 99
    → ordering_then (nat_cmp id id) (ordering_then (nat_cmp a b) (nat_cmp m n)) ≡ Less
    → a * 100 + m ≤ b * 100 + n
line_rises id a b m n most under = go (nat_cmp a b) refl
    (rest_decides id (ordering_then (nat_cmp a b) (nat_cmp m n)) under)
  where
    go : (o : Ordering) → o ≡ nat_cmp a b → ordering_then o (nat_cmp m n) ≡ Less
        → a * 100 + m ≤ b * 100 + n
    go Less is rest = let below : a < b = ranked a b Less is in omega arith
    go Equal is rest = let same : a ≡ b = ranked a b Equal is in
        let below : m < n = ranked m n Less (sym rest) in omega arith
    go Greater is rest = absurd cc

pub lines_in_order : (tables : Content) (id : ℕ) (list : List UsedLine) → ListsUsed tables id list
    → AllByRecursion IsUsedLineWithin list → IsNonDecreasingBy line_place list
lines_in_order tables id list lists within =
    listed_in_order (λ x. used_key id x.order x.line) used_columns IsUsedLineWithin line_place
    (λ x y one other under. let most = one.line.1 in
    line_rises id x.order y.order x.line y.line most
    (sym (line_order (id, (x.order, x.line)) (id, (y.order, y.line))) ∙ under))
    tables.used_part id list lists within
