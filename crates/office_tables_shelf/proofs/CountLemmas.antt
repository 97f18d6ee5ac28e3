-- A write raises the count of its table alone.
use Rattle.std.proofs.Common.{◌≡◌, ◌≢◌, inl, inr, ℕ, suc, zero, ◌==◌, ◌+◌, ◌-◌, ◌^◌, ◌≤◌, min, List, [], ◌∷◌, cond, get_or, set, refl, subst, arith}
use Rattle.std.proofs.lemmas.{Bool.Decides.nat_tests, Bool.cases_eq, List.get_or-set_other}
use Rattle.office_tables_shelf.specs.{Content.place_at, Counts.count_of, Counts.count_at, Counts.next_count, Counts.is_same_table, declared.counts.WriteCounts.WriteCounts, declared.rows.Table.Table}

here : (l : List ℕ) (i v : ℕ) → get_or (set l i v) i 0 ≤ v
here [] i v = omega arith
here (x ∷ l) zero v = omega arith
here (x ∷ l) (suc i) v = here l i v

at_most : (l : List ℕ) (i j rows : ℕ) → get_or (set l i (min (get_or l i 0 + rows) (2 ^ 64 - 1))) j 0
    ≤ get_or l j 0 + cond (i == j) rows 0
at_most l i j rows =
    let most = here l i (min (get_or l i 0 + rows) (2 ^ 64 - 1)) in
    grind (arith, nat_tests, get_or-set_other l i j, cases_eq i j, most)

pub one_more : (counts : WriteCounts) (written other : Table) (rows : ℕ) → count_of (count_at counts written rows) other
    ≤ count_of counts other + cond (is_same_table written other) rows 0
one_more counts written other rows = at_most counts.counts (place_at written) (place_at other) rows
