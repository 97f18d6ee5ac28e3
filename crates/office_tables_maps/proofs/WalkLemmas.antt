-- What a walk over all records has found so far, with what is left to it.
use Rattle.std.proofs.Common.{◌≡◌, ◌==◌, ◌++◌, ℕ, if◌then◌else◌, List, [], ◌∷◌, filter, Option, Some, None, refl, arith, append_assoc}
use Rattle.std.proofs.lemmas.{Bool.Decides.nat_tests, List.Elements.filter-append}
use Rattle.cabinet_core.specs.{Orders.is_open, Overdue.greater, Overdue.latest_day, declared.record.Inspection.Inspection, declared.record.Order.Order}
use Rattle.office_tables_maps.proofs.UnderLemmas.{records_of}

-- ---- the latest day

-- the latest day of inspections, and another day
abbrev pub latest_with : Option ℕ → Option ℕ → Option ℕ
latest_with None last = last
latest_with (Some day) last = Some (greater day last)

pub latest_with_none : (last : Option ℕ) → latest_with last None ≡ last
latest_with_none None = refl
latest_with_none (Some day) = refl

-- the latest days so far, with those of the inspections that are left, are those of all
abbrev pub DaysWith : (ℕ → Option ℕ) → (rest all : List ((ℕ × ℕ) × Inspection)) → Type 0
DaysWith days rest all = (id : ℕ)
    → latest_with (days id) (latest_day (records_of id rest)) ≡ latest_day (records_of id all)

-- ---- open orders

-- the open orders so far, with those that are left, are those of all
abbrev pub OrdersWith : (ℕ → List Order) → (rest all : List ((ℕ × ℕ) × Order)) → Type 0
OrdersWith orders rest all = (id : ℕ)
    → orders id ++ filter is_open (records_of id rest) ≡ filter is_open (records_of id all)

pub orders_more : (old new : ℕ → List Order) (place : ℕ × ℕ) (x : Order)
    (rest all : List ((ℕ × ℕ) × Order))
    → ((n : ℕ) → new n
    ≡ (if n == place.0 then old place.0 ++ filter is_open (x ∷ []) else old n))
    → OrdersWith old ((place, x) ∷ rest) all → OrdersWith new rest all
orders_more old new place x rest all added so_far n =
    let left = records_of n rest in
    let here = added n in
    let begun = so_far n in
    let first = filter-append is_open (x ∷ []) left in
    let seam = append_assoc (old n) (filter is_open (x ∷ [])) (filter is_open left) in
    grind (arith, nat_tests)
