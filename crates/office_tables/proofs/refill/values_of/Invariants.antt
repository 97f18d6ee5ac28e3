use Rattle.std.proofs.Common.{◌≡◌, ◌++◌, drop, map}
use Rattle.sqlite.specs.{Order.column, Values.bound, Values.bound_value}
use Rattle.office_tables.proofs.refill.values_of.Given as goal

-- the values so far, and those at the places that are left
abbrev pub invariant-loop-place : goal.invariant-loop-place
invariant-loop-place l =
    bound l.values.items ++ map (λ p. bound_value (column l.row p)) (drop l.place-index l.places)
    ≡ map (λ p. bound_value (column l.row p)) l.places
