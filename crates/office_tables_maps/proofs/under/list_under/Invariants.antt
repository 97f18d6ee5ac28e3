use Rattle.std.proofs.Common.{◌≡◌, ◌++◌, map}
use Rattle.office_tables_maps.proofs.under.list_under.Given as goal

-- the records so far, and those of the entries that are left
abbrev pub invariant-loop-kept : goal.invariant-loop-kept
invariant-loop-kept g l =
    l.list.items ++ map (λ e. e.1) l.kept-iterator ≡ map (λ e. e.1) l.initial.kept-iterator
