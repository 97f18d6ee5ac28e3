use Rattle.std.proofs.Common.{◌≡◌, ◌++◌, filter, is_some, map}
use Rattle.std.specs.List.{flat_map}
use Rattle.signal_rules.specs.{Lookup.split_at, Violations.split_rows}
use Rattle.signal_rules.specs.declared.violation.Subject.TheVariants as subject
use Rattle.signal_plans.specs.Warnings.{warnings_at}
use Rattle.signal_plans.proofs.advising.warn_rows.Given as goal

-- the warnings so far, and those of the rows that are left
abbrev pub invariant-loop-p : goal.invariant-loop-p
invariant-loop-p l =
    l.found.items ++ flat_map (warnings_at l.set) (map (λ p. subject.Split l.n p) (filter (λ p. is_some (split_at l.set l.n p)) l.p-iterator)) ≡ l.fn.found.items ++ flat_map (warnings_at l.set) (split_rows l.set l.n)
