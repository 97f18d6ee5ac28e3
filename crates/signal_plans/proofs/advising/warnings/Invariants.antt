use Rattle.std.proofs.Common.{◌≡◌, ◌++◌, drop}
use Rattle.std.specs.List.{flat_map}
use Rattle.signal_plans.specs.Warnings.{warnings_at}
use Rattle.signal_plans.proofs.advising.warnings.Given as goal

-- what was found, and what the subjects that are left have
abbrev pub invariant-loop-subject : goal.invariant-loop-subject
invariant-loop-subject l =
    l.found.items ++ flat_map (warnings_at l.set) (drop l.subject-index l.subject-items) ≡ flat_map (warnings_at l.set) l.subject-items
