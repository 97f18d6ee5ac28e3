use Rattle.std.proofs.Common.{◌≡◌, ◌++◌, drop, map}
use Rattle.signal_rules.specs.{Cases.all_true, PatternRules.rings_cases, Violations.broken_sum}
use Rattle.signal_rules.proofs.explaining.push_sums.Given as goal

-- what was found, and what the rings that are left have
abbrev pub invariant-loop-ring : goal.invariant-loop-ring
invariant-loop-ring l =
    l.found.items ++ map (broken_sum l.n) (all_true (rings_cases l.set l.pattern (drop l.ring-index l.rings))) ≡ l.fn.found.items ++ map (broken_sum l.n) (all_true (rings_cases l.set l.pattern l.rings))
