use Rattle.std.proofs.Common.{List, ◌++◌, ◌+◌, length}
use Rattle.signal_plans.specs.{declared.difference.Difference.Difference, Merging.KeysAscend, Merging.AreDifferences}
use Rattle.signal_plans.proofs.comparing.differences_of.Given as goal

-- what comes before the differences of the rows that are left
abbrev pub invariant-loop-order : goal.invariant-loop-order
invariant-loop-order l = record {
  first : KeysAscend l.first;
  second : KeysAscend l.second;
  so_far : (rest : List Difference) → AreDifferences l.first l.second rest
      → AreDifferences l.fn.first l.fn.second (l.differences.items ++ rest);
}

abbrev pub decreases-loop-order : goal.decreases-loop-order
decreases-loop-order l = length l.first + length l.second
