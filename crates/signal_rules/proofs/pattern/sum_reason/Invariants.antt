use Rattle.std.proofs.Common.{◌≡◌, ◌++◌, drop}
use Rattle.signal_rules.specs.{Cases.first_true, PatternRules.rings_cases, Slots.spans_of}
use Rattle.signal_rules.proofs.pattern.sum_reason.Given as goal

abbrev pub invariant-loop-ring : goal.invariant-loop-ring
invariant-loop-ring l = record {
  reason : first_true (rings_cases l.set l.pattern (drop l.ring-index l.rings)) ≡ first_true (rings_cases l.set l.pattern l.rings);
  slots : l.slots.items ++ spans_of l.set l.pattern (drop l.ring-index l.rings) ≡ l.fn.slots.items ++ spans_of l.set l.pattern l.rings;
}
