use Rattle.std.proofs.Common.{◌≡◌, drop}
use Rattle.std.specs.List.{flat_map}
use Rattle.signal_rules.specs.{Cases.first_true, Lookup.phase_at, SequenceRule.ring_row, SequenceRule.place_cases, SequenceRule.row_cases}
use Rattle.signal_rules.proofs.sequence.misplaced_in.Given as goal

abbrev pub invariant-loop-p : goal.invariant-loop-p
invariant-loop-p l = record {
  items : l.p-items ≡ ring_row l.set l.fn.n l.ring;
  rest : first_true (flat_map (λ p. place_cases l.ring p (phase_at l.set p)) (drop l.p-index l.p-items)) ≡ first_true (row_cases l.set l.fn.n l.ring);
}
