use Rattle.std.proofs.Common.{◌≡◌, drop}
use Rattle.std.specs.List.{flat_map}
use Rattle.signal_rules.specs.{Lookup.phase_at, Cases.first_true, PhaseRules.mate_cases, PhaseRules.mates_cases}
use Rattle.signal_rules.proofs.phase.mates_reason.Given as goal

abbrev pub invariant-loop-mate : goal.invariant-loop-mate
invariant-loop-mate l =
    first_true (flat_map (λ m. mate_cases l.p l.phase m (phase_at l.set m)) (drop l.mate-index l.mate-items)) ≡ first_true (mates_cases l.set l.p l.phase)
