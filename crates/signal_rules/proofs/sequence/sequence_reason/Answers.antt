use Rattle.std.proofs.Common.{sym, ap, ◌∙◌}
use Rattle.std.specs.List.{flat_map}
use Rattle.signal_rules.specs.Lookup.{phase_at, phases, ring_numbers}
use Rattle.signal_rules.specs.{Cases.first_true, SequenceRule.row_cases, SequenceRule.once_cases}
use Rattle.signal_rules.proofs.Cases.{first_past}
use Rattle.signal_rules.proofs.sequence.sequence_reason.Goals as goal

pub returns-in-None : goal.returns-in-None
returns-in-None c =
    let set = c.args.set.now in
    let n = c.args.n in
    c.not_once.ensures
    ∙ ap (λ ps. first_true (flat_map (λ p. once_cases set n p (phase_at set p)) ps)) c.requires
    ∙ sym (first_past (flat_map (row_cases set n) ring_numbers) (flat_map (λ p. once_cases set n p (phase_at set p)) (phases set)) (sym c.misplaced_reason.ensures ∙ c.in-None.is))
