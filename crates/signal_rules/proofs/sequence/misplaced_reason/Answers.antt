use Rattle.std.proofs.Common.{sym, ◌∙◌}
use Rattle.signal_rules.specs.SequenceRule.{row_cases}
use Rattle.signal_rules.proofs.Cases.{flat_here, flat_past}
use Rattle.signal_rules.proofs.sequence.misplaced_reason.Goals as goal

pub returns-in-Some-misplaced_in : goal.returns-in-Some-misplaced_in
returns-in-Some-misplaced_in c =
    flat_here (row_cases c.args.set.now c.args.n) _ _ c.in-Some.ring _ c.in-Some-misplaced_in.reason c.in-Some.ensures.steps c.loop-ring.invariant (sym c.misplaced_in.ensures ∙ c.in-Some-misplaced_in.is)

pub loop-ring-preserved : goal.loop-ring-preserved
loop-ring-preserved c =
    flat_past (row_cases c.args.set.now c.args.n) _ _ c.in-Some.ring _ c.in-Some.ensures.steps c.loop-ring.invariant (sym c.misplaced_in.ensures ∙ c.in_default.is)
