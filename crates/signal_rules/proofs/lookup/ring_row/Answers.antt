use Rattle.signal_rules.proofs.FewPhases.{few_phases}
use Rattle.signal_rules.proofs.lookup.ring_row.Goals as goal

pub returns-in-Some-Seq-clause-short : goal.returns-in-Some-Seq-clause-short
returns-in-Some-Seq-clause-short c =
    rw c.as_slice.ensures.phases (few_phases _ c.as_slice.ensures.kept)
