use Rattle.std.proofs.Common.{◌≡◌, ◌++◌, map, drop}
use Rattle.signal_rules.specs.declared.violation.Subject.TheVariants as subject
use Rattle.signal_rules.specs.RowWalk.{sequences_after}
use Rattle.signal_rules.proofs.subjects.add_sequences.Given as goal

-- the sequences so far, and those of the rows that are left
abbrev pub invariant-loop-row : goal.invariant-loop-row
invariant-loop-row l =
    l.subjects.items ++ map (λ n. subject.Seq n) (sequences_after l.last (drop l.row-index l.rows)) ≡ l.fn.subjects.items ++ map (λ n. subject.Seq n) (sequences_after 0 l.rows)
