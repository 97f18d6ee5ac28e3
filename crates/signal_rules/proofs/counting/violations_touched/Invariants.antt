use Rattle.std.proofs.Common.{◌≡◌, ◌+◌, ◌≤◌, ◌++◌, drop}
use Rattle.std.specs.List.{flat_map}
use Rattle.signal_rules.specs.Counts.{greatest, RisesAtMost, most_seconds_of}
use Rattle.signal_rules.proofs.counting.violations_touched.Given as goal

-- what was found, and what the judge answers on the subjects that are left
abbrev pub invariant-loop-subject : goal.invariant-loop-subject
invariant-loop-subject g l = record {
  found : l.found.items ++ flat_map (g.J.Judge.answers l.draft) (drop l.subject-index l.subject-items) ≡ flat_map (g.J.Judge.answers l.draft) l.subject-items;
  calls : RisesAtMost l.subject-index (g.J.Judge.calls l.fn.judge) (g.J.Judge.calls l.judge);
  seconds_low : g.J.Judge.seconds l.fn.judge ≤ g.J.Judge.seconds l.judge;
  seconds_high : g.J.Judge.seconds l.judge + most_seconds_of l.draft (drop l.subject-index l.subject-items) ≤ g.J.Judge.seconds l.fn.judge + most_seconds_of l.draft l.subject-items;
  seconds_stay : g.J.Judge.seconds l.fn.judge ≡ greatest → g.J.Judge.seconds l.judge ≡ greatest;
}
