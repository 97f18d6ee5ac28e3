use Rattle.std.proofs.Common.{◌+◌, ◌-◌, ◌≤◌}
use Rattle.sqlite.specs.WalReads.{AreClean}
use Rattle.office_lives.specs.Turns.{DoneInTurns}
use Rattle.office_lives.proofs.turns.done_in_turns.Given as goal

-- so far the task was done in the turns that are not left
abbrev pub invariant-loop-left : goal.invariant-loop-left
invariant-loop-left g l =
    (l.left ≤ l.fn.more)
    × (AreClean g.D.Disk l.files.log l.files.db → DoneInTurns g.T.OfficeTask.effect g.D.Disk (l.fn.more - l.left + 1) l.fn.files l.files l.fn.task l.task)

abbrev pub decreases-loop-left : goal.decreases-loop-left
decreases-loop-left g l = l.left
