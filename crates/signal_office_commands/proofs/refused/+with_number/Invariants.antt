use Rattle.std.proofs.Common.{length}
use Rattle.signal_office_commands.proofs.refused.+with_number.Given as goal

-- the refusals that are left
abbrev pub decreases-with_number : goal.decreases-with_number
decreases-with_number l = length l.refusals.now
