use Rattle.std.proofs.Common.{length}
use Rattle.office_http_responses.proofs.fault.+first_numbered.Given as goal

-- the faults that are left
abbrev pub decreases-first_numbered : goal.decreases-first_numbered
decreases-first_numbered l = length l.kinds.now
