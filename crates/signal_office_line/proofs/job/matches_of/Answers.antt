use Rattle.std.proofs.Common.{Err}
use Rattle.signal_office_line.proofs.CommandLemmas.{answered}
use Rattle.signal_office_line.proofs.job.matches_of.Goals as goal

pub returns-then-matches : goal.returns-then-matches
returns-then-matches c simple =
    let given = c.try_get_matches_from-then-matches.ensures in
    answered c.in_ok-command_of-in-Err.field-0 _ _ _ c.in_ok-command_of-in-Err.ensures given.matches given.passes given.kinds simple

pub returns-else-matches : goal.returns-else-matches
returns-else-matches c simple =
    let given = c.in-Err.ensures in
    answered c.in_ok-command_of.field-0 _ _ (Err c.in-Err.error) c.in_ok-command_of.ensures given.matches given.passes given.kinds simple
