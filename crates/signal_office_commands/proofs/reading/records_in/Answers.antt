use Rattle.signal_office_commands.proofs.FaultLemmas.{unread}
use Rattle.signal_office_commands.proofs.reading.records_in.Goals as goal

pub returns-in-Err-clause-fault : goal.returns-in-Err-clause-fault
returns-in-Err-clause-fault c = unread c.in-Err.why c.in-Err.ensures.fault
