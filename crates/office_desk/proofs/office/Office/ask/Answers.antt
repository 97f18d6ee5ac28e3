use Rattle.office_desk.proofs.{Answering.unavailable_read, Looks.decided_read}
use Rattle.office_desk.proofs.office.Office.ask.Goals as goal

pub returns : goal.returns
returns g c =
    let read = decided_read c.decide-decided.ensures c.requires in
    record { replied = read; otherwise = unavailable_read read }
