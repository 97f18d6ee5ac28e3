use Rattle.office_desk.specs.Asks.{KeepsOffice}
use Rattle.signal_office_commands.proofs.parts.read_deliveries.Given as goal

-- the office was only asked so far
abbrev pub invariant-loop-number : goal.invariant-loop-number
invariant-loop-number g l = KeepsOffice g.S.Shelf l.fn.office l.office
