use Rattle.office_desk.specs.Asks.{KeepsOffice}
use Rattle.signal_office_commands.proofs.listing.work_of_all.Given as goal

-- the office was only asked so far
abbrev pub invariant-loop-one : goal.invariant-loop-one
invariant-loop-one g l = KeepsOffice g.S.Shelf l.fn.office l.office
