use Rattle.std.proofs.Common.{length}
use Rattle.office_tables.proofs.refill.+suit.Given as goal

abbrev pub decreases-suit : goal.decreases-suit
decreases-suit l = length l.places.now
