use Rattle.std.proofs.Common.{length}
use Rattle.signal_office_faults.proofs.width.+are_blank.Given as goal

abbrev pub decreases-are_blank : goal.decreases-are_blank
decreases-are_blank l = length l.fields.now
