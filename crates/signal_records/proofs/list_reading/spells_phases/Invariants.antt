use Rattle.std.proofs.Common.{◌≡◌, true}
use Rattle.signal_records.specs.Reading.{texts}
use Rattle.signal_records.proofs.{Marks.AreMet, Parts.values, Parts.spells}
use Rattle.signal_records.proofs.list_reading.spells_phases.Given as goal

abbrev pub invariant-loop-part : goal.invariant-loop-part
invariant-loop-part l = record {
  can_next : (goal.iterator-loop-part).can_next l.part-iterator;
  finite : (goal.iterator-loop-part).is_finite l.part-iterator;
  met : AreMet l.met.met (values (texts l.yielded));
  fits : spells l.last (texts l.yielded) ≡ true;
}
