-- The laws of the rows of a file of changes.
use Rattle.signal_records.specs.{Reading.change_at, Spelling.change_spelling, Within.current_limits, Within.IsChangeWithin}
use Rattle.signal_records.proofs.{RowLaws.are_current, ChangeLaws.change_found, ChangeLaws.change_only}
use Rattle.office_files.proofs.FileLaws.{AreRowLaws}

pub change_laws : AreRowLaws (change_at current_limits) (change_spelling current_limits) (IsChangeWithin current_limits)
change_laws = record {
  found = λ fields change. change_found current_limits fields change are_current;
  only = λ change. change_only current_limits change are_current;
}
