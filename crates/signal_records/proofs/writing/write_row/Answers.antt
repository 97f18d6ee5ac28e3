use Rattle.signal_records.specs.Within.{current_limits}
use Rattle.signal_records.proofs.RowLaws.{are_current, written_back}
use Rattle.signal_records.proofs.writing.write_row.Goals as goal

pub returns-clause-read_back : goal.returns-clause-read_back
returns-clause-read_back c = written_back current_limits c.args.row.now _ are_current c.row_is_within.ensures c.row_fields.ensures
