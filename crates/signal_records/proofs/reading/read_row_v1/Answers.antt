use Rattle.signal_records.specs.{Reading.texts, Within.version_1_limits}
use Rattle.signal_records.proofs.RowLaws.{are_version_1, given_found, given_within, given_only}
use Rattle.signal_records.proofs.FaultLaws.{given_row_timing}
use Rattle.signal_records.proofs.reading.read_row_v1.Goals as goal

pub returns-clause-found : goal.returns-clause-found
returns-clause-found c = given_found version_1_limits (texts c.args.fields.now) _ are_version_1 c.row_within.ensures.exact

pub returns-clause-within : goal.returns-clause-within
returns-clause-within c = given_within version_1_limits (texts c.args.fields.now) _ are_version_1 c.row_within.ensures.exact

pub returns-clause-only : goal.returns-clause-only
returns-clause-only c = given_only version_1_limits (texts c.args.fields.now) _ are_version_1 c.row_within.ensures.exact

pub returns-clause-timing : goal.returns-clause-timing
returns-clause-timing c = given_row_timing version_1_limits (texts c.args.fields.now) _ c.row_within.ensures.exact
