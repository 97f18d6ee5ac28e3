use Rattle.std.proofs.Common.{None, Some, rules}
use Rattle.office_tables_shelf.specs.Rows.{body_in}
use Rattle.office_tables_statements.specs.Versions.{limits_of}
use Rattle.office_tables_statements.proofs.listed.body_at.Goals as goal

pub returns-in_err-body-clause-damaged : goal.returns-in_err-body-clause-damaged
returns-in_err-body-clause-damaged c is wide r within same =
    c.text_or_null_at.ensures.damaged (search rules) wide (Some (body_in (limits_of c.args.version) r)) same

pub returns-in_err-body-clause-damaged_null : goal.returns-in_err-body-clause-damaged_null
returns-in_err-body-clause-damaged_null c is wide same =
    c.text_or_null_at.ensures.damaged (search rules) wide None same
