-- The limits of the rows in each version of the tables.
use Rattle.signal_records.specs.{Within.current_limits, Within.version_1_limits, declared.limits.Limits.Limits}
use Rattle.office_tables_statements.specs.declared.body_reading.Version.{Version, TheVariants.First, TheVariants.Current}

-- the limits of the rows of a version
abbrev pub limits_of : Version → Limits
limits_of First = version_1_limits
limits_of Current = current_limits
