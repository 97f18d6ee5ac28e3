-- Changes within their limits.
use Rattle.std.specs.Prelude.{List}
use Rattle.std.specs.List.{AllByRecursion}
use Rattle.signal_records.specs.{Within.IsChangeWithin, Within.current_limits, declared.record.Change.Change}

-- each change is within today's limits
abbrev pub AreChangesWithin : List Change → Type 0
AreChangesWithin = AllByRecursion (IsChangeWithin current_limits)
