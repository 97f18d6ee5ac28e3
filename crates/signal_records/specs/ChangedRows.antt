-- The key of a changed row, and what the change leaves there.
use Rattle.std.specs.Prelude.{Option, Some, None}
use Rattle.signal_records.specs.Row.{key_of}
use Rattle.signal_records.specs.declared.key.Key.{Key}
use Rattle.signal_records.specs.declared.record.Row.{Row}
use Rattle.signal_records.specs.declared.record.Change.{Change}
use Rattle.signal_records.specs.declared.record.Change.TheVariants.{Put, Remove}

-- the key that a change names
abbrev pub changed_key : Change → Key
changed_key (Put row) = key_of row
changed_key (Remove key) = key

-- the row that a change leaves at its key; a removal leaves none
abbrev pub left_by : Change → Option Row
left_by (Put row) = Some row
left_by (Remove key) = None
