-- Sets that differ at most at some keys.
use Rattle.std.specs.Prelude.{◌≡◌, List, Contains}
use Rattle.std.specs.FinMap.{get}
use Rattle.signal_records.specs.declared.key.Key.{Key}
use Rattle.signal_records.specs.TimingSet.{Rows}

-- at each key that is not among these keys, the sets have the same row, or neither has one
abbrev pub DiffersAtMost : Rows → Rows → List Key → Type 0
DiffersAtMost base draft keys = (key : Key) → ¬ Contains keys key → get draft key ≡ get base key
