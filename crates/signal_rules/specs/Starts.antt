-- The rings of a pattern, compared at the seconds at which one of them starts a phase.
use Rattle.std.specs.Prelude.{◌==◌, ℕ, Bool, List, map, length}
use Rattle.std.specs.List.{list_all}
use Rattle.signal_records.specs.declared.record.Pattern.{Pattern}
use Rattle.signal_records.specs.TimingSet.{Rows}
use Rattle.signal_rules.specs.Lookup.{split_at}
use Rattle.signal_rules.specs.SequenceRule.{ring_row}
use Rattle.signal_rules.specs.Lanes.{time_of, lane, all_list_each_other}
use Rattle.signal_rules.specs.CutPoints.{starts, phases_in}

-- splitTime of a phase in a split number, in seconds; 0 where they have no row
abbrev pub times : Rows → ℕ → ℕ → ℕ
times set split p = time_of (split_at set split p)

-- the phases that the rings' rows have at a second list each other
abbrev pub agree_at : Rows → Pattern → List ℕ → ℕ → Bool
agree_at set pattern rings second = all_list_each_other set (phases_in (times set pattern.split) (map (ring_row set pattern.seq) rings) second)

-- at each second at which a row starts a phase, the phases of the rings list each other
abbrev pub agree_at_row : Rows → Pattern → List ℕ → List ℕ → Bool
agree_at_row set pattern rings row = list_all (agree_at set pattern rings) (starts (times set pattern.split) 0 row)

-- at each second at which the row of one of some rings starts a phase, the phases of the rings list each other
abbrev pub agree_at_starts : Rows → Pattern → List ℕ → List ℕ → Bool
agree_at_starts set pattern rings of_rings = list_all (λ ring. agree_at_row set pattern rings (ring_row set pattern.seq ring)) of_rings

-- the splits of each ring's row sum up to the cycle
abbrev pub rings_fill : Rows → Pattern → List ℕ → Bool
rings_fill set pattern rings = list_all (λ ring. length (lane set pattern.seq pattern.split ring) == pattern.cycle) rings
