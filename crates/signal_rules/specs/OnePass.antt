-- What one pass over the phases of a set finds: the rings that they are in.
use Rattle.std.specs.Prelude.{ℕ, List, [], ◌∷◌, Option, Some, None}
use Rattle.std.specs.List.{flat_map}
use Rattle.signal_records.specs.declared.record.Phase.{Phase}
use Rattle.signal_records.specs.TimingSet.{Rows}
use Rattle.signal_rules.specs.Lookup.{phase_at}

-- phaseRing of a phase, as a list of one; a phase that is not in the set has none
abbrev pub ring_of : Option Phase → List ℕ
ring_of None = []
ring_of (Some phase) = phase.ring ∷ []

-- the rings of some phases, in the phases' order, without the phases that are not in the set
abbrev pub rings_at : Rows → List ℕ → List ℕ
rings_at set ps = flat_map (λ p. ring_of (phase_at set p)) ps
