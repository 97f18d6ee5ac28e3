-- A timing set without violations keeps the laws of the street.
use Rattle.std.proofs.Common.{◌≡◌, ℕ, [], Option, Some, None, IfSome, refl}
use Rattle.signal_records.specs.{declared.record.Pattern.Pattern, declared.record.Ped.Ped, declared.record.Phase.Phase, TimingSet.Rows}
use Rattle.signal_rules.specs.Violations.{violations_of}
use Rattle.signal_plans.specs.Timing.{HasPhase, HasPattern}
use Rattle.signal_plans.specs.Intervals.{CallsPedestrian, WalkersCross}
use Rattle.signal_plans.specs.StreetLaws.{WalkLiesWithin, WalkersHaveTheStreet, RunsItsCycle, KeepsApart, HasTimeForWalks, StreetLaws}
use Rattle.signal_plans.proofs.Clean.{IsClean, is_clean, phase_rules}
use Rattle.signal_plans.proofs.Cycles.{known, served, coordinated, conflicts_cleared, barriers_crossed}
use Rattle.signal_plans.proofs.Patterns.{phase_number}
use Rattle.signal_plans.proofs.Stretches.{concurrent, stretch, ring_filled, room_called, walk_within, walkers}
use Rattle.signal_plans.proofs.Within.{crosses, crosses_from_setback}

pub where_some : {A : Type 0} (o : Option A) (P : A → Type 0) → ((x : A) → o ≡ Some x → P x) → IfSome o P
where_some None P h = tt
where_some (Some x) P h = h x refl

module _ (set : Rows) (clean : IsClean set) where
  walkers_cross : (p : ℕ) (phase : Phase) → HasPhase set p phase → (ped : Ped) → phase.ped ≡ Some ped → WalkersCross phase ped
  walkers_cross p phase of_p ped is =
      let rules = phase_rules set clean p phase (phase_number p of_p.0.number) of_p.1 in
      (crosses phase ped is rules.0, crosses_from_setback phase ped is rules.1)

  module _ (n : ℕ) (pattern : Pattern) (has : HasPattern set n pattern) where
    runs : RunsItsCycle set pattern
    runs = record {
      stretches = stretch set clean n pattern has;
      served = served set clean n pattern has;
      known = known set clean n pattern has;
      rings = ring_filled set clean n pattern has;
      coordinated = coordinated set clean n pattern has;
    }

    apart : KeepsApart set pattern
    apart = record {
      concurrent = concurrent set clean n pattern has;
      cleared = conflicts_cleared set clean n pattern has;
      barriers = barriers_crossed set clean n pattern has;
    }

    walks : HasTimeForWalks CallsPedestrian set pattern
    walks = record {
      within = λ p phase of_p. where_some phase.ped (WalkLiesWithin CallsPedestrian set pattern p phase) (λ ped is. walk_within set clean n pattern has p phase of_p CallsPedestrian ped is (room_called set clean n pattern has p phase of_p ped is));
      walkers = λ p phase of_p. where_some phase.ped (WalkersHaveTheStreet CallsPedestrian set pattern p phase) (λ ped is. walkers set clean n pattern has p phase of_p CallsPedestrian ped is (room_called set clean n pattern has p phase of_p ped is));
    }

-- the laws of a set without violations
pub street_laws : (set : Rows) → violations_of set ≡ [] → StreetLaws set
street_laws set none =
    let clean = is_clean set none in
    record {
      cycles = runs set clean;
      apart = apart set clean;
      walks = walks set clean;
      crossings = λ p phase of_p. where_some phase.ped (WalkersCross phase) (walkers_cross set clean p phase of_p);
    }
