-- What an engineer is warned of in a plan as a whole, each as a case with whether it holds.
use Rattle.std.specs.Prelude.{◌==◌, ℕ, nat_lt, Bool, false, not, ◌&&◌, ◌||◌, List, [], ◌∷◌, length, Option, Some}
use Rattle.std.specs.List.{list_all}
use Rattle.signal_records.specs.declared.record.Phase.{Phase}
use Rattle.signal_records.specs.TimingSet.{Rows}
use Rattle.signal_rules.specs.Cases.{Cases}
use Rattle.signal_rules.specs.Lanes.{used_rings}
use Rattle.signal_rules.specs.Lookup.{phase_at, phases, is_in}
use Rattle.signal_plans.specs.declared.warning.Advice.{Advice}
use Rattle.signal_plans.specs.declared.warning.Advice.TheVariants.{NoPattern, NoConflict}
use Rattle.signal_plans.specs.PhaseWarnings.{patterns}

-- two phases of the set are in one ring (phaseRing), or the first lists the number of the second (phaseConcurrency):
-- nothing but a ring keeps them apart
abbrev pub may_time : Option Phase → ℕ → Option Phase → Bool
may_time (Some phase) q (Some other) = phase.ring == other.ring || is_in q phase.mates
may_time _ q _ = false

-- nothing but a ring keeps a phase apart from each of some others
abbrev pub may_time_with_all : Rows → List ℕ → ℕ → Bool
may_time_with_all set qs p = list_all (λ q. may_time (phase_at set p) q (phase_at set q)) qs

-- no phase of the set conflicts with one of another ring
abbrev pub has_no_conflict : Rows → Bool
has_no_conflict set = list_all (may_time_with_all set (phases set)) (phases set)

-- a plan of so many phases and so many patterns has phases and no pattern
abbrev pub lacks_pattern : ℕ → ℕ → Bool
lacks_pattern phase_count pattern_count = not (phase_count == 0) && pattern_count == 0

-- the plan has so many rings, more than one, and no phase conflicts with one of another ring
abbrev pub lacks_conflict : Rows → ℕ → Bool
lacks_conflict set rings = nat_lt 1 rings && has_no_conflict set

-- no-pattern: the plan has phases, and no pattern (patternTable) to run them by
abbrev pub pattern_case : Rows → Bool × Advice
pattern_case set =
    (lacks_pattern (length (phases set)) (length (patterns set)), NoPattern (length (phases set)))

-- no-conflict: the plan has more than one ring, and each phase may time with every phase of the other rings, so that
-- the rings have no barrier
abbrev pub conflict_case : Rows → Bool × Advice
conflict_case set = (lacks_conflict set (length (used_rings set)), NoConflict (length (used_rings set)))

-- what an engineer is warned of in a plan as a whole
abbrev pub plan_cases : Rows → Cases Advice
plan_cases set = pattern_case set ∷ conflict_case set ∷ []
