-- One pass over the phases of a set finds the rings that are used.
use Rattle.std.proofs.Common.{◌≡◌, ℕ, Bool, cond, eqb, List, [], ◌∷◌, ◌++◌, filter, Option, Some, None, is_some, refl, sym, ap, ◌∙◌}
use Rattle.std.proofs.lemmas.List.Elements.{filter_agree}
use Rattle.std.specs.{Prelude.◌||◌, List.list_any}
use Rattle.signal_records.specs.{declared.record.Phase.Phase, TimingSet.Rows}
use Rattle.signal_rules.specs.Lookup.{phase_at, phases, phase_numbers, ring_numbers, is_in}
use Rattle.signal_rules.specs.Lanes.{is_used, used_rings}
use Rattle.signal_rules.specs.SequenceRule.{in_ring}
use Rattle.signal_rules.specs.OnePass.{ring_of, rings_at}

-- a phase that is not in the set adds no ring
rings_kept : (set : Rows) (p : ℕ) (ps : List ℕ) (o : Option Phase) → phase_at set p ≡ o
    → rings_at set (cond (is_some (phase_at set p)) (p ∷ ps) ps) ≡ ring_of o ++ rings_at set ps
rings_kept set p ps None e = ap (λ (q : Option Phase). rings_at set (cond (is_some q) (p ∷ ps) ps)) e
rings_kept set p ps (Some phase) e =
    ap (λ (q : Option Phase). rings_at set (cond (is_some q) (p ∷ ps) ps)) e
    ∙ ap (λ (q : Option Phase). ring_of q ++ rings_at set ps) e

-- a ring is used where a phase of the set has it
used_by : (set : Rows) (ring : ℕ) (ns : List ℕ)
    → list_any (λ p. in_ring ring (phase_at set p)) ns ≡ is_in ring (rings_at set (filter (λ p. is_some (phase_at set p)) ns))
used_by set ring [] = refl
used_by set ring (p ∷ ns) = by_phase (phase_at set p) refl (used_by set ring ns) where
  by_phase : (o : Option Phase) → phase_at set p ≡ o
      → list_any (λ q. in_ring ring (phase_at set q)) ns ≡ is_in ring (rings_at set (filter (λ q. is_some (phase_at set q)) ns))
      → list_any (λ q. in_ring ring (phase_at set q)) (p ∷ ns) ≡ is_in ring (rings_at set (filter (λ q. is_some (phase_at set q)) (p ∷ ns)))
  by_phase None e later =
      ap (λ (o : Option Phase). in_ring ring o || list_any (λ q. in_ring ring (phase_at set q)) ns) e ∙ later
      ∙ sym (ap (is_in ring) (rings_kept set p (filter (λ q. is_some (phase_at set q)) ns) None e))
  by_phase (Some phase) e later =
      ap (λ (o : Option Phase). in_ring ring o || list_any (λ q. in_ring ring (phase_at set q)) ns) e
      ∙ ap (λ (b : Bool). eqb phase.ring ring || b) later
      ∙ sym (ap (is_in ring) (rings_kept set p (filter (λ q. is_some (phase_at set q)) ns) (Some phase) e))

pub rings_used : (set : Rows) (ps used : List ℕ) → ps ≡ phases set → used ≡ rings_at set ps
    → filter (λ ring. is_in ring used) ring_numbers ≡ used_rings set
rings_used set ps used e f =
    let whole : used ≡ rings_at set (phases set) = f ∙ ap (rings_at set) e in
    ap (λ (xs : List ℕ). filter (λ ring. is_in ring xs) ring_numbers) whole
    ∙ sym (filter_agree (is_used set) (λ ring. is_in ring (rings_at set (phases set))) (λ ring. used_by set ring phase_numbers) ring_numbers)
