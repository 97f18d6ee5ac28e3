-- Where no phase has a lead, today's violations are those of version 1.
use Rattle.std.proofs.Common.{◌≡◌, ℕ, ◌≤◌, not, [], ◌∷◌, ◌++◌, filter, Option, Some, None, option_map, refl, ap, sym, arith}
use Rattle.std.proofs.lemmas.Bool.{le-ltb}
use Rattle.std.specs.List.{flat_map}
use Rattle.std.specs.Prelude.{IfSome}
use Rattle.signal_records.specs.declared.record.{Ped.Ped, Phase.Phase, Split.Split}
use Rattle.signal_records.specs.TimingSet.{Rows}
use Rattle.signal_rules.specs.declared.{reason.Reason.Reason, violation.Rule.Rule, violation.Subject.Subject}
use Rattle.signal_rules.specs.declared.violation.Rule.TheVariants as rule
use Rattle.signal_rules.specs.declared.violation.Subject.TheVariants as subject
use Rattle.signal_rules.specs.{Cases.Cases, Cases.first_true, Lookup.phase_at, Lookup.split_at, PhaseRules.of_ped, PhaseRules.lead_cases, SplitRule.split_cases}
use Rattle.signal_rules.specs.Violations.{Findings, with_reason, broken, violations_in, violations_at, violations_of, phase_findings, for_phase, for_split, subjects}
use Rattle.signal_rules.specs.BeforeLead.{HasNoLead, is_of_lead, no_lead, without_lead, for_split_before, violations_before_at, violations_before_lead}

-- a rule that holds is no violation
dropped : (s : Subject) (fs : Findings) (r : Rule) (cs : Cases Reason) → first_true cs ≡ None → broken s (fs ++ (r, cs) ∷ []) ≡ broken s fs
dropped s [] r cs none = ap (λ o. with_reason s r o []) none
dropped s (f ∷ fs) r cs none = ap (with_reason s f.0 (first_true f.1)) (dropped s fs r cs none)

-- V14 holds where there is no lead
no_lead_right : (ped : Option Ped) → IfSome ped (λ p. p.lead ≡ 0) → first_true (of_ped ped lead_cases) ≡ None
no_lead_right None none = refl
no_lead_right (Some p) none = let never : 0 ≤ p.walk = omega arith in rw (none, le-ltb p.walk 0 never) refl

-- what has no lead is the same without it
ped_same : (ped : Option Ped) → IfSome ped (λ p. p.lead ≡ 0) → option_map no_lead ped ≡ ped
ped_same None none = refl
ped_same (Some p) none = ap (λ (n : ℕ). Some (record { walk = p.walk; clear = p.clear; width = p.width; setback = p.setback; short = p.short; lead = n })) (sym none)

phase_same : (phase : Option Phase) → HasNoLead phase → option_map without_lead phase ≡ phase
phase_same None none = refl
phase_same (Some p) none = ap (λ (ped : Option Ped). Some (record { ring = p.ring; min_green = p.min_green; passage = p.passage; max1 = p.max1; yellow = p.yellow; red = p.red; mates = p.mates; ped = ped })) (ped_same p.ped none)

module _ (set : Rows) where
  -- the rules of a phase but V14
  before : ℕ → Phase → Findings
  before p phase = filter (λ f. not (is_of_lead f.0)) (phase_findings set p phase)

  of_phase : (p : ℕ) (phase : Option Phase) → HasNoLead phase → broken (subject.Phase p) (for_phase set p phase) ≡ broken (subject.Phase p) (filter (λ f. not (is_of_lead f.0)) (for_phase set p phase))
  unfolding before
  of_phase p None none = refl
  of_phase p (Some phase) none = dropped (subject.Phase p) (before p phase) rule.V14 (of_ped phase.ped lead_cases) (no_lead_right phase.ped none)

  of_split : (n p : ℕ) (split : Option Split) → HasNoLead (phase_at set p) → broken (subject.Split n p) (for_split set p split) ≡ broken (subject.Split n p) (for_split_before set p split)
  of_split n p None none = refl
  of_split n p (Some split) none = ap (λ (phase : Option Phase). broken (subject.Split n p) ((rule.V8, split_cases p phase split) ∷ [])) (sym (phase_same (phase_at set p) none))

  at_same : (s : Subject) → ((p : ℕ) → HasNoLead (phase_at set p)) → violations_at set s ≡ violations_before_at set s
  at_same (subject.Phase p) none = ap violations_in (of_phase p (phase_at set p) (none p))
  at_same (subject.Split n p) none = ap violations_in (of_split n p (split_at set n p) (none p))
  at_same _ none = refl

  pub same_violations : ((p : ℕ) → HasNoLead (phase_at set p)) → violations_of set ≡ violations_before_lead set
  unfolding violations_of violations_before_lead
  same_violations none = λ i. flat_map (λ s. at_same s none i) (subjects set)
