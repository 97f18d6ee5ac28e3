-- The phases that were met, as marks at their places.
use Rattle.std.proofs.Common.{◌≡◌, ℕ, ◌<◌, ◌≤◌, Bool, true, false, eqb, eq-eqb, inl, inr, List, [], ◌∷◌, ◌++◌, length, get_or, set, replicate, refl, sym, ap, ◌∙◌, arith}
use Rattle.std.specs.Prelude.{nat_le, not, ◌&&◌, ◌||◌}
use Rattle.std.specs.List.{list_any}
use Rattle.std.proofs.{lemmas.Bool.cases_eq, lemmas.Bool.ne_eqb, lemmas.Bool.or_right, lemmas.Bool.Decides.nat_tests}
use Rattle.std.proofs.lemmas.List.{length-set, get_or-replicate, get_or-set_same, get_or-set_other}
use Rattle.std.proofs.lemmas.List.Folds.{list_any-append}
use Rattle.signal_records.specs.PhaseList.{is_phase}
use Rattle.signal_values.specs.declared.number.TheConstants.{PHASES}
use Rattle.signal_records.proofs.Lists.{may_follow, and_parts}

-- whether a list has a number
abbrev has : List ℕ → ℕ → Bool
has ns n = list_any (λ m. eqb m n) ns

-- each phase, and 0, is marked where the list has it
pub record AreMet (marks : List Bool) (ns : List ℕ) : Type 0 where
  pub long : length marks ≡ 33
  pub each : (k : ℕ) → k ≤ PHASES → get_or marks k false ≡ list_any (λ m. eqb m k) ns

pub none_met : (marks : List Bool) → marks ≡ replicate 33 false → AreMet marks []
none_met marks e =
    rw e (record { long = refl; each = λ k le. get_or-replicate 33 k false false (omega arith) })

at_phase : (last n : ℕ) → last ≤ PHASES → is_phase last n ≡ true → n ≤ PHASES
at_phase last n room h =
    let parts = and_parts (nat_le 1 n) (nat_le n last) h in
    let high = parts.1 in
    grind (arith, nat_tests)

same_behind : (a b c : Bool) → (a ≡ true → b ≡ c) → (a && b) ≡ (a && c)
same_behind true b c h = h refl
same_behind false b c h = refl

or_false : (a : Bool) → (a || false) ≡ a
or_false true = refl
or_false false = refl

-- the marks tell what may follow
pub met_tells : (last n : ℕ) (marks : List Bool) (ns : List ℕ) → last ≤ PHASES → AreMet marks ns
    → (is_phase last n && not (get_or marks n false)) ≡ may_follow last ns n
met_tells last n marks ns room met =
    same_behind (is_phase last n) (not (get_or marks n false)) (not (has ns n))
    (λ is. ap not (met.each n (at_phase last n room is)))

more_each : (marks : List Bool) (ns : List ℕ) (n k : ℕ) → n < length marks
    → get_or marks k false ≡ has ns k
    → get_or (set marks n true) k false ≡ (has ns k || (eqb n k || false))
more_each marks ns n k there so_far =
    elim (cases_eq n k) [
      | inl same ↦
          let here : get_or (set marks n true) k false ≡ true =
          rw (← same) (get_or-set_same marks n true false there) in
          let is : (eqb n k || false) ≡ true = rw (eq-eqb n k same) refl in
          here ∙ sym (or_right (has ns k) (eqb n k || false) is)
      | inr other ↦
          let as_was = get_or-set_other marks n k true false (λ e. other (sym e)) ∙ so_far in
          as_was ∙ rw (ne_eqb n k other) (sym (or_false (has ns k)))
    ]

-- one more phase
pub met_more : (last n : ℕ) (marks next : List Bool) (ns : List ℕ) → last ≤ PHASES → AreMet marks ns
    → may_follow last ns n ≡ true → next ≡ set marks n true → AreMet next (ns ++ n ∷ [])
met_more last n marks next ns room met may e =
    let long = met.long in
    let phase = (and_parts (is_phase last n) (not (has ns n)) may).0 in
    let le : n ≤ PHASES = at_phase last n room phase in
    let there : n < length marks = omega arith in
    let each : (k : ℕ) → k ≤ PHASES → get_or (set marks n true) k false ≡ has (ns ++ n ∷ []) k =
    λ k small. more_each marks ns n k there (met.each k small)
    ∙ sym (list_any-append (λ m. eqb m k) ns (n ∷ [])) in
    rw e (record { long = length-set marks n true ∙ long; each = each })
