-- The phases of a row that have time, each from the second at which it begins to the one at which it ends.
use Rattle.std.proofs.Common.{◌≡◌, ℕ, zero, suc, ◌+◌, ◌-◌, ◌≤◌, Bool, true, false, ltb, leb, List, [], ◌∷◌, ◌++◌, map, length, Some, refl, sym, ap, ap₂, ◌∙◌, arith}
use Rattle.std.proofs.lemmas.Bool.{cond-true, cond-false, le-leb, le-ltb, lt-ltb, ltb-false}
use Rattle.std.proofs.{lemmas.List.Elements.All-nil, lemmas.List.Elements.All-cons, lemmas.Bool.Decides.nat_tests}
use Rattle.std.specs.Prelude.{All, cond, option_map, replicate, slice_get, ◌&&◌}
use Rattle.signal_rules.specs.CutPoints.{row_seconds}
use Rattle.signal_rules.proofs.CutPoints.{length-row_seconds}
use Rattle.signal_diagram.specs.declared.chart.Bar.{Bar}
use Rattle.signal_diagram.specs.Chart.{with_time, bars_from, Follow, end_of, phase_at_second}

-- they are those phases
pub order : (time : ℕ → ℕ) (row : List ℕ) (from : ℕ)
    → map (λ (bar : Bar). bar.phase) (bars_from time from row) ≡ row
order time [] from = refl
order time (p ∷ ps) from = ap (λ (xs : List ℕ). p ∷ xs) (order time ps (from + time p))

-- each begins where the one before it ends
pub follow : (time : ℕ → ℕ) (row : List ℕ) (from : ℕ) → Follow from (bars_from time from row)
follow time [] from = tt
follow time (p ∷ ps) from = (refl, follow time ps (from + time p))

abbrev pub Lasts : (ℕ → ℕ) → Bar → Type 0
Lasts time bar = bar.to ≡ bar.from + time bar.phase

-- each lasts its time
pub lasts : (time : ℕ → ℕ) (row : List ℕ) (from : ℕ) → All (Lasts time) (bars_from time from row)
lasts time [] from = All-nil (Lasts time)
lasts time (p ∷ ps) from =
    All-cons (Lasts time) (record { phase = p; from = from; to = from + time p })
    (bars_from time (from + time p) ps) refl (lasts time ps (from + time p))

-- the last one ends after the seconds of all of them
pub ends : (time : ℕ → ℕ) (row : List ℕ) (from : ℕ)
    → end_of from (bars_from time from row) ≡ from + length (row_seconds time row)
ends time [] from = omega arith
ends time (p ∷ ps) from =
    ends time ps (from + time p)
    ∙ omega (arith, length-row_seconds time p ps)

-- those that have no time have no seconds
pub same_seconds : (time : ℕ → ℕ) (row : List ℕ)
    → row_seconds time (with_time time row) ≡ row_seconds time row
same_seconds time [] = refl
same_seconds time (p ∷ ps) = step (time p) refl (same_seconds time ps) where
  step : (n : ℕ) → time p ≡ n → row_seconds time (with_time time ps) ≡ row_seconds time ps
      → row_seconds time (cond (ltb 0 n) (p ∷ with_time time ps) (with_time time ps))
      ≡ replicate n p ++ row_seconds time ps
  step zero e h = h
  step (suc n) e h =
      ap (row_seconds time) (cond-true _ _ _ (lt-ltb 0 (suc n) (omega arith)))
      ∙ (rw e (ap (λ (xs : List ℕ). replicate (suc n) p ++ xs) h))

repeated : (n t p : ℕ) (xs : List ℕ)
    → slice_get (replicate n p ++ xs) t ≡ cond (ltb t n) (Some p) (slice_get xs (t - n))
repeated zero t p xs =
    let same : t ≡ t - 0 = omega arith in
    ap (slice_get xs) same
    ∙ sym (cond-false (ltb t 0) (Some p) (slice_get xs (t - 0)) (le-ltb t 0 (omega arith)))
repeated (suc n) zero p xs =
    sym (cond-true (ltb 0 (suc n)) (Some p) (slice_get xs (0 - suc n))
    (lt-ltb 0 (suc n) (omega arith)))
repeated (suc n) (suc t) p xs =
    let same : t - n ≡ suc t - suc n = omega arith in
    let test : ltb t n ≡ ltb (suc t) (suc n) = grind (arith, nat_tests) in
    repeated n t p xs ∙ ap₂ (λ (b : Bool) (k : ℕ). cond b (Some p) (slice_get xs k)) test same

covered : (from t n : ℕ) → (leb from (from + t) && ltb (from + t) (from + n)) ≡ ltb t n
covered from t n =
    let below : leb from (from + t) ≡ true = le-leb from (from + t) (omega arith) in
    rw below (grind (arith, nat_tests))

-- the phase at a second is that of the lane, which has its phases once a second
at_second : (time : ℕ → ℕ) (row : List ℕ) (from t : ℕ)
    → phase_at_second (bars_from time from row) (from + t) ≡ slice_get (row_seconds time row) t
at_second time [] from t = refl
at_second time (p ∷ ps) from t =
    step (ltb t (time p)) refl (at_second time ps (from + time p) (t - time p))
    ∙ sym (repeated (time p) t p (row_seconds time ps)) where
      step : (b : Bool) → ltb t (time p) ≡ b
          → phase_at_second (bars_from time (from + time p) ps) (from + time p + (t - time p))
          ≡ slice_get (row_seconds time ps) (t - time p)
          → phase_at_second (bars_from time from (p ∷ ps)) (from + t)
          ≡ cond (ltb t (time p)) (Some p) (slice_get (row_seconds time ps) (t - time p))
      step true e h =
          ap (option_map (λ (bar : Bar). bar.phase)) (cond-true _ _ _ (covered from t (time p) ∙ e))
          ∙ sym (cond-true (ltb t (time p)) _ _ e)
      step false e h =
          let le : time p ≤ t = ltb-false t (time p) e in
          let same : from + time p + (t - time p) ≡ from + t = omega arith in
          ap (option_map (λ (bar : Bar). bar.phase)) (cond-false _ _ _ (covered from t (time p) ∙ e))
          ∙ (rw same at h) ∙ sym (cond-false (ltb t (time p)) _ _ e)

pub seconds : (time : ℕ → ℕ) (row : List ℕ) (t : ℕ)
    → phase_at_second (bars_from time 0 (with_time time row)) t ≡ slice_get (row_seconds time row) t
seconds time row t =
    let same : t ≡ 0 + t = omega arith in
    ap (phase_at_second (bars_from time 0 (with_time time row))) same
    ∙ at_second time (with_time time row) 0 t
    ∙ ap (λ (xs : List ℕ). slice_get xs t) (same_seconds time row)
