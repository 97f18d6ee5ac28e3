-- Where the phases of a row begin, and which of them times at a second.
use Rattle.std.proofs.Common.{◌≡◌, ℕ, ◌+◌, ◌-◌, ◌<◌, ◌≤◌, Bool, true, false, eqb, cond, List, [], ◌∷◌, ◌++◌, length, get_or, Some, count_by, sum_by, ◌⊎◌, inl, inr, refl, sym, ap, ◌∙◌, append_assoc, arith}
use Rattle.std.proofs.lemmas.Bool.{lt-ltb, le-ltb, eq-eqb, eqb-true, cases_lt}
use Rattle.std.proofs.lemmas.List.Sums.{sum_by-cons, sum_by-append}
use Rattle.signal_rules.specs.CutPoints.{row_seconds, phase_in}
use Rattle.signal_rules.proofs.CutPoints.{length-row_seconds, phase_in_timed}
use Rattle.signal_plans.specs.Timing.{Begins, Times, StandsBefore}

-- how often a phase stands in a row
abbrev pub places : List ℕ → ℕ → ℕ
places row p = count_by (λ m. eqb m p) row

-- where the first place of a phase begins
abbrev pub begin_at : (ℕ → ℕ) → List ℕ → ℕ → ℕ
begin_at time [] p = 0
begin_at time (q ∷ qs) p = cond (eqb q p) 0 (time q + begin_at time qs p)

places-cons : (q : ℕ) (qs : List ℕ) (p : ℕ) → places (q ∷ qs) p ≡ cond (eqb q p) 1 0 + places qs p
places-cons q qs p = sum_by-cons (λ m. cond (eqb m p) 1 0) q qs

placed_once : (before after : List ℕ) (p : ℕ) → 1 ≤ places (before ++ p ∷ after) p
placed_once before after p =
    let here : cond (eqb p p) 1 0 ≡ 1 = rw (eq-eqb p p refl) refl in
    let parts : places (before ++ p ∷ after) p ≡ places before p + places (p ∷ after) p = sum_by-append (λ m. cond (eqb m p) 1 0) before (p ∷ after) in
    let front : places (p ∷ after) p ≡ cond (eqb p p) 1 0 + places after p = places-cons p after p in
    at_least _ _ _ _ _ parts front here where
      at_least : (whole a b c d : ℕ) → whole ≡ a + b → b ≡ c + d → c ≡ 1 → 1 ≤ whole
      at_least whole a b c d e f g = omega arith

-- one place, with or without another in front of it
twice : (whole rest : ℕ) → whole ≡ 1 → whole ≡ 1 + rest → 1 ≤ rest → ⊥
twice whole rest e f g = omega arith

rest_of : (whole rest : ℕ) → whole ≡ 1 → whole ≡ 0 + rest → rest ≡ 1
rest_of whole rest e f = omega arith

module _ (time : ℕ → ℕ) where
  -- a row lasts as long as its phases together
  pub length_is : (row : List ℕ) → length (row_seconds time row) ≡ sum_by time row
  length_is [] = refl
  length_is (p ∷ ps) = length-row_seconds time p ps ∙ ap (λ n. time p + n) (length_is ps) ∙ sym (sum_by-cons time p ps)

  whole_is : (before after : List ℕ) (p : ℕ) → sum_by time (before ++ p ∷ after) ≡ sum_by time before + (time p + sum_by time after)
  whole_is before after p = sum_by-append time before (p ∷ after) ∙ ap (λ n. sum_by time before + n) (sum_by-cons time p after)

  -- a phase ends within its row
  pub ends_within : (row : List ℕ) (p begin : ℕ) → Begins time row p begin → begin + time p ≤ sum_by time row
  ends_within row p begin b =
      let whole : sum_by time row ≡ sum_by time b.before + (time p + sum_by time b.after) = ap (sum_by time) b.placed ∙ whole_is b.before b.after p in
      bound _ _ _ _ _ b.over whole where
        bound : (begin sum whole own rest : ℕ) → begin ≡ sum → whole ≡ sum + (own + rest) → begin + own ≤ whole
        bound begin sum whole own rest e f = omega arith

  pub times_within : (row : List ℕ) (p second : ℕ) → Times time row p second → second < sum_by time row
  times_within row p second t = order_of _ _ _ t.unended (ends_within row p t.begin t.begins) where
    order_of : (a b c : ℕ) → a < b → b ≤ c → a < c
    order_of a b c lt le = omega arith

  -- the phase that the row has at a second is the one that times then
  found : (before after : List ℕ) (p second : ℕ) → sum_by time before ≤ second → second < sum_by time before + time p → phase_in time (before ++ p ∷ after) second ≡ Some p
  found [] after p second low high = let lt : second < time p = omega arith in rw (lt-ltb second (time p) lt) refl
  found (q ∷ qs) after p second low high =
      let first : sum_by time (q ∷ qs) ≡ time q + sum_by time qs = sum_by-cons time q qs in
      let le : time q ≤ second = omega (arith, first, low) in
      let least : sum_by time qs ≤ second - time q = omega (arith, first, low) in
      let most : second - time q < sum_by time qs + time p = omega (arith, first, low, high) in
      rw (le-ltb second (time q) le) (found qs after p (second - time q) least most)

  pub found_at : (row : List ℕ) (p second : ℕ) → Times time row p second → phase_in time row second ≡ Some p
  found_at row p second t =
      let over = t.begins.over in
      ap (λ r. phase_in time r second) t.begins.placed ∙ found t.begins.before t.begins.after p second (low _ _ _ over t.begun) (high _ _ _ _ over t.unended) where
        low : (begin sum second : ℕ) → begin ≡ sum → begin ≤ second → sum ≤ second
        low begin sum second e le = omega arith

        high : (begin sum second own : ℕ) → begin ≡ sum → second < begin + own → second < sum + own
        high begin sum second own e lt = omega arith

  pub alone_at : (row : List ℕ) (p q second : ℕ) → Times time row p second → Times time row q second → p ≡ q
  alone_at row p q second t u = let e : Some p ≡ Some q = sym (found_at row p second t) ∙ found_at row q second u in cc

  pub lane_at : (row : List ℕ) (p second : ℕ) → Times time row p second → get_or (row_seconds time row) second 0 ≡ p
  lane_at row p second t =
      let lt : second < length (row_seconds time row) = omega (arith, times_within row p second t, length_is row) in
      let e : Some (get_or (row_seconds time row) second 0) ≡ Some p = sym (phase_in_timed time row second lt) ∙ found_at row p second t in
      cc

  -- each second of the row is one of some phase
  pub filled_at : (row : List ℕ) (second : ℕ) → second < sum_by time row → (p : ℕ) × Times time row p second
  filled_at [] second lt = absurd (omega arith)
  filled_at (q ∷ qs) second lt = by_place (cases_lt second (time q)) (filled_at qs (second - time q)) where
    whole : sum_by time (q ∷ qs) ≡ time q + sum_by time qs
    whole = sum_by-cons time q qs

    later_in : time q ≤ second → (p : ℕ) × Times time qs p (second - time q) → (p : ℕ) × Times time (q ∷ qs) p second
    later_in le rest =
        let t = rest.1 in (
          rest.0,
          record {
            begin = time q + t.begin;
            begins = record { before = q ∷ t.begins.before; after = t.begins.after; placed = ap (λ r. q ∷ r) t.begins.placed; over = ap (λ n. time q + n) t.begins.over ∙ sym (sum_by-cons time q t.begins.before) };
            begun = omega (arith, t.begun);
            unended = omega (arith, t.unended);
          },
        )

    by_place : (second < time q) ⊎ (time q ≤ second) → (second - time q < sum_by time qs → (p : ℕ) × Times time qs p (second - time q)) → (p : ℕ) × Times time (q ∷ qs) p second
    by_place (inl before) later = (q, record { begin = 0; begins = record { before = []; after = qs; placed = refl; over = refl }; begun = omega arith; unended = omega arith })
    by_place (inr le) later = later_in le (later (omega (arith, whole, lt)))

  -- a phase that stands once in a row has one place
  place_is : (before after : List ℕ) (p : ℕ) → places (before ++ p ∷ after) p ≡ 1 → sum_by time before ≡ begin_at time (before ++ p ∷ after) p
  place_is [] after p once = rw (eq-eqb p p refl) refl
  place_is (q ∷ qs) after p once = by_test (eqb q p) (places-cons q (qs ++ p ∷ after) p) (place_is qs after p) where
    by_test : (b : Bool) → places (q ∷ (qs ++ p ∷ after)) p ≡ cond b 1 0 + places (qs ++ p ∷ after) p → (places (qs ++ p ∷ after) p ≡ 1 → sum_by time qs ≡ begin_at time (qs ++ p ∷ after) p) → sum_by time (q ∷ qs) ≡ cond b 0 (time q + begin_at time (qs ++ p ∷ after) p)
    by_test true e later = absurd (twice _ _ once e (placed_once qs after p))
    by_test false e later = sum_by-cons time q qs ∙ ap (λ n. time q + n) (later (rest_of _ _ once e))

  pub begins_once : (row : List ℕ) (p begin : ℕ) → places row p ≡ 1 → Begins time row p begin → begin ≡ begin_at time row p
  begins_once row p begin once b =
      b.over ∙ place_is b.before b.after p (ap (λ r. places r p) (sym b.placed) ∙ once) ∙ ap (λ r. begin_at time r p) (sym b.placed)

  pub has_place : (row : List ℕ) (p : ℕ) → places row p ≡ 1 → Begins time row p (begin_at time row p)
  has_place [] p once = absurd (omega arith)
  has_place (q ∷ qs) p once = by_test (eqb q p) refl (places-cons q qs p) (has_place qs p) where
    by_test : (b : Bool) → eqb q p ≡ b → places (q ∷ qs) p ≡ cond b 1 0 + places qs p → (places qs p ≡ 1 → Begins time qs p (begin_at time qs p)) → Begins time (q ∷ qs) p (cond b 0 (time q + begin_at time qs p))
    by_test true e count later = record { before = []; after = qs; placed = ap (λ (x : ℕ). x ∷ qs) (eqb-true q p e); over = refl }
    by_test false e count later =
        let rest = later (rest_of _ _ once count) in
        record { before = q ∷ rest.before; after = rest.after; placed = ap (λ r. q ∷ r) rest.placed; over = ap (λ n. time q + n) rest.over ∙ sym (sum_by-cons time q rest.before) }

  -- phases time in the order in which they stand
  pub ordered_at : (row : List ℕ) (p q s t : ℕ) → places row p ≡ 1 → places row q ≡ 1 → StandsBefore row p q → Times time row p s → Times time row q t → s < t
  ordered_at row p q s t once_p once_q stands of_p of_q =
      let first : Begins time row p (sum_by time stands.before) = record { before = stands.before; after = stands.between ++ (q ∷ stands.after); placed = stands.placed; over = refl } in
      let front : List ℕ = stands.before ++ (p ∷ stands.between) in
      let second : Begins time row q (sum_by time front) = record { before = front; after = stands.after; placed = stands.placed ∙ sym (append_assoc stands.before (p ∷ stands.between) (q ∷ stands.after)); over = refl } in
      let same_p : of_p.begin ≡ sum_by time stands.before = begins_once row p of_p.begin once_p of_p.begins ∙ sym (begins_once row p (sum_by time stands.before) once_p first) in
      let same_q : of_q.begin ≡ sum_by time front = begins_once row q of_q.begin once_q of_q.begins ∙ sym (begins_once row q (sum_by time front) once_q second) in
      in_order _ _ _ _ _ _ _ _ same_p same_q (whole_is stands.before stands.between p) of_p.unended of_q.begun where
        in_order : (s t begin_p begin_q a b own rest : ℕ) → begin_p ≡ a → begin_q ≡ b → b ≡ a + (own + rest) → s < begin_p + own → begin_q ≤ t → s < t
        in_order s t begin_p begin_q a b own rest e f g h i = omega arith
