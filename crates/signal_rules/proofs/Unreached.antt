-- A subject that no key reaches has the violations that it had.
use Rattle.std.proofs.Common.{◌≡◌, ℕ, ◌+◌, Bool, true, false, not, ◌&&◌, eqb, ltb, if◌then◌else◌, List, [], ◌∷◌, ◌++◌, map, filter, length, Option, Some, None, is_some, refl, sym, ap, ◌∙◌, eq-eqb}
use Rattle.std.proofs.lemmas.List.Folds.{list_any_at}
use Rattle.std.proofs.lemmas.Bool.{or_left, or_right, and_from, true≢false}
use Rattle.std.specs.Prelude.{Contains, replicate}
use Rattle.std.specs.{FinMap.get, List.list_all, List.list_any, List.flat_map}
use Rattle.signal_records.specs.declared.{key.Key.Key, record.Phase.Phase, record.Split.Split}
use Rattle.signal_records.specs.declared.key.Key.TheVariants as key
use Rattle.signal_records.specs.{TimingSet.Rows, declared.record.Pattern.Pattern}
use Rattle.signal_values.specs.Numbers.{numbers}
use Rattle.signal_rules.specs.{declared.violation.Subject.Subject, Difference.DiffersAtMost, PhaseRules.mate_cases, PhaseRules.mates_cases, SplitRule.split_cases, CutPoints.start_of, Slots.spans_from, Slots.spans_of, Slots.conflicts_in, PatternRules.conflict_cases}
use Rattle.signal_rules.specs.declared.reason.Reason.{Reason}
use Rattle.signal_rules.specs.declared.reason.Reason.TheVariants as reason
use Rattle.signal_rules.specs.declared.reason.SequenceReason.TheVariants as sequence
use Rattle.signal_rules.specs.declared.reason.PatternReason.TheVariants.{NoSequence, NoSplit, NoneCoordinated, OtherSum}
use Rattle.signal_rules.specs.declared.violation.Subject.TheVariants as subject
use Rattle.signal_rules.specs.declared.violation.Rule.TheVariants as rule
use Rattle.signal_rules.specs.Cases.{Cases, holds}
use Rattle.signal_rules.specs.Touched.{reaches, reaches_any, uses_sequence, uses_split}
use Rattle.signal_rules.specs.Lookup.{phase_at, sequence_at, split_at, the_phase, the_list, the_split, the_pattern, pattern_at, the_mates, lists, is_in, has_sequence, ring_numbers, phase_numbers}
use Rattle.signal_rules.specs.SequenceRule.{or_empty, in_ring, place_cases, times_in, once_cases, sequence_cases}
use Rattle.signal_rules.specs.PatternRules.{rows_cases, offset_cases, is_coordinated, has_coordinated, sum_cases, lanes_agree}
use Rattle.signal_rules.specs.Lanes.{time_of, lane, used_rings, all_list_each_other, phases_at}
use Rattle.signal_rules.specs.Violations.{Findings, broken, violations_in, violations_at, for_phase, for_sequence, for_split, for_pattern, pattern_findings}

-- a key among the keys reaches what it reaches
pub reached_by : (R : Key → Bool) (k : Key) (keys : List Key) → Contains keys k → R k ≡ true → list_any R keys ≡ true
reached_by R k keys among e = list_any_at R keys among.0 k among.1 (ap R among.2 ∙ e)

-- both sets have the same rows at the keys that would reach a subject
abbrev pub SameFor : Rows → Rows → Subject → Type 0
SameFor base draft s = (k : Key) → reaches draft k s ≡ true → get draft k ≡ get base k

pub same_for : (base draft : Rows) (keys : List Key) (s : Subject) → DiffersAtMost base draft keys → reaches_any draft keys s ≡ false → SameFor base draft s
same_for base draft keys s differs unreached k reached =
    differs k (λ among. true≢false (sym (reached_by (λ m. reaches draft m s) k keys among reached) ∙ unreached))

pub flat_map_same_in : {B : Type 0} (f g : ℕ → List B) (xs : List ℕ) → ((x : ℕ) → is_in x xs ≡ true → f x ≡ g x) → flat_map f xs ≡ flat_map g xs
flat_map_same_in f g [] h = refl
flat_map_same_in f g (x ∷ xs) h =
    let here : f x ≡ g x = h x (or_left (eqb x x) (list_any (λ m. eqb m x) xs) (eq-eqb x x refl)) in
    let rest : flat_map f xs ≡ flat_map g xs = flat_map_same_in f g xs (λ y e. h y (or_right (eqb x y) (list_any (λ m. eqb m y) xs) e)) in
    rw (here, rest) refl

pub list_any_same : (f g : ℕ → Bool) (xs : List ℕ) → ((x : ℕ) → f x ≡ g x)
    → list_any f xs ≡ list_any g xs
list_any_same f g xs h = λ i. list_any (λ x. h x i) xs

pub flat_map_same : {A B : Type 0} (f g : A → List B) (xs : List A) → ((x : A) → f x ≡ g x)
    → flat_map f xs ≡ flat_map g xs
flat_map_same f g xs h = λ i. flat_map (λ x. h x i) xs

-- equal findings of a subject are equal violations
told_alike : (s : Subject) (fs gs : Findings) → fs ≡ gs → violations_in (broken s fs) ≡ violations_in (broken s gs)
told_alike s fs gs e = ap (λ hs. violations_in (broken s hs)) e

-- a phase
pub own_phase : (base draft : Rows) (p : ℕ) → SameFor base draft (subject.Phase p) → phase_at draft p ≡ phase_at base p
own_phase base draft p same = ap the_phase (same (key.Phase p) (or_left (eqb p p) (lists draft p p) (eq-eqb p p refl)))

pub phase_kept : (base draft : Rows) (p : ℕ) → SameFor base draft (subject.Phase p) → violations_at draft (subject.Phase p) ≡ violations_at base (subject.Phase p)
phase_kept base draft p same =
    told_alike (subject.Phase p) _ _ (by_phase (phase_at draft p) refl ∙ ap (for_phase base p) (own_phase base draft p same)) where
      mate_kept : (phase : Phase) → phase_at draft p ≡ Some phase → (mate : ℕ) → is_in mate phase.mates ≡ true → mate_cases p phase mate (phase_at draft mate) ≡ mate_cases p phase mate (phase_at base mate)
      mate_kept phase e mate listed =
          let named : lists draft p mate ≡ true = ap (λ o. is_in mate (the_mates o)) e ∙ listed in
          ap (λ row. mate_cases p phase mate (the_phase row)) (same (key.Phase mate) (or_right (eqb p mate) (lists draft p mate) named))

      by_phase : (o : Option Phase) → phase_at draft p ≡ o → for_phase draft p o ≡ for_phase base p o
      by_phase None e = refl
      by_phase (Some phase) e =
          let mates : mates_cases draft p phase ≡ mates_cases base p phase = flat_map_same_in _ _ phase.mates (mate_kept phase e) in
          rw mates refl

-- a split row
pub split_kept : (base draft : Rows) (n p : ℕ) → SameFor base draft (subject.Split n p) → (split_at draft n p ≡ split_at base n p) × (violations_at draft (subject.Split n p) ≡ violations_at base (subject.Split n p))
split_kept base draft n p same = (own, told_alike (subject.Split n p) _ _ (by_row (split_at draft n p) ∙ ap (for_split base p) own)) where
  own : split_at draft n p ≡ split_at base n p
  own = ap the_split (same (key.Split n p) (and_from (eqb n n) (eqb p p) (eq-eqb n n refl) (eq-eqb p p refl)))

  phase : phase_at draft p ≡ phase_at base p
  phase = ap the_phase (same (key.Phase p) (eq-eqb p p refl))

  by_row : (o : Option Split) → for_split draft p o ≡ for_split base p o
  by_row None = refl
  by_row (Some split) = ap (λ o. (rule.V8, split_cases p o split) ∷ []) phase

-- a sequence, of which every phase is a part
pub sequence_kept : (base draft : Rows) (n : ℕ) → SameFor base draft (subject.Seq n) → (has_sequence draft n ≡ has_sequence base n) × (violations_at draft (subject.Seq n) ≡ violations_at base (subject.Seq n))
sequence_kept base draft n same =
    (rows, told_alike (subject.Seq n) _ _ (ap (for_sequence draft n) rows ∙ by_rows (has_sequence base n))) where
      row : (ring : ℕ) → sequence_at draft n ring ≡ sequence_at base n ring
      row ring = ap the_list (same (key.Seq n ring) (eq-eqb n n refl))

      rows : has_sequence draft n ≡ has_sequence base n
      rows = λ i. list_any (λ ring. is_some (row ring i)) ring_numbers

      phase : (p : ℕ) → phase_at draft p ≡ phase_at base p
      phase p = ap the_phase (same (key.Phase p) refl)

      once : (p : ℕ) (o : Option Phase) → once_cases draft n p o ≡ once_cases base n p o
      once p None = refl
      once p (Some phase) = ap (λ (list : Option (List ℕ)).
          (eqb (times_in (or_empty list) p) 0, reason.Sequence (sequence.Missing p phase.ring)) ∷ (ltb 1 (times_in (or_empty list) p), reason.Sequence (sequence.Repeated p)) ∷ []) (row phase.ring)

      cases : sequence_cases draft n ≡ sequence_cases base n
      cases = λ i. flat_map (λ ring. flat_map (λ p. place_cases ring p (phase p i)) (or_empty (row ring i))) ring_numbers
          ++ flat_map (λ p. once p (phase p i) i) (filter (λ p. is_some (phase p i)) phase_numbers)

      by_rows : (b : Bool) → for_sequence draft n b ≡ for_sequence base n b
      by_rows false = refl
      by_rows true = ap (λ cs. (rule.V7, cs) ∷ []) cases

-- two sets with the same phases, and the same rows of a sequence and of a split number
record SameRows (a b : Rows) (seq split : ℕ) : Type 0 where
  phase : (p : ℕ) → phase_at a p ≡ phase_at b p
  row : (ring : ℕ) → sequence_at a seq ring ≡ sequence_at b seq ring
  time : (p : ℕ) → split_at a split p ≡ split_at b split p

module _ (a b : Rows) (pattern : Pattern) (same : SameRows a b pattern.seq pattern.split) where
  rows_same : rows_cases a pattern ≡ rows_cases b pattern
  rows_same = λ i. (not (list_any (λ ring. is_some (same.row ring i)) ring_numbers), reason.Pattern (NoSequence pattern.seq))
      ∷ map (λ p. (not (is_some (same.time p i)), reason.Pattern (NoSplit pattern.split p))) (filter (λ p. is_some (same.phase p i)) phase_numbers)

  coordinated_same : has_coordinated a pattern.split ≡ has_coordinated b pattern.split
  coordinated_same = λ i. list_any (λ p. is_coordinated (same.time p i))
      (filter (λ p. is_some (same.phase p i)) phase_numbers)

  rings_same : used_rings a ≡ used_rings b
  rings_same = λ i. filter (λ ring. list_any (λ p. in_ring ring (same.phase p i)) phase_numbers) ring_numbers

  lane_same : (ring : ℕ) → lane a pattern.seq pattern.split ring ≡ lane b pattern.seq pattern.split ring
  lane_same ring = λ i. flat_map (λ p. replicate (time_of (same.time p i)) p) (or_empty (same.row ring i))

  sums_same : sum_cases a pattern ≡ sum_cases b pattern
  sums_same = λ i. map (λ ring. (not (eqb (length (lane_same ring i)) pattern.cycle), reason.Pattern (OtherSum ring (length (lane_same ring i)) pattern.cycle))) (rings_same i)

  all_each_other_same : (ps : List ℕ) → all_list_each_other a ps ≡ all_list_each_other b ps
  all_each_other_same [] = refl
  all_each_other_same (p ∷ ps) = λ i. list_all (λ q.
      is_in q (the_mates (same.phase p i)) && is_in p (the_mates (same.phase q i))) ps
      && all_each_other_same ps i

  agree_same : lanes_agree a pattern ≡ lanes_agree b pattern
  agree_same = λ i. list_all (λ s. all_each_other_same (phases_at (map (λ ring. lane_same ring i) (rings_same i)) s) i)
      (numbers pattern.cycle 0)

  row_spans_same : (row : List ℕ) (s : ℕ) → spans_from a pattern.split s row ≡ spans_from b pattern.split s row
  row_spans_same [] s = refl
  row_spans_same (p ∷ ps) s = λ i.
      map (λ from. record { from = from; until = from + time_of (same.time p i); listing = record { phase = p; mates = the_mates (same.phase p i) } }) (start_of (time_of (same.time p i)) s)
      ++ row_spans_same ps (s + time_of (same.time p i)) i

  spans_same : spans_of a pattern (used_rings a) ≡ spans_of b pattern (used_rings b)
  spans_same = λ i. flat_map (λ ring. row_spans_same (or_empty (same.row ring i)) 0 i) (rings_same i)

  conflicts_same : conflict_cases a pattern ≡ conflict_cases b pattern
  conflicts_same = λ i. if agree_same i then [] else conflicts_in pattern.cycle (spans_same i)

  abbrev found : Cases Reason → Bool → Cases Reason → Cases Reason → Findings
  found r c f g =
      (rule.V9, r) ∷ (rule.V10, offset_cases pattern) ∷ (rule.V11, (not c, reason.Pattern (NoneCoordinated pattern.split)) ∷ [])
      ∷ (if holds r then ((rule.V12, f) ∷ (if holds f then (rule.V13, g) ∷ [] else [])) else [])

  pattern_findings_same : pattern_findings a pattern ≡ pattern_findings b pattern
  pattern_findings_same = λ i. found (rows_same i) (coordinated_same i) (sums_same i) (conflicts_same i)

-- a pattern
pub pattern_kept : (base draft : Rows) (n : ℕ) → SameFor base draft (subject.Pattern n) → (pattern_at draft n ≡ pattern_at base n) × (violations_at draft (subject.Pattern n) ≡ violations_at base (subject.Pattern n))
pattern_kept base draft n same = (own, told_alike (subject.Pattern n) _ _ (by_pattern (pattern_at draft n) refl ∙ ap (for_pattern base) own)) where
  own : pattern_at draft n ≡ pattern_at base n
  own = ap the_pattern (same (key.Pattern n) (eq-eqb n n refl))

  by_pattern : (o : Option Pattern) → pattern_at draft n ≡ o → for_pattern draft o ≡ for_pattern base o
  by_pattern None e = refl
  by_pattern (Some pattern) e =
      pattern_findings_same draft base pattern (record {
        phase = λ p. ap the_phase (same (key.Phase p) refl);
        row = λ ring. ap the_list (same (key.Seq pattern.seq ring) (ap (uses_sequence pattern.seq) e ∙ eq-eqb pattern.seq pattern.seq refl));
        time = λ p. ap the_split (same (key.Split pattern.split p) (ap (uses_split pattern.split) e ∙ eq-eqb pattern.split pattern.split refl));
      })
