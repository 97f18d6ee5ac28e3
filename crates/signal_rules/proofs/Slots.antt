-- The slots of rings answer as the rows that they were looked up from.
use Rattle.std.proofs.Common.{◌≡◌, ℕ, zero, suc, ◌+◌, ◌-◌, ◌<◌, ◌≤◌, Bool, true, false, ltb, ◌&&◌, List, [], ◌∷◌, ◌++◌, map, filter, length, min, refl, sym, ap, ◌∙◌, arith}
use Rattle.std.proofs.lemmas.Bool.{ltb-true, ltb-false, le-leb, lt-leb, lt-ltb, le-ltb}
use Rattle.std.proofs.lemmas.List.{length-append, map-append, Elements.filter-append}
use Rattle.std.proofs.lemmas.List.Folds.{list_all-append, list_all-map}
use Rattle.std.specs.{Prelude.cond, List.list_all}
use Rattle.signal_records.specs.{declared.record.Pattern.Pattern, TimingSet.Rows}
use Rattle.signal_values.specs.Numbers.{numbers}
use Rattle.signal_rules.specs.{SequenceRule.ring_row, CutPoints.start_of, CutPoints.starts, CutPoints.phase_in, CutPoints.list_of_option, CutPoints.phases_in, Starts.times, Starts.agree_at, Counts.RisesAtMost, Counts.entries_of, Counts.sequence_entries, Slots.Span, Slots.PhaseMates, Cases.holds}
use Rattle.signal_rules.specs.Lanes.{lanes, used_rings, all_list_each_other, phases_at}
use Rattle.signal_rules.specs.PatternRules.{lanes_fill_cycle, lanes_agree}
use Rattle.signal_rules.specs.Slots.{listing_at, spans_at, spans_from, spans_of, spans_in, has_second, are_mates, later_cases, pair_cases, conflicts_in, agree_where_begun}
use Rattle.signal_rules.specs.declared.reason.Reason.TheVariants as reason
use Rattle.signal_rules.specs.declared.reason.PatternReason.TheVariants.{Conflict}
use Rattle.signal_rules.proofs.{Cases.holds-append, Cases.holds-flat_map, Cases.holds-map, Starts.used_rises, Starts.agree_by_starts, Starts.agree_in_lanes, Steps.rises_within}

-- the phases that have a second
abbrev listings_in : ℕ → List Span → List PhaseMates
listings_in second spans = map (λ (s : Span). s.listing) (spans_in second spans)

-- any two of some phases list each other
abbrev all_are_mates : List PhaseMates → Bool
all_are_mates [] = true
all_are_mates (p ∷ ps) = list_all (are_mates p) ps && all_are_mates ps

laters_hold : (t : ℕ) (x : Span) (later : List Span) → holds (later_cases t x later) ≡ list_all (are_mates x.listing) (map (λ (s : Span). s.listing) later)
laters_hold t x later =
    holds-map (λ (other : Span). are_mates x.listing other.listing) (λ (other : Span). reason.Pattern (Conflict t (min x.until other.until) x.listing.phase other.listing.phase)) later
    ∙ sym (list_all-map (are_mates x.listing) (λ (s : Span). s.listing) later)

pairs_hold : (t : ℕ) (spans : List Span) → holds (pair_cases t spans) ≡ all_are_mates (map (λ (s : Span). s.listing) spans)
pairs_hold t [] = refl
pairs_hold t (x ∷ later) = holds-append (later_cases t x later) (pair_cases t later) ∙ (λ i. laters_hold t x later i && pairs_hold t later i)

-- listings list each other as their phases do
mates_of_phases : (set : Rows) (ps : List ℕ) → all_are_mates (map (listing_at set) ps) ≡ all_list_each_other set ps
mates_of_phases set [] = refl
mates_of_phases set (p ∷ ps) = λ i. list_all-map (are_mates (listing_at set p)) (listing_at set) ps i && mates_of_phases set ps i

listings_in-append : (t : ℕ) (some more : List Span) → listings_in t (some ++ more) ≡ listings_in t some ++ listings_in t more
listings_in-append t some more =
    ap (map (λ (s : Span). s.listing)) (filter-append (has_second t) some more) ∙ map-append (λ (s : Span). s.listing) (filter (has_second t) some) (filter (has_second t) more)

-- slots that were added to none
pub only_added : (slots now old spans : List Span) → slots ≡ now → now ≡ old ++ spans → old ≡ [] → slots ≡ spans
only_added slots now old spans same added none = same ∙ added ∙ ap (λ l. l ++ spans) none

module _ (set : Rows) (split : ℕ) where
  -- a span has its seconds, and none before them
  at_its_time : (p n s t : ℕ) → s ≤ t → listings_in t (spans_at set p n s) ≡ map (listing_at set) (cond (ltb (t - s) n) (p ∷ []) [])
  at_its_time p zero s t le = let never : 0 ≤ t - s = omega arith in rw (le-ltb (t - s) 0 never) refl
  at_its_time p (suc n) s t le = by_test (ltb (t - s) (suc n)) refl where
    by_test : (b : Bool) → ltb (t - s) (suc n) ≡ b → listings_in t (spans_at set p (suc n) s) ≡ map (listing_at set) (cond (ltb (t - s) (suc n)) (p ∷ []) [])
    by_test true e =
        let within : t < s + suc n = omega (arith, ltb-true (t - s) (suc n) e) in
        rw (e, le-leb s t le, lt-ltb t (s + suc n) within) refl
    by_test false e =
        let past : s + suc n ≤ t = omega (arith, ltb-false (t - s) (suc n) e) in
        rw (e, le-leb s t le, le-ltb t (s + suc n) past) refl

  before_it : (p n s t : ℕ) → t < s → listings_in t (spans_at set p n s) ≡ []
  before_it p zero s t lt = refl
  before_it p (suc n) s t lt = rw (lt-leb s t lt) refl

  before_row : (row : List ℕ) (s t : ℕ) → t < s → listings_in t (spans_from set split s row) ≡ []
  before_row [] s t lt = refl
  before_row (p ∷ ps) s t lt =
      let time = times set split p in
      listings_in-append t (spans_at set p time s) (spans_from set split (s + time) ps)
      ∙ (λ i. before_it p time s t lt i ++ before_row ps (s + time) t (omega arith) i)

  -- a row's phase of a second is the one that is found
  in_row : (row : List ℕ) (s t : ℕ) → s ≤ t → listings_in t (spans_from set split s row) ≡ map (listing_at set) (list_of_option (phase_in (times set split) row (t - s)))
  in_row [] s t le = refl
  in_row (p ∷ ps) s t le =
      listings_in-append t (spans_at set p (times set split p) s) (spans_from set split (s + times set split p) ps)
      ∙ ap (λ l. l ++ listings_in t (spans_from set split (s + times set split p) ps)) (at_its_time p (times set split p) s t le)
      ∙ by_test (ltb (t - s) (times set split p)) refl (in_row ps (s + times set split p) t) where
        by_test : (b : Bool) → ltb (t - s) (times set split p) ≡ b
            → (s + times set split p ≤ t → listings_in t (spans_from set split (s + times set split p) ps) ≡ map (listing_at set) (list_of_option (phase_in (times set split) ps (t - (s + times set split p)))))
            → map (listing_at set) (cond (ltb (t - s) (times set split p)) (p ∷ []) []) ++ listings_in t (spans_from set split (s + times set split p) ps)
            ≡ map (listing_at set) (list_of_option (phase_in (times set split) (p ∷ ps) (t - s)))
        by_test true e later =
            let early : t < s + times set split p = omega (arith, ltb-true (t - s) (times set split p) e) in
            rw (e, before_row ps (s + times set split p) t early) refl
        by_test false e later =
            let late : s + times set split p ≤ t = omega (arith, ltb-false (t - s) (times set split p) e) in
            let place : t - (s + times set split p) ≡ t - s - times set split p = omega arith in
            rw e (later late ∙ ap (λ second. map (listing_at set) (list_of_option (phase_in (times set split) ps second))) place)

  -- spans begin where their row starts a phase
  begun_in_row : (T : ℕ → Bool) (row : List ℕ) (s : ℕ) → list_all (λ (x : Span). T x.from) (spans_from set split s row) ≡ list_all T (starts (times set split) s row)
  begun_in_row T [] s = refl
  begun_in_row T (p ∷ ps) s =
      let time = times set split p in
      list_all-append (λ (x : Span). T x.from) (spans_at set p time s) (spans_from set split (s + time) ps)
      ∙ (λ i. list_all-map (λ (x : Span). T x.from) (λ from. record { from = from; until = from + time; listing = listing_at set p }) (start_of time s) i
      && begun_in_row T ps (s + time) i)
      ∙ sym (list_all-append T (start_of time s) (starts (times set split) (s + time) ps))

  -- no more spans than phases
  few_in_row : (row : List ℕ) (s : ℕ) → length (spans_from set split s row) ≤ length row
  few_in_row [] s = omega arith
  few_in_row (p ∷ ps) s =
      let time = times set split p in
      omega (arith, length-append (spans_at set p time s) (spans_from set split (s + time) ps), one time, few_in_row ps (s + time)) where
        one : (n : ℕ) → length (spans_at set p n s) ≤ 1
        one zero = omega arith
        one (suc n) = omega arith

-- two tests that agree on each number
each_number : (T U : ℕ → Bool) (n first : ℕ) → ((t : ℕ) → t < first + n → T t ≡ U t) → list_all T (numbers n first) ≡ list_all U (numbers n first)
each_number T U zero first h = refl
each_number T U (suc n) first h = λ i. h first (omega arith) i && each_number T U n (first + 1) (λ t lt. h t (omega arith)) i

module _ (set : Rows) (pattern : Pattern) where
  in_rows : (rings : List ℕ) (t : ℕ) → listings_in t (spans_of set pattern rings) ≡ map (listing_at set) (phases_in (times set pattern.split) (map (ring_row set pattern.seq) rings) t)
  in_rows [] t = refl
  in_rows (ring ∷ rings) t =
      let row = ring_row set pattern.seq ring in
      let found = list_of_option (phase_in (times set pattern.split) row t) in
      let here : t - 0 ≡ t = omega arith in
      let same : listings_in t (spans_from set pattern.split 0 (ring_row set pattern.seq ring)) ≡ map (listing_at set) (list_of_option (phase_in (times set pattern.split) (ring_row set pattern.seq ring) t)) =
      in_row set pattern.split row 0 t (omega arith) ∙ ap (λ n. map (listing_at set) (list_of_option (phase_in (times set pattern.split) row n))) here in
      listings_in-append t (spans_from set pattern.split 0 row) (spans_of set pattern rings)
      ∙ (λ i. same i ++ in_rows rings t i)
      ∙ sym (map-append (listing_at set) found (phases_in (times set pattern.split) (map (ring_row set pattern.seq) rings) t))

  begun_in_rows : (T : ℕ → Bool) (rings : List ℕ) → list_all (λ (x : Span). T x.from) (spans_of set pattern rings) ≡ list_all (λ ring. list_all T (starts (times set pattern.split) 0 (ring_row set pattern.seq ring))) rings
  begun_in_rows T [] = refl
  begun_in_rows T (ring ∷ rings) =
      let row = ring_row set pattern.seq ring in
      list_all-append (λ (x : Span). T x.from) (spans_from set pattern.split 0 row) (spans_of set pattern rings)
      ∙ (λ i. begun_in_row set pattern.split T row 0 i && begun_in_rows T rings i)

  few_in_rows : (rings : List ℕ) → length (spans_of set pattern rings) ≤ entries_of set pattern.seq rings
  few_in_rows [] = omega arith
  few_in_rows (ring ∷ rings) =
      let row = ring_row set pattern.seq ring in
      omega (arith, length-append (spans_from set pattern.split 0 row) (spans_of set pattern rings), few_in_row set pattern.split row 0, few_in_rows rings)

  agree_in_rows : (rings : List ℕ) (t : ℕ) → holds (pair_cases t (spans_in t (spans_of set pattern rings))) ≡ agree_at set pattern rings t
  agree_in_rows rings t =
      pairs_hold t (spans_in t (spans_of set pattern rings)) ∙ ap all_are_mates (in_rows rings t) ∙ mates_of_phases set (phases_in (times set pattern.split) (map (ring_row set pattern.seq) rings) t)

  -- slots that were added agree as the lanes do
  pub agree_of_slots : (rings : List ℕ) (slots : List Span) → rings ≡ used_rings set → slots ≡ spans_of set pattern rings → lanes_fill_cycle set pattern ≡ true → agree_where_begun slots slots ≡ lanes_agree set pattern
  agree_of_slots rings slots used e fill =
      ap (λ spans. agree_where_begun spans spans) e
      ∙ (λ i. list_all (λ (x : Span). agree_in_rows rings x.from i) (spans_of set pattern rings))
      ∙ begun_in_rows (agree_at set pattern rings) rings
      ∙ agree_by_starts set pattern rings used fill

  -- and conflict where the lanes do not agree
  pub conflicts_of_slots : (rings : List ℕ) (slots : List Span) → rings ≡ used_rings set → slots ≡ spans_of set pattern rings → lanes_fill_cycle set pattern ≡ true → holds (conflicts_in pattern.cycle slots) ≡ lanes_agree set pattern
  conflicts_of_slots rings slots used e fill =
      ap (λ spans. holds (conflicts_in pattern.cycle spans)) (e ∙ ap (spans_of set pattern) used)
      ∙ holds-flat_map (λ t. pair_cases t (spans_in t (spans_of set pattern (used_rings set)))) (numbers pattern.cycle 0)
      ∙ each_number (λ t. holds (pair_cases t (spans_in t (spans_of set pattern (used_rings set))))) (λ t. all_list_each_other set (phases_at (lanes set pattern) t)) pattern.cycle 0
      (λ t lt. agree_in_rows (used_rings set) t ∙ agree_in_lanes set pattern t fill (omega arith))

  pub slots_rise : (rings : List ℕ) (slots : List Span) (before after : ℕ) → rings ≡ used_rings set → slots ≡ spans_of set pattern rings → RisesAtMost (length slots) before after → RisesAtMost (sequence_entries set pattern.seq) before after
  slots_rise rings slots before after used e h =
      let few : length slots ≤ entries_of set pattern.seq rings = omega (arith, ap length e, few_in_rows rings) in
      used_rises set pattern.seq rings before after used (rises_within (length slots) (entries_of set pattern.seq rings) before after few h)
