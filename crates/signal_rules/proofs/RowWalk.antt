-- A walk over the rows of a set, in the order of their keys, finds the subjects of the set.
use Rattle.std.proofs.Common.{◌≡◌, ℕ, List, [], ◌++◌, map, filter, is_some, sym, ap, subst, ◌∙◌, append_assoc, arith}
use Rattle.std.proofs.lemmas.Bool.{ne_eqb}
use Rattle.std.specs.{FinMap.find, List.filter_map, List.flat_map}
use Rattle.signal_records.specs.declared.key.Key.TheVariants as key
use Rattle.signal_records.specs.{declared.record.Row.Row, Key.key_cmp, TimingSet.Rows}
use Rattle.signal_values.specs.declared.number.TheConstants.{PHASES}
use Rattle.signal_rules.specs.declared.violation.Subject.{Subject}
use Rattle.signal_rules.specs.Lookup.{the_phase, the_list, the_split, the_pattern, phase_at, sequence_at, split_at, pattern_at, last_sequence, last_split, last_pattern, phases, ring_numbers, sequence_numbers, split_numbers, pattern_numbers, has_sequence}
use Rattle.signal_rules.specs.RowWalk.{with_keys, of_kind, sequence_of, sequences_after}
use Rattle.signal_rules.specs.Violations.{subjects, split_rows, split_subjects}
use Rattle.signal_rules.specs.declared.violation.Subject.TheVariants as subject
use Rattle.signal_rules.proofs.InOrder.{Rising, rising_from, in_order, firsts, firsts_rise, firsts_are, second_at, grouped}
use Rattle.signal_rules.proofs.RowKinds.{phase_of, pattern_of, pair_of, split_of, phase_split}
use Rattle.signal_rules.proofs.RowNumbers.{AreRowsOf, sorted_rows, found, rise}
use Rattle.signal_rules.proofs.Unreached.{list_any_same, flat_map_same}
use Rattle.signal_rules.proofs.RowKinds as kind

module _ (set : Rows) (rows : List Row) (of : AreRowsOf set rows) where
  phases_walked : phases set ≡ filter_map phase_of rows
  phases_walked =
      in_order (λ p. is_some (phase_at set p)) PHASES 1 33 (filter_map phase_of rows) (omega arith)
      (rise phase_of 1 33 kind.phase_rises kind.phase_inside rows (sorted_rows set rows of) of.within)
      (λ p low high. ap (λ o. is_some (the_phase o)) (found set rows of (key.Phase p)) ∙ kind.phase_found p rows)

  patterns_walked : filter (λ n. is_some (pattern_at set n)) pattern_numbers ≡ filter_map pattern_of rows
  patterns_walked =
      in_order (λ n. is_some (pattern_at set n)) last_pattern 1 49 (filter_map pattern_of rows) (omega arith)
      (rise pattern_of 1 49 kind.pattern_rises kind.pattern_inside rows (sorted_rows set rows of) of.within)
      (λ p low high. ap (λ o. is_some (the_pattern o)) (found set rows of (key.Pattern p)) ∙ kind.pattern_found p rows)

  sequences_walked : filter (has_sequence set) sequence_numbers ≡ sequences_after 0 rows
  sequences_walked =
      let rising : Rising 0 1 21 (filter_map sequence_of rows) = rise sequence_of 0 21 kind.sequence_rises kind.sequence_inside rows (sorted_rows set rows of) of.within in
      in_order (has_sequence set) last_sequence 1 21 (firsts 0 (filter_map sequence_of rows)) (omega arith)
      (firsts_rise 0 21 (filter_map sequence_of rows) (rising_from 0 1 0 21 (filter_map sequence_of rows) (omega arith) rising))
      (λ n low high. list_any_same (λ ring. is_some (sequence_at set n ring)) (λ ring. is_some (the_list (find key_cmp (key.Seq n ring) (with_keys rows)))) ring_numbers (λ ring. ap (λ o. is_some (the_list o)) (found set rows of (key.Seq n ring)))
      ∙ kind.sequence_found n rows of.within ∙ sym (firsts_are 0 n (filter_map sequence_of rows) (ne_eqb 0 n (λ e. omega arith))))
      ∙ sym (kind.walked_firsts 0 rows)

  split_walked : (n : ℕ) → split_rows set n ≡ map (λ p. subject.Split n p) (filter_map (second_at n) (filter_map pair_of rows))
  split_walked n =
      ap (map (λ p. subject.Split n p))
      (in_order (λ p. is_some (split_at set n p)) PHASES 1 33 (filter_map (phase_split n) rows) (omega arith)
      (rise (phase_split n) 1 33 (kind.phase_split_rises n) (kind.phase_split_inside n) rows (sorted_rows set rows of) of.within)
      (λ p low high. ap (λ o. is_some (the_split o)) (found set rows of (key.Split n p)) ∙ kind.split_found n p rows)
      ∙ kind.split_pairs n rows)

  splits_walked : split_subjects set ≡ map (λ q. subject.Split q.0 q.1) (filter_map pair_of rows)
  splits_walked =
      let rising : Rising 0 1 21 (filter_map split_of rows) = rise split_of 0 21 kind.split_rises kind.split_inside rows (sorted_rows set rows of) of.within in
      flat_map_same (split_rows set) (λ n. map (λ p. subject.Split n p) (filter_map (second_at n) (filter_map pair_of rows))) split_numbers split_walked
      ∙ grouped (λ n p. subject.Split n p) 21 last_split 1 (filter_map pair_of rows) (omega arith) (subst (Rising 0 1 21) (kind.first_numbers rows) rising)

  pub subjects_walked : (one two three four : List Subject) → one ≡ [] ++ flat_map (of_kind 1) rows
      → two ≡ one ++ map (λ n. subject.Seq n) (sequences_after 0 rows) → three ≡ two ++ flat_map (of_kind 3) rows
      → four ≡ three ++ flat_map (of_kind 4) rows → four ≡ subjects set
  subjects_walked one two three four e1 e2 e3 e4 =
      let a : flat_map (of_kind 1) rows ≡ map (λ p. subject.Phase p) (phases set) = kind.phase_subjects rows ∙ ap (map (λ p. subject.Phase p)) (sym phases_walked) in
      let b : map (λ n. subject.Seq n) (sequences_after 0 rows) ≡ map (λ n. subject.Seq n) (filter (has_sequence set) sequence_numbers) = ap (map (λ n. subject.Seq n)) (sym sequences_walked) in
      let c : flat_map (of_kind 3) rows ≡ split_subjects set = kind.pair_subjects rows ∙ sym splits_walked in
      let d : flat_map (of_kind 4) rows ≡ map (λ n. subject.Pattern n) (filter (λ n. is_some (pattern_at set n)) pattern_numbers) = kind.pattern_subjects rows ∙ ap (map (λ n. subject.Pattern n)) (sym patterns_walked) in
      joined one two three four _ _ _ _ (e1 ∙ a) (e2 ∙ ap (λ l. one ++ l) b) (e3 ∙ ap (λ l. two ++ l) c) (e4 ∙ ap (λ l. three ++ l) d) where
        joined : (one two three four w x y z : List Subject) → one ≡ w → two ≡ one ++ x → three ≡ two ++ y → four ≡ three ++ z → four ≡ w ++ (x ++ (y ++ z))
        joined one two three four w x y z e1 e2 e3 e4 =
            e4 ∙ ap (λ l. l ++ z) (e3 ∙ ap (λ l. l ++ y) (e2 ∙ ap (λ l. l ++ x) e1))
            ∙ append_assoc (w ++ x) y z ∙ append_assoc w x (y ++ z)
