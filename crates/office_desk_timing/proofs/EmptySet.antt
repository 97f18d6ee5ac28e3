-- The empty timing set: its rows are records, and it breaks no rule.
use Rattle.std.proofs.Common.{◌≡◌, List, [], ◌++◌, map, filter, Option, sym, subst}
use Rattle.std.specs.{Prelude.IfSome, Prelude.is_some, FinMap.empty, FinMap.get-empty, List.flat_map, List.list_any}
use Rattle.signal_records.specs.{Key.key_cmp, Row.key_of, Within.IsRowWithin, Within.current_limits, declared.key.Key.Key, declared.record.Row.Row}
use Rattle.signal_rules.specs.Lookup.{phase_numbers, ring_numbers, sequence_numbers, split_numbers, pattern_numbers, the_phase, the_list, the_split, the_pattern}
use Rattle.signal_rules.specs.{Violations.violations_at, Violations.violations_of, declared.violation.Subject.Subject}
use Rattle.office_machine.specs.Office.{AreRecords}
use Rattle.signal_records.specs.declared.key.Key.TheVariants as key
use Rattle.signal_rules.specs.declared.violation.Subject.TheVariants as subject

-- what holds of no row holds of each row of the empty set
pub no_records : AreRecords empty
no_records key = subst (λ o. IfSome o (λ row. IsRowWithin current_limits row × (key_of row ≡ key))) (sym (get-empty key_cmp key)) tt

-- the subjects of a set, by what it has under each key
abbrev subjects_by : (Key → Option Row) → List Subject
subjects_by at =
    map (λ p. subject.Phase p) (filter (λ p. is_some (the_phase (at (key.Phase p)))) phase_numbers)
    ++ (map (λ n. subject.Seq n) (filter (λ n. list_any (λ ring. is_some (the_list (at (key.Seq n ring)))) ring_numbers) sequence_numbers)
    ++ (flat_map (λ n. map (λ p. subject.Split n p) (filter (λ p. is_some (the_split (at (key.Split n p)))) phase_numbers)) split_numbers
    ++ map (λ n. subject.Pattern n) (filter (λ n. is_some (the_pattern (at (key.Pattern n)))) pattern_numbers)))

pub no_violations : violations_of empty ≡ []
unfolding violations_of
no_violations = λ k. flat_map (violations_at empty) (subjects_by (λ key. get-empty key_cmp key k))
