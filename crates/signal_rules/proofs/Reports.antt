-- Findings that are reported one after the other.
use Rattle.std.proofs.Common.{◌≡◌, ℕ, zero, suc, ◌<◌, Bool, true, false, not, if◌then◌else◌, List, [], ◌∷◌, ◌++◌, map, length, get_or, Contains, Option, Some, None, is_some, is_none, refl, sym, ap, subst, ◌∙◌, append_assoc, arith}
use Rattle.std.proofs.lemmas.List.{append-nil, map-append}
use Rattle.signal_records.specs.{declared.record.Pattern.Pattern, TimingSet.Rows}
use Rattle.signal_rules.specs.declared.{reason.Explained.Explained, reason.Reason.Reason, violation.Rule.Rule, violation.Subject.Subject}
use Rattle.signal_rules.specs.declared.violation.Rule.TheVariants as rule
use Rattle.signal_rules.specs.Cases.{Cases, first_true, holds, IsTrueIn}
use Rattle.signal_rules.specs.PatternRules.{rows_cases, has_rows, offset_cases, coordination_cases, rings_cases, sum_cases, lanes_fill_cycle, lanes_agree, conflict_cases}
use Rattle.signal_rules.specs.Lanes.{used_rings}
use Rattle.signal_rules.specs.Slots.{Span, spans_of, agree_where_begun, conflicts_in}
use Rattle.signal_rules.specs.Violations.{Findings, findings, with_reason, broken, lane_findings, pattern_findings, violations_in, violations_at, IsReason}
use Rattle.signal_rules.proofs.{Cases.true_shows, Slots.agree_of_slots, Slots.conflicts_of_slots}

onto : (s : Subject) (r : Rule) (o : Option Reason) (others : List Explained) → with_reason s r o [] ++ others ≡ with_reason s r o others
onto s r None others = refl
onto s r (Some why) others = refl

-- the first of some findings is reported, and then the others
pub reported : {T : Type 0} (of : Explained → T) (s : Subject) (r : Rule) (cs : Cases Reason) (why : Option Reason) (fs : Findings) (old new : List T) → why ≡ first_true cs → new ≡ old ++ map of (with_reason s r why [])
    → new ++ map of (broken s fs) ≡ old ++ map of (broken s ((r, cs) ∷ fs))
reported of s r cs why fs old new w e =
    ap (λ l. l ++ map of (broken s fs)) e ∙ append_assoc old (map of (with_reason s r why [])) (map of (broken s fs))
    ∙ ap (λ l. old ++ l) (sym (map-append of (with_reason s r why []) (broken s fs)))
    ∙ ap (λ l. old ++ map of l) (onto s r why (broken s fs))
    ∙ ap (λ o. old ++ map of (with_reason s r o (broken s fs))) w

-- a test for none
pub none_is : {A : Type 0} (o : Option A) (r b : Bool) → is_some o ≡ not r → is_none o ≡ b → r ≡ b
none_is None true b e f = f
none_is None false b e f = absurd (cc)
none_is (Some x) true b e f = absurd (cc)
none_is (Some x) false b e f = f

-- reasons that are listed only where the rule's test fails
pub guarded : {A : Type 0} (b : Bool) (cs : Cases A) → holds cs ≡ b → first_true cs ≡ first_true (if b then [] else cs)
guarded false cs e = refl
guarded true cs e = is_empty (first_true cs) e where
  is_empty : {A : Type 0} (o : Option A) → is_none o ≡ true → o ≡ None
  is_empty None f = refl
  is_empty (Some x) f = absurd (cc)

-- the findings on a pattern, and then those on its lanes
pub pattern_reported : {T : Type 0} (of : Explained → T) (s : Subject) (set : Rows) (pattern : Pattern) (rows offset coordination : Option Reason) (old one two three new : List T)
    → rows ≡ first_true (rows_cases set pattern) → offset ≡ first_true (offset_cases pattern) → coordination ≡ first_true (coordination_cases set pattern)
    → one ≡ old ++ map of (with_reason s rule.V9 rows []) → two ≡ one ++ map of (with_reason s rule.V10 offset []) → three ≡ two ++ map of (with_reason s rule.V11 coordination [])
    → new ≡ three ++ map of (broken s (if has_rows set pattern then lane_findings set pattern else [])) → new ≡ old ++ map of (broken s (pattern_findings set pattern))
pattern_reported of s set pattern rows offset coordination old one two three new r o c e1 e2 e3 e4 =
    let lanes : Findings = if has_rows set pattern then lane_findings set pattern else [] in
    e4 ∙ reported of s rule.V11 (coordination_cases set pattern) coordination lanes two three c e3
    ∙ reported of s rule.V10 (offset_cases pattern) offset ((rule.V11, coordination_cases set pattern) ∷ lanes) one two o e2
    ∙ reported of s rule.V9 (rows_cases set pattern) rows ((rule.V10, offset_cases pattern) ∷ (rule.V11, coordination_cases set pattern) ∷ lanes) old one r e1

-- where the rows are there, and where they are not
pub with_lanes : {T : Type 0} (of : Explained → T) (s : Subject) (set : Rows) (pattern : Pattern) (r : Bool) (old new : List T) → r ≡ has_rows set pattern → r ≡ true → new ≡ old ++ map of (broken s (lane_findings set pattern))
    → new ≡ old ++ map of (broken s (if has_rows set pattern then lane_findings set pattern else []))
with_lanes of s set pattern r old new has is e = e ∙ ap (λ (b : Bool). old ++ map of (broken s (if b then lane_findings set pattern else []))) (sym is ∙ has)

pub without_lanes : {T : Type 0} (of : Explained → T) (s : Subject) (b r : Bool) (fs : Findings) (old new : List T) → r ≡ b → r ≡ false → new ≡ old → new ≡ old ++ map of (broken s (if b then fs else []))
without_lanes of s b r fs old new has is e = e ∙ sym (append-nil old) ∙ ap (λ (b : Bool). old ++ map of (broken s (if b then fs else []))) (sym is ∙ has)

-- lanes that fill the cycle, and the slots that were added then
pub fills : (set : Rows) (pattern : Pattern) (rings : List ℕ) (sum : Option Reason) (r : Bool) → rings ≡ used_rings set → sum ≡ first_true (rings_cases set pattern rings) → is_some sum ≡ not r → r ≡ true → lanes_fill_cycle set pattern ≡ true
fills set pattern rings sum r used w test is =
    sym (none_is sum r _ test (ap is_none (w ∙ ap (λ l. first_true (rings_cases set pattern l)) used))) ∙ is

pub slots_agree : (set : Rows) (pattern : Pattern) (rings : List ℕ) (slots : List Span) → rings ≡ used_rings set → lanes_fill_cycle set pattern ≡ true → slots ≡ spans_of set pattern rings → holds (conflicts_in pattern.cycle slots) ≡ agree_where_begun slots slots
slots_agree set pattern rings slots used fill added = conflicts_of_slots set pattern rings slots used added fill ∙ sym (agree_of_slots set pattern rings slots used added fill)

-- V12 that does not hold, and V12 that holds with V13
pub unfilled_reported : {T : Type 0} (of : Explained → T) (s : Subject) (set : Rows) (pattern : Pattern) (rings : List ℕ) (unfilled : Option Reason) (r : Bool) (old one new : List T)
    → rings ≡ used_rings set → unfilled ≡ first_true (rings_cases set pattern rings) → is_some unfilled ≡ not r → r ≡ false
    → one ≡ old ++ map of (with_reason s rule.V12 unfilled []) → new ≡ one → new ≡ old ++ map of (broken s (lane_findings set pattern))
unfilled_reported of s set pattern rings unfilled r old one new used w test is e f =
    let own : unfilled ≡ first_true (sum_cases set pattern) = w ∙ ap (λ l. first_true (rings_cases set pattern l)) used in
    let rest : Findings = if lanes_fill_cycle set pattern then (rule.V13, conflict_cases set pattern) ∷ [] else [] in
    without_lanes of s (lanes_fill_cycle set pattern) r ((rule.V13, conflict_cases set pattern) ∷ []) one new (none_is unfilled r _ test (ap is_none own)) is f
    ∙ reported of s rule.V12 (sum_cases set pattern) unfilled rest old one own e

pub filled_reported : {T : Type 0} (of : Explained → T) (s : Subject) (set : Rows) (pattern : Pattern) (rings : List ℕ) (slots : List Span) (unfilled : Option Reason) (r : Bool) (old one new : List T)
    → rings ≡ used_rings set → unfilled ≡ first_true (rings_cases set pattern rings) → is_some unfilled ≡ not r → r ≡ true → slots ≡ spans_of set pattern rings
    → one ≡ old ++ map of (with_reason s rule.V12 unfilled []) → new ≡ one ++ map of (with_reason s rule.V13 (first_true (conflicts_in pattern.cycle slots)) []) → new ≡ old ++ map of (broken s (lane_findings set pattern))
filled_reported of s set pattern rings slots unfilled r old one new used w test is added e f =
    let own : unfilled ≡ first_true (sum_cases set pattern) = w ∙ ap (λ l. first_true (rings_cases set pattern l)) used in
    let fill : lanes_fill_cycle set pattern ≡ true = fills set pattern rings unfilled r used w test is in
    let conflict : first_true (conflicts_in pattern.cycle slots) ≡ first_true (conflict_cases set pattern) =
    ap (λ spans. first_true (conflicts_in pattern.cycle spans)) (added ∙ ap (spans_of set pattern) used)
    ∙ guarded (lanes_agree set pattern) (conflicts_in pattern.cycle (spans_of set pattern (used_rings set))) (conflicts_of_slots set pattern (used_rings set) (spans_of set pattern (used_rings set)) refl refl fill) in
    let rest : Findings = if lanes_fill_cycle set pattern then (rule.V13, conflict_cases set pattern) ∷ [] else [] in
    sym (append-nil new) ∙ reported of s rule.V13 (conflict_cases set pattern) _ [] one new conflict f
    ∙ ap (λ (b : Bool). one ++ map of (broken s (if b then (rule.V13, conflict_cases set pattern) ∷ [] else []))) (sym fill)
    ∙ reported of s rule.V12 (sum_cases set pattern) unfilled rest old one own e

-- a rule with a true reason is among those that do not hold
module _ (s : Subject) (r : Rule) where
  one_broken : (o : Option Reason) (others : List Explained) → is_some o ≡ true → Contains (violations_in (with_reason s r o others)) (record { subject = s; rule = r })
  one_broken None others e = absurd (cc)
  one_broken (Some why) others e = (0, omega arith, refl)

  later : (q : Rule) (o : Option Reason) (others : List Explained) → Contains (violations_in others) (record { subject = s; rule = r }) → Contains (violations_in (with_reason s q o others)) (record { subject = s; rule = r })
  later q None others h = h
  later q (Some why) others h = (suc h.0, omega (arith, h.1), h.2)

  among : (fs : Findings) (cs : Cases Reason) (why : Reason) (i : ℕ) → i < length fs → get_or fs i (r, cs) ≡ (r, cs) → IsTrueIn cs why → Contains (violations_in (broken s fs)) (record { subject = s; rule = r })
  among [] cs why i lt e h = absurd (omega arith)
  among (f ∷ fs) cs why zero lt e h =
      subst (λ (g : Rule × Cases Reason). Contains (violations_in (with_reason s g.0 (first_true g.1) (broken s fs))) (record { subject = s; rule = r })) (sym e) (one_broken (first_true cs) (broken s fs) (true_shows cs why h))
  among (f ∷ fs) cs why (suc i) lt e h = later f.0 (first_true f.1) (broken s fs) (among fs cs why i (omega arith) e h)

pub reason_shows : (set : Rows) (s : Subject) (r : Rule) (why : Reason) → IsReason set s r why → Contains (violations_at set s) (record { subject = s; rule = r })
reason_shows set s r why h = among s r (findings set s) h.cases why h.of_rule.0 h.of_rule.1 h.of_rule.2 h.is_true
