-- How the list of overdue intersections grows row by row, until enough are found or all were seen.
use Rattle.std.proofs.Common.{◌≡◌, ◌<◌, ◌≤◌, ◌+◌, ◌++◌, ℕ, List, [], ◌∷◌, map, length, get_or, take, drop, Option, ap, sym, ◌∙◌, arith, length-append}
use Rattle.std.proofs.{Math.Seq.take-append_seam, lemmas.List.take_more, lemmas.List.take_all, lemmas.List.take-append-drop, lemmas.List.length-map, lemmas.List.Elements.filter_map-append}
use Rattle.std.specs.{List.cons_option}
use Rattle.cabinet_core.specs.Overdue.{Listed, listed_of, lateness, overdue_list}
use Rattle.cabinet_core.specs.{declared.overdue_inspections.OverdueRow.OverdueRow, declared.overdue_inspections.Seen.Seen}

-- ---- the list so far

so_many : (late : Option Listed) → length (cons_option late []) ≤ 1
so_many late = grind arith

-- the row of the next intersection comes last
pub overdue_more : (day : ℕ) (seen : List Seen) (i : ℕ) (next : Seen) (old new : List OverdueRow) → i < length seen → next ≡ get_or seen i next → map listed_of old ≡ overdue_list day (take i seen)
    → map listed_of new ≡ map listed_of old ++ overdue_list day (next ∷ []) → map listed_of new ≡ overdue_list day (take (i + 1) seen)
overdue_more day seen i next old new low at so_far added =
    let more : take (i + 1) seen ≡ take i seen ++ next ∷ [] = take_more seen i next low ∙ ap (λ one. take i seen ++ one ∷ []) (sym at) in
    added ∙ ap (λ rows. rows ++ overdue_list day (next ∷ [])) so_far ∙ sym (filter_map-append (lateness day) (take i seen) (next ∷ [])) ∙ sym (ap (overdue_list day) more)

-- and there are no more than were asked for
pub still_short : (day most : ℕ) (next : Seen) (old new : List OverdueRow) → length old < most → map listed_of new ≡ map listed_of old ++ overdue_list day (next ∷ []) → length new ≤ most
still_short day most next old new short added =
    let one = so_many (lateness day next) in
    let sum : length new ≡ length old + length (overdue_list day (next ∷ [])) =
    sym (length-map new listed_of) ∙ ap length added ∙ length-append (map listed_of old) (overdue_list day (next ∷ [])) ∙ ap (λ n. n + length (overdue_list day (next ∷ []))) (length-map old listed_of) in
    omega arith

-- ---- the list at its end

-- as many were found as were asked for
pub enough_found : (day most i : ℕ) (seen : List Seen) (found : List OverdueRow) → map listed_of found ≡ overdue_list day (take i seen) → length found ≡ most → map listed_of found ≡ take most (overdue_list day seen)
enough_found day most i seen found so_far enough =
    let rest = overdue_list day (drop i seen) in
    let whole : overdue_list day seen ≡ map listed_of found ++ rest =
    ap (overdue_list day) (sym (take-append-drop i seen)) ∙ filter_map-append (lateness day) (take i seen) (drop i seen) ∙ ap (λ rows. rows ++ rest) (sym so_far) in
    sym (ap (take most) whole ∙ ap (λ n. take n (map listed_of found ++ rest)) (sym (length-map found listed_of ∙ enough)) ∙ take-append_seam (map listed_of found) rest)

-- all were seen
pub all_found : (day most i : ℕ) (seen : List Seen) (found : List OverdueRow) → map listed_of found ≡ overdue_list day (take i seen) → length seen ≤ i → length found ≤ most → map listed_of found ≡ take most (overdue_list day seen)
all_found day most i seen found so_far all short =
    let same : map listed_of found ≡ overdue_list day seen = so_far ∙ ap (overdue_list day) (take_all i seen all) in
    let count = length-map found listed_of in
    sym (take_all most (map listed_of found) (omega arith)) ∙ ap (take most) same
