-- The rows of a set, put one after the other, make the set of the empty one.
use Rattle.std.proofs.Common.{◌≡◌, cond, T, List, [], ◌∷◌, Option, Some, None, Result, Ok, Err, map, refl, sym, ap, ◌∙◌}
use Rattle.std.specs.declared.cmp.Ordering.{Ordering, TheVariants.Equal}
use Rattle.std.specs.{Ordering.is_eq, Ordering.eq_by_cmp, Prelude.OnOk}
use Rattle.std.specs.FinMap.{get, insert, find, entries, empty, entries_sorted, get-entries, get-insert, get-empty, same_map}
use Rattle.std.specs.FinMap.Entries.{below_all, is_sorted}
use Rattle.signal_records.specs.declared.{key.Key.Key, record.Row.Row, record.Change.Change}
use Rattle.signal_records.specs.{declared.record.Change.TheVariants.Put, Key.key_cmp, Row.key_of, KeyOrder.key_total, KeyOrder.key_exact}
use Rattle.signal_records.specs.TimingSet.{Rows, AreKeyed, after_changes}
use Rattle.signal_records.proofs.Sets.{not_found}
use Rattle.signal_values.proofs.Ties.{parts}
use Rattle.office_files.specs.Timing.{puts_of}

-- the first of two, or else the second
abbrev or_else : Option Row → Option Row → Option Row
or_else None other = other
or_else (Some row) other = Some row

-- putting a row first or last is the same where its key isn't among the others
first_or_last : (o : Ordering) (row : Row) (found there : Option Row) → (o ≡ Equal → found ≡ None) → or_else found (cond (is_eq o) (Some row) there) ≡ or_else (cond (is_eq o) (Some row) found) there
first_or_last Equal row found there h = rw (h refl) refl
first_or_last _ row found there h = refl

abbrev changes_of_entries : List (Key × Row) → List Change
changes_of_entries es = map Put (map (λ e. e.1) es)

found_after : (es : List (Key × Row)) (set : Rows) (q : Key) → AreKeyed es → T (is_sorted key_cmp es) → get (after_changes set (changes_of_entries es)) q ≡ or_else (find key_cmp q es) (get set q)
found_after [] set q keyed sorted = refl
found_after (e ∷ es) set q keyed sorted =
    let order = parts (below_all key_cmp e.0 es) (is_sorted key_cmp es) sorted in
    let found = find key_cmp q es in
    let rest = found_after es (insert set (key_of e.1) e.1) q keyed.1 order.1 in
    let put = get-insert key_total set (key_of e.1) e.1 q ∙ ap (λ k. cond (eq_by_cmp key_cmp q k) (Some e.1) (get set q)) keyed.0 in
    rest ∙ ap (or_else found) put ∙ first_or_last (key_cmp q e.0) e.1 found (get set q) (λ is. rw (key_exact q e.0 is) (not_found e.0 es order.0))

or_else_none : (found : Option Row) → or_else found None ≡ found
or_else_none None = refl
or_else_none (Some row) = refl

restored : (set : Rows) → AreKeyed (entries set) → after_changes empty (puts_of set) ≡ set
restored set keyed = same_map key_total key_exact _ _ (λ q.
    found_after (entries set) empty q keyed (entries_sorted set) ∙ ap (or_else (find key_cmp q (entries set))) (get-empty {X = Row} key_cmp q)
    ∙ or_else_none (find key_cmp q (entries set)) ∙ sym (get-entries set q))

-- the law of a result
pub given_restored : {V E : Type 0} (result : Result V E) (set : Rows) → AreKeyed (entries set) → OnOk result (after_changes empty (puts_of set) ≡ set)
given_restored (Ok v) set keyed = restored set keyed
given_restored (Err e) set keyed = tt
