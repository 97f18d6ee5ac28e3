-- What changes leave of a set, key by key, and the draft as the committed set with its rows over it.
use Rattle.std.proofs.Common.{◌≡◌, ◌+◌, true, List, [], ◌∷◌, map, Option, Some, refl, ap, sym, ◌∙◌, arith, add-one}
use Rattle.std.proofs.lemmas.Map.Views.{tells_apart}
use Rattle.std.specs.{List.Contains, Ordering.eq_by_cmp, FinMap.get, FinMap.get-insert, FinMap.get-remove, FinMap.same_map}
use Rattle.signal_records.specs.{declared.key.Key.Key, declared.record.Row.Row, declared.record.Change.Change, declared.record.Change.TheVariants.Put, declared.record.Change.TheVariants.Remove, Key.key_cmp, KeyOrder.key_total, KeyOrder.key_exact, Row.key_of, TimingSet.Rows, TimingSet.after_change, TimingSet.after_changes, ChangedRows.changed_key}
use Rattle.signal_rules.specs.{declared.violation.Violation.Violation, Difference.DiffersAtMost, Violations.violations_of}
use Rattle.draft_core.specs.{declared.timing.Timing.Timing, declared.timing.Reach.Reach, Transaction.TimingSide, Transaction.Draft, Revising.base_from, Revising.base_of}
use Rattle.draft_core.specs.DraftRows.{Said, silent, RowsByKey, RowStands, Stands, said_at, later_of, row_at, overlaid_row}
use Rattle.draft_core.specs.declared.timing.Reach.TheVariants as reach

get-after_change : (set : Rows) (change : Change) (key : Key) → get (after_change set change) key ≡ overlaid_row (get set key) (said_at change key)
get-after_change set (Put row) key = let at = get-insert key_total set (key_of row) row key in grind arith
get-after_change set (Remove k) key = let at = get-remove key_total set k key in grind arith

pub overlaid_row-overlaid_row : (committed : Option Row) (late early : Said)
    → overlaid_row (overlaid_row committed early) late ≡ overlaid_row committed (later_of late early)
overlaid_row-overlaid_row committed late early = grind arith

-- what changes leave of a set, key by key
pub get-after_changes : (changes : List Change) (set : Rows) (key : Key) → get (after_changes set changes) key ≡ overlaid_row (get set key) (row_at changes key)
get-after_changes [] set key = refl
get-after_changes (change ∷ changes) set key =
    get-after_changes changes (after_change set change) key
    ∙ ap (λ o. overlaid_row o (row_at changes key)) (get-after_change set change key)
    ∙ overlaid_row-overlaid_row (get set key) (row_at changes key) (said_at change key)

row_of_base : (held : Option Draft) (committed : Rows) (said : Said) (key : Key)
    → RowStands (get committed key) said held key
    → get (base_from committed held) key ≡ overlaid_row (get committed key) said
row_of_base held committed said key stands = grind arith

-- the draft's row at a key, or the committed one where there is no draft
pub base_row : {reach : Reach} {timing : Timing} {rows : RowsByKey} {side : TimingSide}
    → Stands reach timing rows side → (key : Key)
    → get (base_of side) key ≡ overlaid_row (get side.committed key) (rows key)
base_row {rows = rows} {side = side} stands key =
    row_of_base side.draft side.committed (rows key) key (stands.draft key)

-- the committed set with the draft rows over it is the draft, or the committed set where there is none
pub base_is : {timing : Timing} {rows : RowsByKey} {side : TimingSide}
    → Stands reach.Plan timing rows side
    → after_changes timing.committed timing.delta ≡ base_of side
base_is {timing = timing} {side = side} stands = same_map key_total key_exact _ _ (λ key.
    get-after_changes timing.delta timing.committed key
    ∙ ap (λ set. overlaid_row (get set key) (row_at timing.delta key)) stands.read.1
    ∙ ap (overlaid_row (get side.committed key)) (stands.read.0 key)
    ∙ sym (base_row stands key))

module _ {timing : Timing} {rows : RowsByKey} {side : TimingSide}
    (stands : Stands reach.Plan timing rows side) (draft : Draft)
    (held : side.draft ≡ Some draft) where
  -- the draft is the committed set with the draft rows over it
  pub draft_is : after_changes timing.committed timing.delta ≡ draft.set
  draft_is = base_is stands ∙ ap (base_from side.committed) held

-- what is found in the committed set with changes is what breaks rules in the set that they make, where the committed
-- set has no violation
pub found_in : {timing : Timing} {rows : RowsByKey} {side : TimingSide} → Stands reach.Plan timing rows side
    → (found : List Violation) (changes : List Change) (set : Rows) → violations_of side.committed ≡ []
    → (violations_of timing.committed ≡ [] → found ≡ violations_of (after_changes timing.committed changes))
    → after_changes timing.committed changes ≡ set → found ≡ violations_of set
found_in stands found changes set sound finds same =
    finds (ap violations_of stands.read.1 ∙ sound) ∙ ap violations_of same

pub contains_later : (k key : Key) (keys : List Key) → Contains keys key → Contains (k ∷ keys) key
contains_later k key keys h = (h.0 + 1, omega (arith, h.1), rw add-one h.2)

-- changes say nothing of a key that they do not name
unnamed : (changes : List Change) (key : Key) → ¬ Contains (map changed_key changes) key
    → row_at changes key ≡ silent
unnamed [] key h = refl
unnamed (change ∷ changes) key h =
    let later = unnamed changes key (λ has. h (contains_later (changed_key change) key (map changed_key changes) has)) in
    let apart = λ (same : eq_by_cmp key_cmp key (changed_key change) ≡ true).
    h (0, omega arith, sym (tells_apart key_exact key (changed_key change) same)) in
    grind arith

-- a set differs from what changes make of it at most at the keys that they name
pub differs_at_changed : (changes : List Change) (set : Rows) → DiffersAtMost set (after_changes set changes) (map changed_key changes)
differs_at_changed changes set = λ key absent. get-after_changes changes set key ∙ ap (overlaid_row (get set key)) (unnamed changes key absent)
