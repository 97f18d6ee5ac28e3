-- What the table of draft rows has at a key, as the changes of a list say it.
use Rattle.std.proofs.Common.{◌≡◌, inl, inr, ℕ, List, [], ◌∷◌, map, Option, None, Some, option_map, refl, sym, ap, ◌∙◌}
use Rattle.std.proofs.lemmas.Bool.{cases_Bool}
use Rattle.std.specs.{FinMap.get, List.Sorted.IsStrictlySortedBy, Ordering.eq_by_cmp}
use Rattle.signal_records.specs.{Key.key_cmp, declared.key.Key.Key, declared.record.Change.Change, declared.record.Change.TheVariants.Put, declared.record.Change.TheVariants.Remove, ChangedRows.changed_key}
use Rattle.draft_core.specs.DraftRows.{Said, silent, leaves, removes, said_by, later_of, row_at}
use Rattle.office_tables_shelf.specs.{Content.Content, Rows.timing_key, Rows.draft_columns, Shelf.ListsDraft}
use Rattle.office_tables_shelf.proofs.CellLemmas.{tied}
use Rattle.office_tables_shelf.proofs.KeyLemmas.{first_at, none_above, get_listed, draft_keys_rise}
use Rattle.office_tables_decisions.specs.StandFor.{said_columns}

-- what a change says of its key, where there is one
abbrev any_said : Option Change → Said
any_said None = silent
any_said (Some change) = said_by change

alone : (said : Said) → later_of said silent ≡ said
alone silent = refl
alone (leaves row) = refl
alone removes = refl

-- where each key is named once, the last change that names it is the first
pub row_at_first : (changes : List Change) → IsStrictlySortedBy key_cmp (map changed_key changes)
    → (key : Key) → row_at changes key ≡ any_said (first_at changed_key changes key)
unfolding IsStrictlySortedBy
row_at_first [] rise key = refl
row_at_first (change ∷ changes) rise key =
    let later = row_at_first changes rise.1 key in
    elim (cases_Bool (eq_by_cmp key_cmp key (changed_key change))) [
      | inl hit ↦ rw (later, hit, none_above changed_key draft_columns 0 change changes key rise.0 (tied _ hit))
      | inr miss ↦ rw (miss, later) (alone (any_said (first_at changed_key changes key)))
    ]

stored_said : (o : Option Change) → option_map draft_columns o ≡ said_columns (any_said o)
stored_said None = refl
stored_said (Some (Put row)) = refl
stored_said (Some (Remove k)) = refl

-- the table of draft rows has at a key what the changes of the list say of it
pub get_listed_draft : (tables : Content) (id : ℕ) (changes : List Change)
    → ListsDraft tables id changes → (key : Key) → get tables.draft
    (timing_key id key) ≡ said_columns (row_at changes key)
get_listed_draft tables id changes lists key =
    get_listed changed_key draft_columns id tables.draft changes lists key
    ∙ stored_said (first_at changed_key changes key)
    ∙ ap said_columns (sym (row_at_first changes (draft_keys_rise tables id changes lists) key))
