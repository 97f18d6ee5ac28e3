-- Columns that no record within its limits shows.
use Rattle.std.proofs.Common.{◌≡◌, ◌≢◌, ℕ, List, [], ◌∷◌, Option, None, Some, IfSome, ap, sym, ◌∙◌}
use Rattle.signal_values.specs.Words.{AreWords}
use Rattle.signal_records.specs.{Row.key_of, Within.IsChangeWithin, Within.IsRowWithin, Within.current_limits, declared.state.Holder.Holder, declared.record.Row.Row, declared.record.Change.Change, declared.record.Change.TheVariants.Put, declared.record.Change.TheVariants.Remove}
use Rattle.cabinet_core.specs.{Within.IsClosingWithin, declared.record.Closing.Closing}
use Rattle.office_tables_shelf.specs.{Cells.Cell, Cells.text, CabinetRows.closer_cell}
use Rattle.office_tables_shelf.specs.Rows.{body_in, owner_cell, timing_key, timing_columns, draft_key, draft_columns}
use Rattle.office_tables_statements.specs.Stored.{text_or_null}
use Rattle.office_tables_statements.proofs.BodyReading.{same_stored}

module _ (cell : Cell) where
  module _ (never : (words : Option (List ℕ)) → IfSome words (AreWords 40) → cell ≢ text_or_null words) where
    pub no_owner : (holder : Option Holder) → IfSome holder (λ h. AreWords 40 h.owner) → cell ≢ owner_cell holder
    no_owner None within = never None tt
    no_owner (Some holder) within = never (Some holder.owner) within

    pub no_closer : (closing : Option Closing) → IfSome closing IsClosingWithin → cell ≢ closer_cell closing
    no_closer None within = never None tt
    no_closer (Some closing) within = never (Some closing.closer) within.closer

  module _ (key : List Cell) (id : ℕ) (found : Row) (body : cell ≡ text (body_in current_limits found)) (limits : IsRowWithin current_limits found)
      (other : key ≢ timing_key id (key_of found)) where
    pub no_row : (row : Row) → IsRowWithin current_limits row → key ≡ timing_key id (key_of row) → cell ∷ [] ≢ timing_columns row
    no_row row within same columns = other (same ∙ ap (λ r. timing_key id (key_of r)) (same_stored cell row found within limits columns body))

    pub no_change : (change : Change) → IsChangeWithin current_limits change → key ≡ draft_key id change → cell ∷ [] ≢ draft_columns change
    no_change (Put row) within same columns = no_row row within same columns
    no_change (Remove removed) within same columns = absurd cc
