use Rattle.std.proofs.Common.{◌≡◌, true, List, ℕ, map, subst, subst₂, ap, sym, ◌∙◌}
use Rattle.sqlite.specs.{Order.column, Values.bound, Values.bound_value}
use Rattle.sqlite_schema.specs.declared.schema.Column.{Column}
use Rattle.office_tables_statements.specs.{Stored.are_sound, Stored.cells_at, Tables.suit}
use Rattle.office_tables.proofs.RefillLemmas.{put_stored}
use Rattle.office_tables.proofs.refill.put_row.Goals as goal

pub returns-clause-put : goal.returns-clause-put
returns-clause-put g c clean ready =
    let row = c.args.row.now in
    put_stored c.args.table row
    (subst (λ (places : List ℕ). are_sound places row ≡ true) c.keys_of.ensures (sym c.are_told.ensures ∙ c.if-not-are_told.false))
    (subst₂ (λ (columns : List Column) (places : List ℕ). suit columns (cells_at places row) ≡ true) c.columns_of.ensures c.places_of-places.ensures (c.suit.ensures c.if-not-suit.false))
    _ c.insert_of.ensures _
    (ap bound c.as_slice.ensures.value ∙ c.in_ok-values.ensures ∙ ap (map (λ (p : ℕ). bound_value (column row p))) c.places_of-places.ensures)
    _ _ _ ready (c.in_ok-write.ensures.ran clean)
