use Rattle.std.proofs.Common.{◌≡◌, ◌∷◌, ◌+◌, drop, sym, ap, ◌∙◌}
use Rattle.std.proofs.lemmas.{Option.IfSome_then, Bool.both_ways, List.drop_more}
use Rattle.office_tables_sql.specs.Version.{version_of}
use Rattle.office_tables.proofs.ForeignLemmas.{version_first, version_later}
use Rattle.office_tables.proofs.foreign.stored_number.Goals as goal

pub returns-then-is_one : goal.returns-then-is_one
returns-then-is_one c =
    let rows = c.args.rows.now in
    let row = c.row-item.result in
    let rest = drop (c.loop-row.row-index + 1) rows in
    let more : drop c.loop-row.row-index rows ≡ row ∷ rest = drop_more rows c.loop-row.row-index row c.loop-row-test.true ∙ ap (λ r. r ∷ rest) (sym c.row-item.is) in
    IfSome_then c.number_of.result c.number_of.ensures (λ n told. sym c.loop-row.invariant ∙ ap version_of more
    ∙ version_first row rest n (sym c.get.ensures ∙ c.is_one.ensures.one c.if-is_one.true) (sym c.get-then-is_one.ensures ∙ told))

pub loop-row-preserved : goal.loop-row-preserved
loop-row-preserved c =
    let rows = c.args.rows.now in
    let row = c.row-item.result in
    let rest = drop (c.loop-row.row-index + 1) rows in
    let more : drop c.loop-row.row-index rows ≡ row ∷ rest = drop_more rows c.loop-row.row-index row c.loop-row-test.true ∙ ap (λ r. r ∷ rest) (sym c.row-item.is) in
    sym (version_later row rest (λ one. c.is_one.ensures.other (λ yes. both_ways _ c.if-is_one.false yes) (c.get.ensures ∙ one)))
    ∙ ap version_of (sym more) ∙ c.loop-row.invariant
