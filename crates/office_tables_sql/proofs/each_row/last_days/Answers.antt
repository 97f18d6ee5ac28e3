use Rattle.std.proofs.Common.{[], ◌∷◌, pos}
use Rattle.office_tables_shelf.proofs.CabinetLemmas.{of_number}
use Rattle.office_tables_shelf.specs.{CabinetReads.of_one, CabinetRows.inspection_key, CabinetRows.inspection_columns, Cells.number}
use Rattle.cabinet_core.specs.Within.{IsInspectionWithin}
use Rattle.office_tables_sql.proofs.Walks.{gives_of, lists_one, none_damaged, within_one}
use Rattle.office_tables_sql.proofs.each_row.last_days.Goals as goal

pub returns-clause-days : goal.returns-clause-days
returns-clause-days g c = gives_of c.gather_rows.result c.gather_rows.ensures _ (λ tables days found id. record {
  inspections = of_one id found.records;
  lists = lists_one (λ id x. inspection_key id x.number) inspection_columns (λ id n x. of_number id n (number (pos x.number) ∷ [])) tables.inspection found.records found.lists id;
  within = within_one IsInspectionWithin found.records found.within id;
  latest = found.held id;
})

pub returns-clause-whole : goal.returns-clause-whole
returns-clause-whole g c = none_damaged c.gather_rows.result c.gather_rows.ensures
