use Rattle.std.proofs.Common.{◌∙◌, refl, sym, ap}
use Rattle.cabinet_core.specs.Overdue.{latest_day}
use Rattle.office_tables_shelf.specs.{Overdue.last_day_in, declared.rows.Table.TheVariants.Inspection}
use Rattle.office_tables_maps.specs.{Keys.record_laws, Records.inspection_stored}
use Rattle.office_tables_maps.proofs.{UnderLemmas.all_under, UnderLemmas.records_of, UnderLemmas.whole, WalkLemmas.latest_with, WalkLemmas.latest_with_none}
use Rattle.office_tables_maps.proofs.maps.Maps.last_days.Goals as goal

pub returns-clause-days : goal.returns-clause-days
returns-clause-days c = λ id.
    let es = c.self.inside.inspection.entries in
    let last = last_day_in c.loop-place.days.entries id in
    let under = all_under record_laws inspection_stored (λ _ _. refl) id es
    c.into_iter-place-iterator.ensures.into_iter_gives.5 c.self.invariant.inspections in
    rw (← c.self.view_is) record {
      inspections = records_of id es;
      lists = under.0;
      within = under.1;
      latest = sym (latest_with_none last)
          ∙ ap (λ rest. latest_with last (latest_day (records_of id rest)))
          (sym c.in-None.ensures.steps.0) ∙ c.loop-place.invariant id
          ∙ ap (λ all. latest_day (records_of id all)) c.into_iter-place-iterator.ensures.into_iter_gives.0;
    }

pub returns-clause-whole : goal.returns-clause-whole
returns-clause-whole c =
    rw (← c.self.view_is) (whole record_laws inspection_stored (λ _ _. refl) Inspection _
    c.self.inside.inspection.entries refl c.into_iter-place-iterator.ensures.into_iter_gives.5
    c.self.invariant.inspections)
