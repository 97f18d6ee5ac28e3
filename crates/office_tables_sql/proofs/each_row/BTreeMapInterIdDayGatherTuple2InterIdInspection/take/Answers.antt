use Rattle.std.proofs.{Common.Some, Common.ap, Common.sym, Common.◌∙◌, lemmas.Result.on_ok_weaker}
use Rattle.cabinet_core.specs.Overdue.{greater, latest_day}
use Rattle.cabinet_core.proofs.OverdueLemmas.{latest_push}
use Rattle.office_tables_shelf.specs.{CabinetReads.of_one, Overdue.last_day_in}
use Rattle.office_tables_sql.proofs.Walks.{known_after}
use Rattle.office_tables_sql.proofs.each_row.BTreeMapInterIdDayGatherTuple2InterIdInspection.take.Goals as goal

pub returns : goal.returns
returns c =
    let id = c.args.next.0 in
    let found = c.args.next.1 in
    on_ok_weaker c.add_day.result (λ updates records same.
    known_after latest_day records c.args.next _ (last_day_in c.args.self.now.entries)
    (last_day_in c.add_day.new.days.entries) same
    (ap (λ last. Some (greater found.day last)) (same id) ∙ sym (latest_push (of_one id records) found))
    updates) c.add_day.ensures
