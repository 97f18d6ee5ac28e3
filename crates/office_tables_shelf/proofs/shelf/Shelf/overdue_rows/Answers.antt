use Rattle.std.proofs.Common.{◌∙◌, ℕ, List, ap, map, subst, take, ⊎_elim}
use Rattle.cabinet_core.specs.Overdue.{overdue_list}
use Rattle.office_tables_shelf.specs.{Overdue.seen_on, Shelf.ListsIntersections, declared.rows.IntersectionRow.IntersectionRow}
use Rattle.office_tables_shelf.proofs.ListedRows.{intersections_whole}
use Rattle.office_tables_shelf.proofs.shelf.Shelf.overdue_rows.Goals as goal

pub returns-clause-rows : goal.returns-clause-rows
returns-clause-rows g c = λ honest.
    let days = c.in_ok-days.days.entries in
    let rows = c.in_ok-rows.rows.items in
    let before = c.intersections.ensures.read.kept.honest_before honest in
    record {
      rows = rows;
      days = days;
      lists = subst (λ t. ListsIntersections t rows)
          (c.last_inspections.ensures.read.kept.same_content before)
          (c.in_ok-rows.ensures.lists.rows honest);
      last = c.in_ok-days.ensures.days before;
      first = c.in_ok-found.ensures
          ∙ ap (λ (rs : List (ℕ × IntersectionRow)). take c.args.most
          (overdue_list c.args.day (map (seen_on days) rs))) c.as_slice.ensures.value;
    }

pub returns-clause-whole : goal.returns-clause-whole
returns-clause-whole g c = λ honest.
    let rows = c.in_ok-rows.rows.items in
    let before = c.intersections.ensures.read.kept.honest_before honest in
    let same = c.last_inspections.ensures.read.kept.same_content before in
    ⊎_elim (intersections_whole (g.Self.Shelf.content c.args.self.now) rows
    (subst (λ t. ListsIntersections t rows) same (c.in_ok-rows.ensures.lists.rows honest))
    (c.in_ok-rows.ensures.lists.within honest)) (c.in_ok-days.ensures.whole before)
