-- The intersections that were read, and what is known of their inspections, are those of the office.
use Rattle.std.proofs.Common.{◌≡◌, ◌<◌, ℕ, List, [], ◌∷◌, map, length, take, refl, ap, ◌∙◌, arith}
use Rattle.std.proofs.lemmas.List.{length-map, length-take, take_all}
use Rattle.std.specs.FinMap.{entries}
use Rattle.cabinet_core.specs.Overdue.{Listed, latest_day, listed_of, overdue_list}
use Rattle.cabinet_core.specs.Register.{Register}
use Rattle.cabinet_core.specs.declared.{overdue_inspections.OverdueRow.OverdueRow, overdue_inspections.Seen.Seen}
use Rattle.office_tables_shelf.specs.Overdue.{ListsOverdue, ReadsLast, last_day_in, seen_on, seen_row}
use Rattle.office_tables_shelf.specs.{Content.Content, declared.rows.IntersectionRow.IntersectionRow, RegisterStands.RegisterStandsSound}
use Rattle.office_desk_cabinet.proofs.ListedRecords.{inspections_listed}
use Rattle.office_machine.specs.{Office.Office, Step.answered, Step.overdue_on, Step.seen_of}
use Rattle.office_desk.specs.StandFor.{StandForSound, row_of}
use Rattle.office_machine.specs.declared.command.Command.TheVariants as command
use Rattle.office_machine.specs.declared.reply.Reply.TheVariants as reply
use Rattle.office_desk_timing.proofs.{IntersectionTable.Entry, IntersectionTable.of_entry, IntersectionTable.rows_read}
use Rattle.office_desk.proofs.Recorded.{register_of}

-- ---- what is seen of each is what the office knows

seen_entries : (tables : Content) (r : Register) (days : List (ℕ × ℕ)) → RegisterStandsSound tables r
    → ((id : ℕ) → ReadsLast tables id (last_day_in days id)) → (es : List Entry)
    → map (seen_on days) (map of_entry es) ≡ map (seen_of r) es
seen_entries tables r days stands last [] = refl
seen_entries tables r days stands last (e ∷ es) =
    let read = last e.0 in
    let here : seen_on days (of_entry e) ≡ seen_of r e =
    ap (seen_row e.0 (row_of e.1)) (read.latest
    ∙ ap latest_day (inspections_listed tables r e.0 read.inspections stands read.lists)) in
    λ i. here i ∷ seen_entries tables r days stands last es i

-- the first rows of the query
pub first_overdue : (tables : Content) (office : Office) (day most : ℕ) (found : List OverdueRow)
    → StandForSound tables office → ListsOverdue tables day most found
    → map listed_of found ≡ take most (overdue_on office day)
first_overdue tables office day most found stands it =
    let es = entries office.intersections in
    let read : it.rows ≡ map of_entry es = rows_read tables office stands.stand it.rows it.lists in
    let known = register_of tables office stands in
    it.first ∙ ap (λ (seen : List Seen). take most (overdue_list day seen))
    (ap (λ (rows : List (ℕ × IntersectionRow)). map (seen_on it.days) rows) read
    ∙ seen_entries tables office.register it.days known it.last es)

-- ---- the query

-- where fewer are listed than are asked for, all are
pub overdue_shows : (tables : Content) (office : Office) (day most : ℕ) (found : List OverdueRow)
    → StandForSound tables office → ListsOverdue tables day most found → length found < most
    → answered office (command.Overdue day) ≡ (reply.Overdue (map listed_of found), office)
overdue_shows tables office day most found stands lists few =
    let late = overdue_on office day in
    let first : map listed_of found ≡ take most late = first_overdue tables office day most found stands lists in
    rw (first, take_all most late (omega (arith, few, ap (length {A = Listed}) first, length-map found listed_of, length-take most late)))
