use Rattle.std.proofs.Common.{rules, ◌≡◌, ◌++◌, ◌∙◌, [], ◌∷◌, ap, arith, map, sym, get_or}
use Rattle.std.proofs.lemmas.List.{get_or-map, length-map}
use Rattle.std.specs.{BTreeMap.is_at, Map.lookup}
use Rattle.cabinet_core.specs.{Overdue.listed_of, Overdue.overdue_list}
use Rattle.office_tables_shelf.specs.Overdue.{seen_on, seen_row}
use Rattle.office_tables_shelf.proofs.{NumberedMaps.at_number, TreeLemmas.ranged_cmp, overdue.overdue_among.Goals.else-loop-id-test, overdue.overdue_among.Goals.then-loop-id-test+then-len-most}
use Rattle.office_tables_shelf.proofs.OverdueLemmas.{all_found, enough_found, overdue_more, still_short}
use Rattle.office_tables_shelf.proofs.overdue.overdue_among.Goals as goal

pub loop-id-preserved : goal.loop-id-preserved
loop-id-preserved c =
    let days = c.args.days.now.entries in
    let rows = c.args.rows.now in
    let seen = map (seen_on days) rows in
    let e = c.loop-id-item.result in
    let next = seen_row e.0 e.1 c.copied-last.result in
    let old = c.loop-id.found.items in
    let new = c.add_overdue.new.found.items in
    let added : map listed_of new ≡ map listed_of old ++ overdue_list c.args.day (next ∷ []) =
    c.in_ok-add_overdue.ensures in
    let last : lookup (is_at (ranged_cmp e.0)) days ≡ c.copied-last.result = search rules in
    let count = length-map rows (seen_on days) in
    let at : next ≡ get_or seen c.loop-id.id-index next =
    ap (seen_row e.0 e.1) (sym last ∙ at_number days e.0) ∙ ap (seen_on days) c.loop-id-item.is
    ∙ sym (get_or-map (seen_on days) rows c.loop-id.id-index e next c.loop-id-test.true) in (
      overdue_more c.args.day seen c.loop-id.id-index next old new (omega arith) at c.loop-id.invariant.0 added,
      still_short c.args.day c.args.most next old new (omega arith) added,
    )

pub returns : goal.returns
returns c =
    let seen = map (seen_on c.args.days.now.entries) c.args.rows.now in
    let found = c.loop-id.found.items in
    let count = length-map c.args.rows.now (seen_on c.args.days.now.entries) in
    elim c.loop-id-test.branch [
      | else-loop-id-test w ↦ all_found c.args.day c.args.most c.loop-id.id-index seen found c.loop-id.invariant.0 (omega arith) c.loop-id.invariant.1
      | then-loop-id-test+then-len-most w ↦ enough_found c.args.day c.args.most c.loop-id.id-index seen found c.loop-id.invariant.0 (omega arith)
    ]
