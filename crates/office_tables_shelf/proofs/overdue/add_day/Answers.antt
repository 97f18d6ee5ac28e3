use Rattle.std.proofs.Common.{rules, ◌≡◌, ◌==◌, ◌∙◌, Some, ap, cond, sym}
use Rattle.std.specs.{BTreeMap.is_at, Map.lookup}
use Rattle.cabinet_core.specs.Overdue.{greater}
use Rattle.office_tables_shelf.specs.Overdue.{last_day_in}
use Rattle.office_tables_shelf.proofs.{NumberedMaps.at_number, NumberedMaps.shown_change, TreeLemmas.ranged_cmp}
use Rattle.office_tables_shelf.proofs.overdue.add_day.Goals as goal

pub returns : goal.returns
returns c n =
    let es = c.args.days.now.entries in
    let id = c.args.id in
    let last : lookup (is_at (ranged_cmp id)) es ≡ c.copied-last.result = search rules in
    let kept : last_day_in es id ≡ c.copied-last.result = sym (at_number es id) ∙ last in
    shown_change (λ last. last) es c.insert.new.self.entries id (Some c.later.result) c.in_ok-insert.ensures.updates.0 n
    ∙ ap (λ day. cond (n == id) (Some day) (last_day_in es n))
    (c.later.ensures ∙ ap (greater c.args.day) (sym kept))
