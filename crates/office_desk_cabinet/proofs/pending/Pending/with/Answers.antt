use Rattle.std.proofs.Common.{◌∙◌, ◌++◌, ap, sym}
use Rattle.office_tables_shelf.specs.{Change.changed_by, Content.no_content}
use Rattle.office_desk_cabinet.proofs.PendingLemmas.{changed_append}
use Rattle.office_desk_cabinet.proofs.pending.Pending.with.Goals as goal

pub invariant_of-result : goal.invariant_of-result
invariant_of-result c =
    let before = c.self.inside.changes.items in
    c.in_ok-make_changes.ensures ∙ ap (λ tables. changed_by tables c.as_slice.result.now) c.self.invariant
    ∙ sym (changed_append no_content before c.as_slice.result.now)
    ∙ ap (λ list. changed_by no_content (before ++ list)) c.as_slice.ensures.value
    ∙ ap (changed_by no_content) (sym c.in_ok-append.ensures.items)
