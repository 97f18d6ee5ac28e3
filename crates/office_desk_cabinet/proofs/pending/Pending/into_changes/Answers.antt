use Rattle.std.proofs.Common.{◌≡◌, ◌++◌, ◌∙◌, [], ap, arith, length, filter, map, rules, subst, subst₂, sym}
use Rattle.std.proofs.lemmas.{Bool.Decides.nat_tests, Fn.filter_same, List.nil_from_length}
use Rattle.office_tables_shelf.specs.{CabinetReads.ListsParts, Change.changed_by, Content.Content, Content.no_content}
use Rattle.office_desk_cabinet.specs.Pending.{ComesTo, is_other, part_row}
use Rattle.office_desk_cabinet.proofs.PendingLemmas.{comes_to, none_come}
use Rattle.office_desk_cabinet.proofs.pending.Pending.into_changes.Goals as goal

pub returns-then-is_empty : goal.returns-then-is_empty
returns-then-is_empty c =
    let viewed : c.self.inside.changes.items ≡ c.args.self = search rules in
    let empty : length c.as_slice.result.now ≡ 0 = grind (arith, nat_tests) in
    let none = sym c.as_slice.ensures.value ∙ nil_from_length _ empty in
    record { comes = subst₂ ComesTo (sym none ∙ viewed) (sym none) none_come; none = λ is. none }

pub returns-clause-none : goal.returns-clause-none
returns-clause-none c = λ is.
    let viewed : c.self.inside.changes.items ≡ c.args.self = search rules in
    let empty : c.self.inside.changes.items ≡ [] = viewed ∙ is in
    absurd (search rules)

pub returns-clause-comes : goal.returns-clause-comes
returns-clause-comes c =
    let viewed : c.self.inside.changes.items ≡ c.args.self = search rules in
    let parts = c.in_ok-parts.field-0.items in
    let first : c.in_ok-rows.rows.items ≡ map part_row parts = search rules in
    let kept = filter_same _ is_other _ (λ x b f' k. search rules) _ _ c.retain.ensures.filtered ∙ ap (filter is_other) viewed in
    subst (ComesTo c.args.self) (sym (c.in_ok-append.ensures.items ∙ (λ i. first i ++ kept i))) (comes_to c.args.self parts
    (subst (λ (tables : Content). ListsParts tables parts) (c.self.invariant ∙ ap (changed_by no_content) viewed) c.in_ok-parts.ensures))
