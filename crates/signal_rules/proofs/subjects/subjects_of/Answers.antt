use Rattle.std.proofs.Common.{[], ◌++◌, map, sym, ap, ◌∙◌}
use Rattle.std.specs.List.{flat_map, list_all}
use Rattle.signal_rules.specs.declared.violation.Subject.TheVariants as subject
use Rattle.signal_rules.specs.RowWalk.{of_kind, sequences_after, is_within}
use Rattle.signal_rules.proofs.{RowNumbers.AreRowsOf, RowWalk.subjects_walked}
use Rattle.signal_rules.proofs.subjects.subjects_of.Goals as goal

pub returns : goal.returns
returns c =
    let rows = c.in_ok-rows.rows.items in
    let of : AreRowsOf c.args.set.now rows = record {
      are = c.in_ok-rows.ensures.rows;
      stand = c.in_ok-rows.ensures.keyed;
      within = ap (list_all is_within) (sym c.deref.ensures.value) ∙ c.read_numbers.ensures;
    } in
    subjects_walked c.args.set.now rows of c.add_kind.new.subjects.items c.add_sequences.new.subjects.items c.add_kind-2.new.subjects.items c.add_kind-3.new.subjects.items
    (c.in_ok-add_kind.ensures ∙ ap (λ l. l ++ flat_map (of_kind 1) c.deref-2.result.now) c.new-subjects.ensures.items ∙ ap (λ rs. [] ++ flat_map (of_kind 1) rs) c.deref-2.ensures.value)
    (c.in_ok-add_sequences.ensures ∙ ap (λ rs. c.add_kind.new.subjects.items ++ map (λ n. subject.Seq n) (sequences_after 0 rs)) c.deref-3.ensures.value)
    (c.in_ok-add_kind-2.ensures ∙ ap (λ rs. c.add_sequences.new.subjects.items ++ flat_map (of_kind 3) rs) c.deref-4.ensures.value)
    (c.in_ok-add_kind-3.ensures ∙ ap (λ rs. c.add_kind-2.new.subjects.items ++ flat_map (of_kind 4) rs) c.deref-5.ensures.value)
