use Rattle.std.proofs.Common.{ap, arith, length, drop, ◌-◌, sym, ◌∙◌}
use Rattle.std.proofs.lemmas.List.{drop-map, length-drop, take_all}
use Rattle.signal_records.specs.Reading.{texts}
use Rattle.signal_office_faults.specs.Padded.{are_blank}
use Rattle.signal_office_faults.proofs.width.are_blank_after.Goals as goal

pub returns-then-width-fields : goal.returns-then-width-fields
returns-then-width-fields c =
    let fields = c.args.fields.now in
    let width = c.args.width in
    let rest = take_all (length fields - width) (drop width fields) (omega (arith, length-drop width fields)) in
    c.are_blank.ensures ∙ ap (λ fs. are_blank (texts fs)) rest ∙ ap are_blank (sym (drop-map (λ field. field.now) width fields))
