use Rattle.std.proofs.Common.{◌+◌, map, drop, sym, ap, ◌∙◌}
use Rattle.std.specs.Prelude.{codes}
use Rattle.httparse.specs.Spans.{header_bytes}
use Rattle.office_http_framing.specs.Fields.{values_named, length_of}
use Rattle.office_http_framing.proofs.FieldLemmas.{length_from, length_from-first, length_from-second, values_named-here, values_named-passed}
use Rattle.office_http_framing.proofs.fields.length_among.Goals as goal
use Rattle.office_http_framing.proofs.fields.length_among.Goals.{then-eq_ignore_case+else-is_some, else-eq_ignore_case}

pub returns-then-is_some : goal.returns-then-is_some
returns-then-is_some c =
    let here = values_named-here (header_bytes c.args.bytes.now) (codes "content-length") c.args.fields.now c.loop-field.field-index _ _ c.loop-field-test.true c.of.ensures (sym c.if-eq_ignore_case.ensures) in
    sym (length_from-second c.loop-field.length _ _ (sym c.if-is_some.ensures)) ∙ ap (length_from c.loop-field.length) (sym here) ∙ c.loop-field.invariant

pub loop-field-preserved : goal.loop-field-preserved
loop-field-preserved c =
    elim c.if-eq_ignore_case.branch [
      | then-eq_ignore_case+else-is_some w ↦
          let here = values_named-here (header_bytes c.args.bytes.now) (codes "content-length") c.args.fields.now c.loop-field.field-index _ _ c.loop-field-test.true c.of.ensures (sym w.if-eq_ignore_case.ensures) in
          let rest = values_named (codes "content-length") (map (header_bytes c.args.bytes.now) (drop (c.loop-field.field-index + 1) c.args.fields.now)) in
          ap (λ length. length_from length rest) w.length-is
          ∙ length_from-first c.loop-field.length _ _ _ rest (sym w.if-is_some.ensures) here (w.length_of.ensures ∙ ap length_of w.of-then-eq_ignore_case.ensures)
          ∙ c.loop-field.invariant
      | else-eq_ignore_case w ↦
          let passed = values_named-passed (header_bytes c.args.bytes.now) (codes "content-length") c.args.fields.now c.loop-field.field-index _ _ c.loop-field-test.true c.of.ensures (sym w.if-eq_ignore_case.ensures) in
          ap (λ length. length_from length (values_named (codes "content-length") (map (header_bytes c.args.bytes.now) (drop (c.loop-field.field-index + 1) c.args.fields.now)))) w.length-is
          ∙ ap (length_from c.loop-field.length) (sym passed) ∙ c.loop-field.invariant
    ]
