use Rattle.std.proofs.Common.{◌≡◌, map, drop}
use Rattle.std.specs.Prelude.{codes}
use Rattle.httparse.specs.Spans.{header_bytes}
use Rattle.office_http_framing.specs.Fields.{values_named, length_among}
use Rattle.office_http_framing.proofs.FieldLemmas.{length_from}
use Rattle.office_http_framing.proofs.fields.length_among.Given as goal

abbrev pub invariant-loop-field : goal.invariant-loop-field
invariant-loop-field l =
    length_from l.length (values_named (codes "content-length") (map (header_bytes l.bytes) (drop l.field-index l.fields)))
    ≡ length_among (values_named (codes "content-length") (map (header_bytes l.bytes) l.fields))
