use Rattle.std.proofs.Common.{◌≡◌, map, drop}
use Rattle.std.specs.{Prelude.codes, List.list_any}
use Rattle.httparse.specs.Spans.{header_bytes}
use Rattle.office_http_framing.specs.Fields.{is_named}
use Rattle.office_http_framing.proofs.fields.has_transfer_encoding.Given as goal

abbrev pub invariant-loop-field : goal.invariant-loop-field
invariant-loop-field l =
    list_any (is_named (codes "transfer-encoding")) (map (header_bytes l.bytes) (drop l.field-index l.fields))
    ≡ list_any (is_named (codes "transfer-encoding")) (map (header_bytes l.bytes) l.fields)
