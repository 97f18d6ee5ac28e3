use Rattle.std.proofs.Common.{◌-◌, drop, ap, ◌∙◌, length, arith}
use Rattle.std.proofs.lemmas.List.{length-take}
use Rattle.office_http_framing.proofs.BufferLemmas.{later_part}
use Rattle.office_http_framing.proofs.buffer.Buffer.consume.Goals as goal

pub returns : goal.returns
returns c =
    let inside = c.self.inside in
    later_part inside.bytes.items inside.start inside.end c.args.len
    (omega (arith, ap length c.self.view_is, length-take (inside.end - inside.start) (drop inside.start inside.bytes.items)))
    ∙ ap (drop c.args.len) c.self.view_is
