use Rattle.std.proofs.Common.{◌+◌, ◌-◌, ◌≡◌, ◌++◌, take, drop, ap, ◌∙◌, length, arith}
use Rattle.std.proofs.lemmas.List.{length-take, length-drop, with_items_is}
use Rattle.std.specs.Prelude.{slice_range}
use borrow.Rule.Slice.PartMut.{put_mid}
use Rattle.office_http_framing.proofs.BufferLemmas.{front_part, read_into, length-put_mid}
use Rattle.office_http_framing.proofs.buffer.Buffer.fill.Goals as goal

pub returns-in-Ok-clause-bytes : goal.returns-in-Ok-clause-bytes
returns-in-Ok-clause-bytes g c =
    let inside = c.self.inside in
    let end = inside.end - inside.start in
    let piece = c.read.new.buf in
    let all = c.deref_mut.result.now in
    let fits : length all - end ≡ length piece = omega (arith, c.read.auto.buf, length-take (length all - end) (drop end all), length-drop end all) in
    let same_len : length (put_mid end (length all - end) all piece) ≡ c.move_to_front.new.bytes.len =
    omega (arith, length-put_mid all piece end (length all - end) fits (omega arith), c.deref_mut.ensures.len) in
    let view : slice_range (put_mid end (length all - end) all piece) 0 (end + c.in-Ok.n) ≡ c.args.self.now ++ take c.in-Ok.n piece =
    front_part (put_mid end (length all - end) all piece) (end + c.in-Ok.n)
    ∙ read_into all piece end c.in-Ok.n (length all - end) fits (omega arith) c.in-Ok.ensures.bound.0
    ∙ ap (λ t. take end t ++ take c.in-Ok.n piece) c.deref_mut.ensures.value
    ∙ ap (λ t. t ++ take c.in-Ok.n piece) (c.move_to_front.ensures.front ∙ c.self.view_is) in (
      take c.in-Ok.n piece,
      omega (arith, length-take c.in-Ok.n piece, c.in-Ok.ensures.bound.0),
      ap (λ t. slice_range t 0 (end + c.in-Ok.n)) (with_items_is c.move_to_front.new.bytes (put_mid end (length all - end) all piece) same_len) ∙ view,
      c.in-Ok.ensures.bytes.0,
    )
