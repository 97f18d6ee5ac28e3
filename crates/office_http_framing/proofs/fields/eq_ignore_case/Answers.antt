use Rattle.std.proofs.{Common.map, lemmas.Slice.Eq.bytes_eq-Decides, lemmas.Bool.Decides.same_from_decides}
use Rattle.std.specs.Char.{to_ascii_lowercase}
use Rattle.office_http_framing.specs.Fields.{eq_ignore_case}
use Rattle.office_http_framing.proofs.fields.eq_ignore_case.Goals as goal

pub returns : goal.returns
unfolding eq_ignore_case
returns c =
    same_from_decides c.eq_ignore_ascii_case.result _ c.eq_ignore_ascii_case.ensures.test
    (bytes_eq-Decides (map to_ascii_lowercase c.args.a.now) (map to_ascii_lowercase c.args.b.now))
