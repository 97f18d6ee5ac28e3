use Rattle.std.proofs.{Common.string_bytes, lemmas.Simd.map-map}
use Rattle.office_http_responses.specs.Json.{text}
use Rattle.office_http_responses.proofs.lists.texts.Goals as goal

pub returns : goal.returns
returns c = rw (map-map text string_bytes c.args.texts.now) c.array.ensures
