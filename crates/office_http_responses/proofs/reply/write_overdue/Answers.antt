use Rattle.std.proofs.lemmas.Simd.{map-map}
use Rattle.cabinet_core.specs.Overdue.{listed_of}
use Rattle.office_http_responses.specs.RegisterTrees.{listed_tree}
use Rattle.office_http_responses.proofs.reply.write_overdue.Goals as goal

pub returns : goal.returns
returns c =
    rw (← c.as_slice.ensures, map-map listed_tree listed_of c.as_slice.result.now) c.object_of_array.ensures
