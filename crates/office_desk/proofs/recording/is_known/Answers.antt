use Rattle.std.proofs.Common.{◌∙◌, subst, sym}
use Rattle.office_desk.specs.Recording.{TellsIntersection}
use Rattle.office_desk.proofs.Recorded.{known_read, row_stands}
use Rattle.office_desk.proofs.recording.is_known.Goals as goal

pub returns-clause-tells : goal.returns-clause-tells
returns-clause-tells g c = λ honest.
    let tables = g.S.Shelf.content c.args.shelf.now in
    let row = c.in_ok-row.ensures.row honest in
    subst (λ about. TellsIntersection tables about c.is_some.result) (sym c.in-Some.is) (record {
      known = λ office stands. c.is_some.ensures ∙ known_read _ c.in-Some.id c.in_ok-row.row row office stands;
      told = c.is_some.ensures ∙ row_stands tables c.in-Some.id c.in_ok-row.row row;
    })
