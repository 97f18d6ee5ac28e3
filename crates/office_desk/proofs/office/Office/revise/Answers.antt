use Rattle.office_desk.proofs.Edits.{edit_look}
use Rattle.office_desk.proofs.office.Office.revise.Goals as goal

pub returns : goal.returns
returns g c =
    let read = c.decide_revision-decided.ensures in
    let decided = edit_look c.args.id c.args.clerk.now c.args.edit.now g.S.Shelf _ c.or_refusal.result _ _ read.reads c.or_refusal.ensures read.decides in
    rw (← c.self.view_is) (record { decided = _; mid = _; looks = decided; carried = c.make.ensures })
