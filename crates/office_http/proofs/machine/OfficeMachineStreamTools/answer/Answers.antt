use Rattle.office_http_framing.specs.Front.{plain}
use Rattle.office_http.proofs.MachineLemmas.{fault_dealt}
use Rattle.office_http.proofs.machine.OfficeMachineStreamTools.answer.Goals as goal

pub returns-in-Ok-clause-deals : goal.returns-in-Ok-clause-deals
returns-in-Ok-clause-deals g c clean before tables keeps = c.answer_asked.ensures.deals clean before tables (plain c.args.request.now) c.in-Ok.ensures.gives keeps

pub returns-in-Err-clause-deals : goal.returns-in-Err-clause-deals
returns-in-Err-clause-deals g c clean before tables keeps =
    fault_dealt g.S.Shelf.is_honest g.S.Shelf.content g.S.Shelf.written g.S.Shelf.may_leave tables before (plain c.args.request.now) keeps.stands c.args.self.now c.in-Err.fault c.answer_fault.result keeps.held c.in-Err.ensures.gives c.answer_fault.ensures
