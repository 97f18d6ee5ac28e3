use Rattle.office_http_framing.proofs.ServeLemmas.{DidPart-weaker}
use Rattle.office_http_framing.specs.Stops.{moment_of}
use Rattle.office_http.specs.Protocol.{office_protocol, office_storage}
use Rattle.office_http.proofs.StreamLaws.{serves}
use Rattle.office_http.proofs.service.serve_buffered.Goals as goal

pub returns-clause-did : goal.returns-clause-did
returns-clause-did g c clean before tables keeps =
    let did = c.serve_buffered.ensures.did clean before tables keeps in (
      did.0,
      did.1,
      DidPart-weaker office_protocol _ _ c.args.max_requests _ _ _ _ c.serve_buffered.result
          (serves g.S.Shelf.is_honest g.S.Shelf.content g.S.Shelf.written g.S.Shelf.may_leave (g.S.Shelf.may_leave c.args.office.now)
          (moment_of (office_storage g.S.Shelf.is_honest g.S.Shelf.content g.S.Shelf.written g.S.Shelf.may_leave) c.args.office.now tables before) c.serve_buffered.new.machine did.1 did.0 keeps.stands.sound) did.2,
    )
