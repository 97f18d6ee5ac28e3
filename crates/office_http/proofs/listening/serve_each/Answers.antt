use Rattle.office_http_framing.specs.Stops.{moment_of}
use Rattle.office_http.specs.Listening.{served_by}
use Rattle.office_http.specs.Protocol.{office_protocol, office_storage}
use Rattle.office_http.proofs.ListeningLemmas.{listens-as}
use Rattle.office_http.proofs.StreamLaws.{serves}
use Rattle.office_http.proofs.listening.serve_each.Goals as goal

pub returns-clause-did : goal.returns-clause-did
returns-clause-did g c =
    let it = c.serve_by.ensures.did in
    let storage = office_storage g.S.Shelf.is_honest g.S.Shelf.content g.S.Shelf.written g.S.Shelf.may_leave in (
      it.0,
      it.1,
      λ clean before tables keeps.
          listens-as office_protocol storage (served_by storage)
          (λ first held state last kept after sound requests answers ran.
          serves g.S.Shelf.is_honest g.S.Shelf.content g.S.Shelf.written g.S.Shelf.may_leave (g.S.Shelf.may_leave first) (moment_of storage first held state) last kept after sound.stands.sound requests answers ran)
          c.args.office.now tables before c.serve_by.new.machine it.0 keeps (it.2 clean before tables keeps),
    )
