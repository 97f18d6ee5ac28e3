use Rattle.signal_office.proofs.ServingLemmas.{served_within, serves}
use Rattle.signal_office.proofs.serving.ServingOfficeTaskUnit.done_with.Goals as goal

pub returns : goal.returns
returns g c =
    let port = c.serve_port.ensures in
    record {
      clean = port.clean;
      honest = port.honest;
      does = λ clean honest.
          serves g.S.Shelf c.args.self.now c.serve_port.new.self c.args.office.now c.serve_port.new.office c.serve_port.result port.did.0 port.did.1 (port.did.2 clean) honest;
      stop = served_within g.S.Shelf c.args.office.now c.serve_port.new.office port.did.0 port.did.2;
    }
