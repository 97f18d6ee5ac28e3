use Rattle.std.proofs.Common.{refl}
use Rattle.office_lives.specs.Turns.{state_in}
use Rattle.office_lives.proofs.StreamLemmas.{serves_part, stops_part}
use Rattle.office_lives.proofs.turns.InTurnsOfficeTaskResultPartServeFault.done_with.Goals as goal

pub returns : goal.returns
returns g c =
    let part = c.serve_buffered-outcome in
    let start = state_in g.R.Source.told g.W.Sink.told c.args.self.now in
    let end = state_in g.R.Source.told g.W.Sink.told (record { reader = part.new.reader; writer = part.new.writer; buffer = part.new.buffer; left = c.left_after-self.result }) in
    record {
      clean = part.ensures.clean;
      honest = part.ensures.honest;
      does = λ clean honest. record {
        outcome = part.result;
        is = refl;
        did = serves_part g.S.Shelf start end part.result c.args.office.now part.new.office
            (λ before stands. part.ensures.did clean before (g.S.Shelf.content c.args.office.now) (record { stands = stands; held = λ _. refl })) honest;
        fault = part.ensures.fault;
        left = c.left_after-self.ensures;
      };
      stop = λ clean tables held alone found may.
          stops_part g.S.Shelf start end part.result c.args.office.now part.new.office tables found alone may
          (λ before stands. part.ensures.did clean before tables (record { stands = stands; held = held }));
    }
