use Rattle.std.proofs.Common.{◌∙◌, [], refl}
use Rattle.office_http.proofs.ListeningLemmas.{listens-start}
use Rattle.signal_office.proofs.ServingLemmas.{heard_turn, unheard_turn}
use Rattle.signal_office.proofs.serving.Serving.serve_port.Goals as goal

pub returns-in-Err-clause-did : goal.returns-in-Err-clause-did
returns-in-Err-clause-did g c = (
  [],
  unheard_turn c.args.self.now.listener c.args.self.now.left _ c.in-Err.fault c.in-Err.ensures.refused c.in-Err.ensures.unheard c.in-Err.ensures.taken c.in-Err.ensures.left,
  λ clean before tables keeps. listens-start _ _ _ _ tables before keeps,
)

pub returns-clause-did : goal.returns-clause-did
returns-clause-did g c =
    let served = c.serve_each-ended.ensures.did in (
      served.0,
      heard_turn c.args.self.now.listener _ c.args.self.now.left _ _ served.0 _ c.in-Ok.ensures.left (λ it is. c.begin_turn.ensures ∙ c.in-Ok.ensures.kept it is) (λ none. c.begin_turn.ensures ∙ c.in-Ok.ensures.listening none) (_, refl, c.serve_each-ended.result, served.1, c.outcome_of.ensures),
      served.2,
    )
