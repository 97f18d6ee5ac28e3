use Rattle.std.proofs.Common.{refl}
use Rattle.office_http.proofs.AwayLemmas.{answers_away}
use Rattle.office_http.proofs.listening.answer_away.Goals as goal

pub returns : goal.returns
returns g c =
    let it = c.serve_by.ensures.did in
    let listens = it.2 tt tt tt (record { stands = tt; held = λ honest. refl }) in
    (it.0, it.1, answers_away it.0 _ tt tt _ listens.kept listens.after listens.each)
