use Rattle.std.proofs.Common.{inr, subst}
use Rattle.std.proofs.Math.Logic.{∥∥₁_map}
use Rattle.office_http.specs.Protocol.{office_protocol}
use Rattle.office_http_framing.specs.Serve.{ends_of}
use Rattle.office_http_framing.proofs.ServeLemmas.{Did-weaker}
use Rattle.signal_office_file.specs.Ended.{EndsOver, stream_work}
use Rattle.office_lives.specs.Life.{IsUnclosedWith}
use Rattle.office_lives.proofs.LifeLemmas.{some_so}
use Rattle.office_lives.proofs.failing.served_unclosed.Goals as goal

pub returns-clause-databases : goal.returns-clause-databases
returns-clause-databases g c =
    some_so (λ back. IsUnclosedWith c.answered_in-ended.result back) _ c.left_after.result
    (λ back is clean. ((subst (EndsOver c.args.files (stream_work 1000000 (ends_of (g.R.Source.told c.args.reader.now) (g.W.Sink.told c.args.writer.now)) (ends_of (g.R.Source.told c.answered_in-ended.new.source) (g.W.Sink.told c.answered_in-ended.new.out)) _)) is.1 c.answered_in-ended.ensures).3 clean).2.0.0) c.left_after.ensures

pub returns-clause-made : goal.returns-clause-made
returns-clause-made g c =
    let start = ends_of (g.R.Source.told c.args.reader.now) (g.W.Sink.told c.args.writer.now) in
    let end = ends_of (g.R.Source.told c.answered_in-ended.new.source) (g.W.Sink.told c.answered_in-ended.new.out) in
    some_so (λ back. IsUnclosedWith c.answered_in-ended.result back) _ c.left_after.result
    (λ back is clean found may.
    let ended = subst (EndsOver c.args.files (stream_work 1000000 start end _)) is.1 c.answered_in-ended.ensures in
    let it = ended.3 clean in (
      it.0,
      it.1,
      ∣ inr (
        ended.0,
        λ before stands.
            let ran = it.2.1 before stands in
            (ran.0, Did-weaker office_protocol _ _ 1000000 start end ended.0 (λ requests answers did. (did.0, ∥∥₁_map may (λ m. did.1.2 found m))) ran.1),
      ) ∣₁,
    )) c.left_after.ensures
