use Rattle.std.proofs.Common.{subst}
use Rattle.office_http_framing.specs.Serve.{ends_of}
use Rattle.signal_office_file.specs.Ended.{EndsOver, stream_work}
use Rattle.office_lives.specs.Life.{IsClosedWith}
use Rattle.office_lives.proofs.LifeLemmas.{some_so}
use Rattle.office_lives.proofs.lives.served_once.Goals as goal

pub returns-clause-clean : goal.returns-clause-clean
returns-clause-clean g c =
    let start = ends_of (g.R.Source.told c.args.reader.now) (g.W.Sink.told c.args.writer.now) in
    let end = ends_of (g.R.Source.told c.answered_in-ended.new.source) (g.W.Sink.told c.answered_in-ended.new.out) in
    some_so (λ it. IsClosedWith c.answered_in-ended.result it.0 it.1) _ c.closed_after.result
    (λ it is. (subst (EndsOver c.args.files (stream_work 1000000 start end _)) is c.answered_in-ended.ensures).clean) c.closed_after.ensures

pub returns-clause-made : goal.returns-clause-made
returns-clause-made g c =
    let start = ends_of (g.R.Source.told c.args.reader.now) (g.W.Sink.told c.args.writer.now) in
    let end = ends_of (g.R.Source.told c.answered_in-ended.new.source) (g.W.Sink.told c.answered_in-ended.new.out) in
    some_so (λ it. IsClosedWith c.answered_in-ended.result it.0 it.1) _ c.closed_after.result
    (λ it is. (subst (EndsOver c.args.files (stream_work 1000000 start end _)) is c.answered_in-ended.ensures).made) c.closed_after.ensures
