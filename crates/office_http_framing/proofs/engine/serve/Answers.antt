use Rattle.std.proofs.Common.{Ok, Err, refl}
use Rattle.office_http_framing.specs.Serve.{ends_of}
use Rattle.office_http_framing.proofs.ServeLemmas.{Did-nothing, Did-whole, calls_none, calls_whole, has_buffer}
use Rattle.office_http_framing.proofs.StopLemmas.{ran-start}
use Rattle.office_http_framing.proofs.engine.serve.Goals as goal

-- the buffer was refused
pub returns-in_default-clause-did : goal.returns-in_default-clause-did
returns-in_default-clause-did g c clean before held keeps = (
  before,
  held,
  Did-nothing g.M.Machine.protocol _ c.args.max_requests (ends_of (g.R.Source.told c.args.reader.now) (g.W.Sink.told c.args.writer.now)) (ran-start g.M.Machine.protocol g.M.Machine.storage c.args.machine.now held before keeps),
)

pub returns-in_default-clause-calls : goal.returns-in_default-clause-calls
returns-in_default-clause-calls g c = calls_none _ _

-- ---- a stream of its own begins with no byte and is never left

pub returns-in-Ok-serve_buffered-clause-did : goal.returns-in-Ok-serve_buffered-clause-did
returns-in-Ok-serve_buffered-clause-did g c clean before held keeps =
    let did = c.in-Ok-serve_buffered.ensures.did clean before held keeps in
    (did.0, did.1, Did-whole g.M.Machine.protocol _ c.args.max_requests _ _ _ _ (Ok c.in-Ok-serve_buffered.part) c.in-Ok.ensures (c.in-Ok-serve_buffered.ensures.whole refl) did.2)

pub returns-clause-did : goal.returns-clause-did
returns-clause-did g c clean before held keeps =
    let did = c.in-Err.ensures.did clean before held keeps in
    (did.0, did.1, Did-whole g.M.Machine.protocol _ c.args.max_requests _ _ _ _ (Err c.in-Err.fault) c.in-Ok.ensures (c.in-Err.ensures.whole refl) did.2)

pub returns-in-Ok-serve_buffered-clause-calls : goal.returns-in-Ok-serve_buffered-clause-calls
returns-in-Ok-serve_buffered-clause-calls g c =
    let part = c.in-Ok-serve_buffered.ensures in
    calls_whole _ (Ok c.in-Ok-serve_buffered.part) _ _ _ _ c.in-Ok.ensures (part.whole refl) part.fault part.asks part.reads part.bound

pub returns-clause-calls : goal.returns-clause-calls
returns-clause-calls g c =
    let part = c.in-Err.ensures in
    calls_whole _ (Err c.in-Err.fault) _ _ _ _ c.in-Ok.ensures (part.whole refl) part.fault part.asks part.reads part.bound

pub returns-clause-untouched : goal.returns-clause-untouched
returns-clause-untouched g c none = absurd (has_buffer c.in-Err.fault (ends_of (g.R.Source.told c.args.reader.now) (g.W.Sink.told c.args.writer.now)) (ends_of (g.R.Source.told c.serve_buffered.new.reader) (g.W.Sink.told c.serve_buffered.new.writer)) c.in-Err.ensures.fault cc)
