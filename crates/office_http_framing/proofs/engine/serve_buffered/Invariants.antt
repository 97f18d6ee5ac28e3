use Rattle.std.proofs.Common.{◌+◌, ◌-◌, ◌*◌, ◌≤◌, length}
use Rattle.office_http_framing.specs.{Ends.NoneStops, Serve.ends_of, Stops.KeepsState, Stops.Ran, Stops.moment_of}
use Rattle.office_http_framing.proofs.{ServeLemmas.Progress, AskLemmas.AsksSoFar}
use Rattle.office_http_framing.proofs.engine.serve_buffered.Given as goal

abbrev pub invariant-loop-left : goal.invariant-loop-left
invariant-loop-left g l = record {
  clean : g.M.Machine.is_clean l.machine → g.M.Machine.is_clean l.fn.machine;
  honest : g.M.Machine.storage.is_honest l.machine → g.M.Machine.storage.is_honest l.fn.machine;
  progress : g.M.Machine.is_clean l.machine → (before : g.M.Machine.State) (held : g.M.Machine.Stored) → KeepsState g.M.Machine.storage l.fn.machine held before →
      (after : g.M.Machine.State) × (kept : g.M.Machine.Stored)
      × Progress (Ran g.M.Machine.protocol g.M.Machine.storage (g.M.Machine.storage.may_leave l.fn.machine) (moment_of g.M.Machine.storage l.fn.machine held before) l.machine kept after) l.fn.max_requests l.requests l.left l.fn.buffer l.buffer
      (ends_of (g.R.Source.told l.fn.reader) (g.W.Sink.told l.fn.writer)) (ends_of (g.R.Source.told l.reader) (g.W.Sink.told l.writer));
  asks : AsksSoFar l.fn.max_requests l.left l.fn.buffer l.buffer (g.R.Source.told l.fn.reader) (g.R.Source.told l.reader);
  room : l.requests + l.left ≤ l.fn.max_requests;
  held : length l.fn.buffer ≤ 270336 → length l.buffer ≤ 270336;
  reads : (g.R.Source.told l.reader).counts.calls + length l.fn.buffer ≤ (g.R.Source.told l.fn.reader).counts.calls + 270336 * l.requests + length l.buffer;
  reader : NoneStops (g.R.Source.told l.fn.reader).counts (g.R.Source.told l.reader).counts;
  writer : NoneStops (g.W.Sink.told l.fn.writer).counts (g.W.Sink.told l.writer).counts;
}

-- each request takes at most as many bytes as the buffer has, and each read gives one at least
abbrev pub decreases-loop-left : goal.decreases-loop-left
decreases-loop-left g l = 270337 * l.left + (270336 - length l.buffer)
