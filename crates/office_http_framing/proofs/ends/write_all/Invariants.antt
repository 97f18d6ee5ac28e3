use Rattle.std.proofs.Common.{◌≡◌, ℕ, List, ◌++◌, length}
use Rattle.std.specs.Io.KnownBytes.{Appends}
use Rattle.office_http_framing.specs.Ends.{Grows, NoneStops}
use Rattle.office_http_framing.proofs.ends.write_all.Given as goal

-- a front of the bytes was taken, and what is left follows it
abbrev pub invariant-loop-rest : goal.invariant-loop-rest
invariant-loop-rest g l = record {
  taken : (front : List ℕ) × (l.bytes ≡ front ++ l.rest) × Appends (g.W.Sink.told l.fn.writer).bytes (g.W.Sink.told l.writer).bytes front;
  counts : Grows (g.W.Sink.told l.fn.writer).counts (g.W.Sink.told l.writer).counts;
  stops : NoneStops (g.W.Sink.told l.fn.writer).counts (g.W.Sink.told l.writer).counts;
}

abbrev pub decreases-loop-rest : goal.decreases-loop-rest
decreases-loop-rest g l = length l.rest
