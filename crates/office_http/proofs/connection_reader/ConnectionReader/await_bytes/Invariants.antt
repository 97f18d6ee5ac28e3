use Rattle.std.proofs.Common.{◌≡◌}
use Rattle.office_http.proofs.connection_reader.ConnectionReader.await_bytes.Given as goal

abbrev pub invariant-loop : goal.invariant-loop
invariant-loop l = l.self.counts ≡ l.fn.self.counts
