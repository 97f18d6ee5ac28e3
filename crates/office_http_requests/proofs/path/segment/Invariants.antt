use Rattle.std.proofs.Common.{◌≡◌, ◌-◌}
use Rattle.office_http_requests.specs.Paths.{segment}
use Rattle.office_http_requests.proofs.path.segment.Given as goal

abbrev pub invariant-loop : goal.invariant-loop
invariant-loop l = segment (l.index - l.counter) l.rest ≡ segment l.index l.path
