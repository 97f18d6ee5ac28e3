use Rattle.std.proofs.Common.{◌≡◌, drop, true}
use Rattle.office_http_requests.specs.Routes.{with_routes, route_rows, endpoints}
use Rattle.office_http_requests.proofs.RouteTable.{all_fit}
use Rattle.office_http_requests.proofs.route.router.Given as goal

abbrev pub invariant-loop-endpoint : goal.invariant-loop-endpoint
invariant-loop-endpoint l = record {
  puts_table : with_routes (drop l.endpoint-index endpoints) l.router ≡ route_rows;
  rest_fits : all_fit (drop l.endpoint-index endpoints) l.router ≡ true;
}
