use Rattle.std.proofs.Common.{refl, ◌∙◌, arith}
use Rattle.std.proofs.lemmas.Result.{err_from_is_err_and}
use Rattle.office_http_requests.specs.{Routes.route_rows, Routes.endpoints, declared.route.Endpoint.TheVariants.AddIntersection}
use Rattle.office_http_requests.proofs.RouteTable.{with_route-from_insert, with_routes-next, all_fit-next, table_fits, refused_for_memory}
use Rattle.office_http_requests.proofs.route.router.Goals as goal

pub loop-endpoint-init : goal.loop-endpoint-init
unfolding route_rows
loop-endpoint-init c = rw c.new-router.ensures record { puts_table = refl; rest_fits = table_fits }

pub loop-endpoint-preserved : goal.loop-endpoint-preserved
loop-endpoint-preserved c =
    let put = with_route-from_insert _ _ _ _ c.route.ensures c.in_ok-insert.ensures in
    let fits = all_fit-next endpoints c.loop-endpoint.endpoint-index AddIntersection c.loop-endpoint.router (omega arith) c.loop-endpoint.invariant.rest_fits in
    record {
      puts_table = with_routes-next endpoints c.loop-endpoint.endpoint-index _ _ _ (omega arith) put ∙ c.loop-endpoint.invariant.puts_table;
      rest_fits = rw put at fits.1;
    }

pub returns-in_err-insert-clause-err : goal.returns-in_err-insert-clause-err
returns-in_err-insert-clause-err c =
    let p = err_from_is_err_and c.from_residual.result c.from_residual.ensures.1 in
    let fits = all_fit-next endpoints c.loop-endpoint.endpoint-index AddIntersection c.loop-endpoint.router (omega arith) c.loop-endpoint.invariant.rest_fits in
    rw (p.1, p.2) (refused_for_memory _ _ _ _ _ fits.0 (rw c.route.ensures at c.in_err-insert.ensures))
