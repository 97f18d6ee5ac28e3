-- The table of routes, and the endpoint that `matchit` finds for a path.
use Rattle.std.specs.Prelude.{ℕ, List, [], ◌∷◌, Option, None, Result, Ok, Err, option_map, codes, if◌then◌else◌}
use Rattle.std.specs.Str.{is_utf8}
use Rattle.matchit.specs.Rows.{RowsOf}
use Rattle.matchit.specs.Route.{Scan, parse_route}
use Rattle.matchit.specs.Router.{RouteOf, route_from}
use Rattle.matchit.specs.Order.{placed}
use Rattle.matchit.specs.Seek.{first}
use Rattle.matchit.specs.declared.error.InsertError.{InsertError}
use Rattle.office_http_requests.specs.declared.kind.RecordKind.{RecordKind}
use Rattle.office_http_requests.specs.declared.kind.RecordKind.TheVariants.{Inspect, OpenOrder, UsePart, CloseOrder, Receive}
use Rattle.office_http_requests.specs.declared.route.Endpoint.{Endpoint}
use Rattle.office_http_requests.specs.declared.route.Endpoint.TheVariants.{AddIntersection, State, Timing, TimingCsv, Draft, Begin, Edit, EditCsv, Verify, Check, Commit, Reopen, Abandon, Record, Import, Cabinet, CabinetCsv, OpenOrders, Stock, Overdue}

-- the route that records something in the register
abbrev pub record_route_text : RecordKind → List ℕ
record_route_text Inspect = codes "/intersections/{id}/inspections"
record_route_text OpenOrder = codes "/intersections/{id}/orders"
record_route_text UsePart = codes "/intersections/{id}/orders/{order}/parts"
record_route_text CloseOrder = codes "/intersections/{id}/orders/{order}/close"
record_route_text Receive = codes "/deliveries"

-- the route of an endpoint
abbrev pub route_text : Endpoint → List ℕ
route_text AddIntersection = codes "/intersections"
route_text State = codes "/intersections/{id}"
route_text Timing = codes "/intersections/{id}/timing"
route_text TimingCsv = codes "/intersections/{id}/timing-csv"
route_text Draft = codes "/intersections/{id}/draft"
route_text Begin = codes "/intersections/{id}/begin"
route_text Edit = codes "/intersections/{id}/edit"
route_text EditCsv = codes "/intersections/{id}/edit-csv"
route_text Verify = codes "/intersections/{id}/verify"
route_text Check = codes "/intersections/{id}/check"
route_text Commit = codes "/intersections/{id}/commit"
route_text Reopen = codes "/intersections/{id}/reopen"
route_text Abandon = codes "/intersections/{id}/abandon"
route_text (Record kind) = record_route_text kind
route_text Import = codes "/import"
route_text Cabinet = codes "/intersections/{id}/cabinet"
route_text CabinetCsv = codes "/intersections/{id}/cabinet-csv"
route_text OpenOrders = codes "/intersections/{id}/open-orders"
route_text Stock = codes "/stock"
route_text Overdue = codes "/overdue/{day}"

-- the one method of an endpoint
abbrev pub method_of : Endpoint → List ℕ
method_of AddIntersection = codes "POST"
method_of State = codes "GET"
method_of Timing = codes "GET"
method_of TimingCsv = codes "GET"
method_of Draft = codes "GET"
method_of Begin = codes "POST"
method_of Edit = codes "POST"
method_of EditCsv = codes "POST"
method_of Verify = codes "POST"
method_of Check = codes "POST"
method_of Commit = codes "POST"
method_of Reopen = codes "POST"
method_of Abandon = codes "POST"
method_of (Record kind) = codes "POST"
method_of Import = codes "POST"
method_of Cabinet = codes "GET"
method_of CabinetCsv = codes "GET"
method_of OpenOrders = codes "GET"
method_of Stock = codes "GET"
method_of Overdue = codes "GET"

-- all endpoints, in the order of the table of routes
abbrev pub endpoints : List Endpoint
endpoints =
    AddIntersection ∷ State ∷ Timing ∷ TimingCsv ∷ Draft ∷ Begin
    ∷ Edit ∷ EditCsv ∷ Verify ∷ Check ∷ Commit ∷ Reopen ∷ Abandon
    ∷ Record Inspect ∷ Record OpenOrder ∷ Record UsePart ∷ Record CloseOrder ∷ Record Receive
    ∷ Import ∷ Cabinet ∷ CabinetCsv ∷ OpenOrders ∷ Stock ∷ Overdue ∷ []

-- the rows of a router: patterns of paths, each with the route that leads to its endpoint
abbrev pub RouteRows : Type 0
RouteRows = RowsOf (RouteOf Endpoint)

-- the rows with one more route, to this endpoint, if its text could be read as a route
abbrev pub with_scan : Result Scan InsertError → Endpoint → RouteRows → RouteRows
with_scan (Ok scan) endpoint rows = placed (scan.pattern, route_from scan endpoint) rows
with_scan (Err e) endpoint rows = rows

-- the rows with the route of an endpoint
unfoldable pub with_route : Endpoint → RouteRows → RouteRows
with_route endpoint rows = with_scan (parse_route (route_text endpoint)) endpoint rows

-- the rows with the routes of these endpoints, put in one after another
abbrev pub with_routes : List Endpoint → RouteRows → RouteRows
with_routes [] rows = rows
with_routes (endpoint ∷ rest) rows = with_routes rest (with_route endpoint rows)

-- the rows of a router that has the routes of all endpoints
unfoldable pub route_rows : RouteRows
route_rows = with_routes endpoints []

-- the endpoint that `matchit` finds for a path; none for bytes that are not UTF-8
unfoldable pub endpoint_of : List ℕ → Option Endpoint
endpoint_of path = if is_utf8 path then option_map (λ route. route.value) (first route_rows path) else None
