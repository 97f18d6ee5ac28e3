-- The router takes the routes of the table one after another.
use Rattle.std.proofs.Common.{◌≡◌, ℕ, ◌+◌, ◌<◌, List, [], ◌∷◌, length, drop, get_or, suc, refl, Bool, true, false, ◌&&◌, is_none, Result, Ok, Err, sym, ap, add-one, drop-cons, arith}
use Rattle.matchit.specs.{Route.Scan, Route.parse_route, Router.InsertsRead, Router.nearest, declared.error.InsertError.InsertError}
use Rattle.matchit.specs.declared.error.InsertError.TheVariants.{Conflict, InvalidParam, InvalidParamSegment, InvalidCatchAll, OutOfMemory}
use Rattle.matchit.proofs.OnLiterals.{matchit_on_literals}
use Rattle.office_http_requests.specs.declared.route.Endpoint.{Endpoint}
use Rattle.office_http_requests.specs.Routes.{RouteRows, endpoints, route_text, with_scan, with_route, with_routes}

-- a route that went in
pub with_scan-from_insert : (read : Result Scan InsertError) (endpoint : Endpoint) (old new : RouteRows) → InsertsRead read endpoint old new (Ok tt) → with_scan read endpoint old ≡ new
with_scan-from_insert (Ok scan) endpoint old new inserted = sym inserted.1
with_scan-from_insert (Err e) endpoint old new inserted = sym inserted.0

-- an endpoint whose route went in
pub with_route-from_insert : (endpoint : Endpoint) (text : List ℕ) (old new : RouteRows) → text ≡ route_text endpoint → InsertsRead (parse_route text) endpoint old new (Ok tt) → with_route endpoint old ≡ new
unfolding with_route
with_route-from_insert endpoint text old new same inserted = with_scan-from_insert _ endpoint old new (rw same at inserted)

-- the rest of the table goes in after the route at a place
pub with_routes-next : (endpoints : List Endpoint) (i : ℕ) (d : Endpoint) (old new : RouteRows) → i < length endpoints → with_route (get_or endpoints i d) old ≡ new → with_routes (drop (i + 1) endpoints) new ≡ with_routes (drop i endpoints) old
with_routes-next endpoints i d old new within put =
    rw (add-one, drop-cons endpoints i d) (ap (with_routes (drop (suc i) endpoints)) (sym put))

-- a route reads well, and no row conflicts with it
abbrev pub fits_scan : Result Scan InsertError → RouteRows → Bool
fits_scan (Ok scan) rows = is_none (nearest scan.pattern rows)
fits_scan (Err e) rows = false

-- each of these routes reads well, and conflicts with none before it
abbrev pub all_fit : List Endpoint → RouteRows → Bool
all_fit [] rows = true
all_fit (endpoint ∷ rest) rows = fits_scan (parse_route (route_text endpoint)) rows && all_fit rest (with_route endpoint rows)

-- the table's routes fit, by computation
pub table_fits : all_fit endpoints [] ≡ true
unfolding matchit_on_literals with_route
table_fits = refl

-- a route that fits is refused for want of memory alone
pub refused_for_memory : (read : Result Scan InsertError) (endpoint : Endpoint) (old new : RouteRows) (e : InsertError) → fits_scan read old ≡ true → InsertsRead read endpoint old new (Err e) → e ≡ OutOfMemory
refused_for_memory (Ok scan) endpoint old new OutOfMemory fits h = refl
refused_for_memory (Ok scan) endpoint old new (Conflict with) fits h =
    let clash : is_none (nearest scan.pattern old) ≡ false = rw h.1.1 refl in cc
refused_for_memory (Ok scan) endpoint old new InvalidParamSegment fits h = absurd h.1
refused_for_memory (Ok scan) endpoint old new InvalidParam fits h = absurd h.1
refused_for_memory (Ok scan) endpoint old new InvalidCatchAll fits h = absurd h.1
refused_for_memory (Err x) endpoint old new e fits h = absurd (cc)

-- where the route at a place is taken out of the table, it and the rest fit
pub all_fit-next : (endpoints : List Endpoint) (i : ℕ) (d : Endpoint) (rows : RouteRows) → i < length endpoints → all_fit (drop i endpoints) rows ≡ true → (fits_scan (parse_route (route_text (get_or endpoints i d))) rows ≡ true) × (all_fit (drop (i + 1) endpoints) (with_route (get_or endpoints i d) rows) ≡ true)
all_fit-next endpoints i d rows within fits =
    let both : fits_scan (parse_route (route_text (get_or endpoints i d))) rows && all_fit (drop (suc i) endpoints) (with_route (get_or endpoints i d) rows) ≡ true =
    rw (drop-cons endpoints i d) at fits in
    rw add-one (grind arith)
